-- The bytes that a node names.
use Rattle.std.proofs.Common.{◌≡◌, ◌+◌, ◌-◌, ◌*◌, ◌/◌, ◌%◌, ◌<◌, ◌≤◌, ℕ, zero, suc, List, [], ◌∷◌, length, map, get_or, refl, sym, ap, subst, ◌∙◌, inl, inr, zero-add, length-append, arith}
use Rattle.std.specs.Int.{div_ceil}
use Rattle.std.specs.List.{range_with_len, All}
use Rattle.std.proofs.lemmas.Bool.{cases_lt}
use Rattle.std.proofs.lemmas.List.{get_or_past, get_or_append_left, get_or-append_right}
use Rattle.std.proofs.lemmas.List.FromFn.{length-map-range_with_len, get_or-map-range_with_len, fill_by_all}
use Rattle.cx_base.specs.Packing.{packed, unpacked, packed_at}
use Rattle.cx_base.specs.Store.{IsKey, IsDocument}
use Rattle.cx_base.proofs.PackingLemmas.{unpacked-packed}
use Rattle.avl_words.specs.Lines.{word_of}
use Rattle.index_validation.specs.Layout.{IsChain, Holds}
use Rattle.index_validation.specs.Reading.{chain_words, text_at}

-- bytes are small, also behind the end
pub small_everywhere : (P : ℕ → Type 0) (bytes : List ℕ) → ((b : ℕ) → P b → b < 256) → All P bytes → (i : ℕ) → get_or bytes i 0 < 256
small_everywhere P bytes small all i =
    elim (cases_lt i (length bytes)) [
      | inl l ↦ small (get_or bytes i 0) (all i 0 l)
      | inr l ↦ subst (λ b. b < 256) (sym (get_or_past bytes i 0 l)) (omega arith)
    ]

pub key_small : (key : List ℕ) → IsKey key → (i : ℕ) → get_or key i 0 < 256
key_small key is = small_everywhere (λ b. (33 ≤ b) × (b ≤ 126)) key (λ b h. omega (arith, h.1)) is.visible

pub document_small : (document : List ℕ) → IsDocument document → (i : ℕ) → get_or document i 0 < 256
document_small document is = small_everywhere (λ b. (32 ≤ b) × (b < 256)) document (λ b h. h.1) is.plain

-- the packed words of a chain
chain_words_long : (n line : ℕ) (ws : List ℕ) → length (chain_words n line ws) ≡ 7 * n
chain_words_long zero line ws = refl
chain_words_long (suc n) line ws =
    omega (
      arith,
      length-append (map (λ i. word_of ws line (1 + i)) (range_with_len 0 7)) (chain_words n (word_of ws line 0) ws),
      length-map-range_with_len (λ i. word_of ws line (1 + i)) 0 7,
      chain_words_long n (word_of ws line 0) ws,
    )

-- packed word `k` of a chain of blocks is word 1 + `k` mod 7 of block `k` / 7
chain_word : (ws lines : List ℕ) (first k : ℕ) → IsChain ws first lines → k < 7 * length lines → get_or (chain_words (length lines) first ws) k 0 ≡ word_of ws (get_or lines (k / 7) 0) (1 + k % 7)
chain_word ws [] first k c l = absurd (omega arith)
chain_word ws (line ∷ lines) first k c l =
    let row = map (λ i. word_of ws first (1 + i)) (range_with_len 0 7) in
    let rest = chain_words (length lines) (word_of ws first 0) ws in
    let long = length-map-range_with_len (λ i. word_of ws first (1 + i)) 0 7 in
    elim (cases_lt k 7) [
      | inl small ↦
          let place : k / 7 ≡ 0 = omega arith in
          let within : k % 7 ≡ k = omega arith in
          get_or_append_left row rest 0 k (omega (arith, long)) ∙ get_or-map-range_with_len (λ i. word_of ws first (1 + i)) 0 7 k k 0 small (zero-add k)
          ∙ ap (λ f. word_of ws f (1 + k)) c.0 ∙ sym (ap (λ n. word_of ws (get_or (line ∷ lines) n 0) (1 + k % 7)) place ∙ ap (λ n. word_of ws line (1 + n)) within)
      | inr large ↦
          let place : k / 7 ≡ suc ((k - 7) / 7) = omega arith in
          let within : k % 7 ≡ (k - 7) % 7 = omega arith in
          let behind = subst (λ f. IsChain ws (word_of ws f 0) lines) (sym c.0) c.1 in
          get_or-append_right row rest 7 k 0 long large ∙ chain_word ws lines (word_of ws first 0) (k - 7) behind (omega arith)
          ∙ sym (ap (λ n. word_of ws (get_or (line ∷ lines) n 0) (1 + k % 7)) place ∙ ap (λ n. word_of ws (get_or lines ((k - 7) / 7) 0) (1 + n)) within)
    ]

-- the bytes that a chain holds
pub text_is : (ws : List ℕ) (node at : ℕ) (lines bytes : List ℕ) → Holds ws (word_of ws node at) lines bytes → word_of ws node (at + 1) ≡ length bytes → ((i : ℕ) → get_or bytes i 0 < 256) → text_at node at ws ≡ bytes
unfolding text_at
text_is ws node at lines bytes h long small =
    let first = word_of ws node at in
    let n = length lines in
    let count : (word_of ws node (at + 1) + 55) / 56 ≡ n = ap (λ k. (k + 55) / 56) long ∙ sym h.enough in
    let words : chain_words n first ws ≡ packed (7 * n) bytes = fill_by_all (packed_at bytes) (chain_words n first ws) (7 * n) 0 (chain_words_long n first ws) (λ k l. chain_word ws lines first k h.chain l ∙ h.packed k l) in
    ap (λ k. unpacked (word_of ws node (at + 1)) (chain_words k first ws)) count ∙ ap (λ k. unpacked k (chain_words n first ws)) long ∙ ap (λ w. unpacked (length bytes) w) words
    ∙ unpacked-packed (7 * n) bytes small (let enough = h.enough in omega arith)

pub blocks_are : (len : ℕ) → (len + 55) / 56 ≡ div_ceil len 56
blocks_are len = omega arith
