-- Bytes in a chain of blocks, read word by word.
use Rattle.std.proofs.Common.{◌≡◌, ◌≢◌, ◌+◌, ◌*◌, ◌/◌, ◌%◌, ◌<◌, ◌≤◌, ℕ, zero, suc, List, [], ◌∷◌, length, get_or, set, refl, sym, ap, add-one, ◌∙◌, ◌⊎◌, inl, inr, below_more, arith}
use Rattle.std.proofs.lemmas.Bool.{cases_eq, cases_lt}
use Rattle.std.proofs.lemmas.List.{get_or_past, get_or-set_same, get_or-set_other}
use Rattle.std.proofs.lemmas.List.FromFn.{fill_by_all}
use Rattle.cx_base.specs.Packing.{packed_at, packed}
use Rattle.avl_words.specs.Lines.{word_of}
use Rattle.index_validation.specs.Layout.{IsChain, Holds}

-- the lines of a chain, place by place
pub chain_first : (ws lines : List ℕ) (first : ℕ) → IsChain ws first lines → first ≡ get_or lines 0 0
chain_first ws [] first c = c
chain_first ws (line ∷ lines) first c = c.0

-- word 0 of the line at place `j` of a chain is the line at the next place, `suc j`, and 0 at the last one
chain_after : (ws lines : List ℕ) (first j : ℕ) → IsChain ws first lines → j < length lines → word_of ws (get_or lines j 0) 0 ≡ get_or lines (suc j) 0
chain_after ws [] first j c l = absurd (omega arith)
chain_after ws (line ∷ lines) first zero c l = chain_first ws lines (word_of ws line 0) c.1
chain_after ws (line ∷ lines) first (suc j) c l = chain_after ws lines (word_of ws line 0) j c.1 (omega arith)

-- word 0 of the line at place `j` of a chain is the line at `j + 1`, the next place as the code counts it
pub chain_next : (ws lines : List ℕ) (first j : ℕ) → IsChain ws first lines → j < length lines → word_of ws (get_or lines j 0) 0 ≡ get_or lines (j + 1) 0
chain_next ws lines first j c l = chain_after ws lines first j c l ∙ ap (λ n. get_or lines n 0) (sym (add-one j))

-- behind the bytes packed words are 0
pub word_at_past : (bytes : List ℕ) (i : ℕ) → length bytes ≤ 8 * i → packed_at bytes i ≡ 0
word_at_past bytes i l =
    omega (arith, get_or_past bytes (8 * i) 0 (omega arith), get_or_past bytes (8 * i + 1) 0 (omega arith), get_or_past bytes (8 * i + 2) 0 (omega arith), get_or_past bytes (8 * i + 3) 0 (omega arith), get_or_past bytes (8 * i + 4) 0 (omega arith), get_or_past bytes (8 * i + 5) 0 (omega arith), get_or_past bytes (8 * i + 6) 0 (omega arith), get_or_past bytes (8 * i + 7) 0 (omega arith))

-- what is known once the first i words are read, and `line` is to be read next
pub record SoFar (i line : ℕ) (into lines bytes : List ℕ) : Type 0 where
  pub at : line ≡ get_or lines (i / 7) 0
  pub front : (k : ℕ) → k < i → get_or into k 0 ≡ packed_at bytes k

abbrev pub ReadSoFar : ℕ → ℕ → ℕ → ℕ → List ℕ → List ℕ → Type 0
ReadSoFar first count i line into ws = (lines bytes : List ℕ) → Holds ws first lines bytes → count ≡ (length bytes + 7) / 8 → SoFar i line into lines bytes

-- a packed word `i` of some bytes has its place in their blocks, which have seven words each
word_within : (i count bytes lines : ℕ) → i < count → count ≡ (bytes + 7) / 8 → lines ≡ (bytes + 55) / 56 → i < 7 * lines
word_within i count bytes lines l c e = omega arith

pub line_within : (i lines : ℕ) → i < 7 * lines → i / 7 < lines
line_within i lines l = omega arith

-- the place of the next word, on the same line or on the next
pub next_line : (ws lines : List ℕ) (first i line next : ℕ) → IsChain ws first lines → i < 7 * length lines → line ≡ get_or lines (i / 7) 0 →
    (i % 7 ≡ 6 → word_of ws line 0 ≡ next) → (i % 7 ≢ 6 → next ≡ line) → (i % 7 ≡ 6) ⊎ (i % 7 ≢ 6) → next ≡ get_or lines ((i + 1) / 7) 0
next_line ws lines first i line next c l at last other (inl h) =
    let place : i / 7 + 1 ≡ (i + 1) / 7 = omega arith in
    sym (last h) ∙ ap (λ x. word_of ws x 0) at ∙ chain_next ws lines first (i / 7) c (line_within i (length lines) l) ∙ ap (λ n. get_or lines n 0) place
next_line ws lines first i line next c l at last other (inr h) =
    let place : i / 7 ≡ (i + 1) / 7 = omega arith in
    other h ∙ at ∙ ap (λ n. get_or lines n 0) place

-- one word more
pub read_more : (ws : List ℕ) (first count i line next v : ℕ) (into : List ℕ) → i < count → i < length into → ReadSoFar first count i line into ws →
    get_or ws (8 * line + (1 + i % 7)) 0 ≡ v → (i % 7 ≡ 6 → word_of ws line 0 ≡ next) × (i % 7 ≢ 6 → next ≡ line) → ReadSoFar first count (i + 1) next (set into i v) ws
read_more ws first count i line next v into l room r word after lines bytes h c =
    let so = r lines bytes h c in
    let inside = word_within i count (length bytes) (length lines) l c h.enough in
    let is : v ≡ packed_at bytes i = sym word ∙ ap (λ x. get_or ws (8 * x + (1 + i % 7)) 0) so.at ∙ h.packed i inside in
    record {
      at = next_line ws lines first i line next h.chain inside so.at after.0 after.1 (cases_eq (i % 7) 6);
      front = below_more (λ k. get_or (set into i v) k 0 ≡ packed_at bytes k) i (λ k b. (let ne : k ≢ i = omega arith in rw get_or-set_other (so.front k b))) (rw get_or-set_same is);
    }

-- where all words of a text's blocks were read, and the others are 0, they are the packed words of the text
pub read_all : (ws : List ℕ) (first count i line : ℕ) (into : List ℕ) → i ≡ count → ReadSoFar first count i line into ws → ((k : ℕ) → i ≤ k → get_or into k 0 ≡ 0) →
    (lines bytes : List ℕ) → Holds ws first lines bytes → count ≡ (length bytes + 7) / 8 → into ≡ packed (length into) bytes
read_all ws first count i line into e r rest lines bytes h c =
    let so = r lines bytes h c in
    fill_by_all (packed_at bytes) into (length into) 0 refl (λ k b. elim (cases_lt k i) [ inl lt ↦ so.front k lt | inr ge ↦ rest k (omega arith) ∙ sym (word_at_past bytes k (omega arith)) ])
