-- Bytes that a chain of blocks holds, or does not.
use Rattle.std.proofs.Common.{◌≡◌, ◌≢◌, ◌+◌, ◌-◌, ◌*◌, ◌/◌, ◌%◌, ◌<◌, ◌≤◌, ℕ, Bool, List, length, get_or, set, take, drop, refl, sym, ap, subst, ◌∙◌, zero-add, inl, inr, below_more, arith}
use Rattle.std.specs.List.{All}
use Rattle.std.proofs.lemmas.Bool.{cases_eq, cases_lt}
use Rattle.std.proofs.lemmas.List.{length-take, length-drop, get_or_past, get_or-take, get_or-drop, get_or-set_same, get_or-set_other}
use Rattle.std.proofs.lemmas.List.Elements.{All-from_get_or, All-weaker}
use Rattle.std.proofs.lemmas.List.FromFn.{fill_by_all, length-map-range_with_len, get_or-map-range_with_len}
use Rattle.cx_base.proofs.PackingLemmas.{packed_byte}
use Rattle.cx_base.specs.Packing.{byte_at, packed_at, packed, unpacked}
use Rattle.avl_words.specs.Lines.{IsWithin, word_of}
use Rattle.index_validation.specs.Layout.{IsChain, Holds}
use Rattle.index_validation.specs.Lawful.{HasChain, HasBlocks, IsContent, AreBytesBetween, IsFilled, ReadsText, NoText}
use Rattle.index_validation.proofs.BlockReads.{next_line, word_at_past}
use Rattle.index_validation.proofs.Marking.{marked_there}

-- a line below the number of marks is within words that have a line for each mark
inside : (x n m : ℕ) → x < n → 8 * n ≤ m → 8 * x + 8 ≤ m
inside x n m l room = omega arith

-- all lines of a chain that was marked are within words that have a line for each mark
pub chain_is_there : (ws : List ℕ) (first count : ℕ) (old now : List Bool) → HasChain ws first count old now → 8 * length old ≤ length ws → HasBlocks ws first count
chain_is_there ws first count old now h room = record {
  lines = h.lines;
  chain = h.chain;
  counted = h.counted;
  within = All-weaker (λ x. x < length old) (IsWithin ws) (λ x l. inside x (length old) (length ws) l room) h.lines (marked_there old now h.lines h.marks);
}

-- the first `i` words of the blocks of these lines were read into `content`, and `line` is the one of word `i`
pub record ContentSoFar (ws lines content : List ℕ) (i line : ℕ) : Type 0 where
  pub at : line ≡ get_or lines (i / 7) 0
  pub front : (k : ℕ) → k < i → get_or content k 0 ≡ word_of ws (get_or lines (k / 7) 0) (1 + k % 7)

-- of each chain of `count` lines from `first` the first `i` words were read, and `line` is the one of word `i`
abbrev pub ReadsSoFar : List ℕ → ℕ → ℕ → List ℕ → ℕ → ℕ → Type 0
ReadsSoFar ws first count content i line = (lines : List ℕ) → IsChain ws first lines → length lines ≡ count → ContentSoFar ws lines content i line

-- with word `i` of the blocks stored as `v`, the first `i + 1` words are read, and `next` is the line of the one behind them
pub content_more : (ws : List ℕ) (first count : ℕ) (content : List ℕ) (i line next v : ℕ) → ReadsSoFar ws first count content i line → i < 7 * count → 7 * count ≤ length content → v ≡ word_of ws line (1 + i % 7) →
    (i % 7 ≡ 6 → next ≡ word_of ws line 0) → (i % 7 ≢ 6 → next ≡ line) → ReadsSoFar ws first count (set content i v) (i + 1) next
content_more ws first count content i line next v so l room is last other lines c e =
    let s = so lines c e in
    record {
      at = next_line ws lines first i line next c (omega (arith, e)) s.at (λ h. sym (last h)) other (cases_eq (i % 7) 6);
      front = below_more (λ k. get_or (set content i v) k 0 ≡ word_of ws (get_or lines (k / 7) 0) (1 + k % 7)) i
          (λ k b. get_or-set_other content i k v 0 (omega arith) ∙ s.front k b)
          (get_or-set_same content i v 0 (omega arith) ∙ is ∙ ap (λ x. word_of ws x (1 + i % 7)) s.at);
    }

-- all words of each chain of `count` lines from `first` were read, and zeros stand behind them up to `i`
pub record ClearedSoFar (ws : List ℕ) (first count : ℕ) (content : List ℕ) (i : ℕ) : Type 0 where
  pub front : (lines : List ℕ) → IsChain ws first lines → length lines ≡ count → (k : ℕ) → k < 7 * count → get_or content k 0 ≡ word_of ws (get_or lines (k / 7) 0) (1 + k % 7)
  pub behind : (k : ℕ) → 7 * count ≤ k → k < i → get_or content k 0 ≡ 0

-- bytes of which the first `len` are within the limits and those behind them are 0 are filled
pub filled : (bytes : List ℕ) (len least most : ℕ) → All (AreBytesBetween least most) (take len bytes) → All (λ b. b ≡ 0) (drop len bytes) → IsFilled bytes len least most
filled bytes len least most front behind = record {
  front = front;
  behind = λ i l. (
      elim (cases_lt i (length bytes)) [
        | inl lt ↦
            let place : len + (i - len) ≡ i = omega arith in
            sym (ap (λ n. get_or bytes n 0) place) ∙ sym (get_or-drop len bytes (i - len) 0) ∙ behind (i - len) 0 (omega (arith, length-drop len bytes))
        | inr ge ↦ get_or_past bytes i 0 ge
      ]);
}

-- of filled bytes those behind the first `len` are 0
pub zeros_behind : (bytes : List ℕ) (len least most : ℕ) → IsFilled bytes len least most → All (λ b. b ≡ 0) (drop len bytes)
zeros_behind bytes len least most f =
    All-from_get_or (λ b. b ≡ 0) (drop len bytes) 0 (λ i l. get_or-drop len bytes i 0 ∙ f.behind (len + i) (omega arith))

-- bytes that are the same pack into the same words
same_words : (bytes others : List ℕ) → ((k : ℕ) → get_or bytes k 0 ≡ get_or others k 0) → (i : ℕ) → packed_at bytes i ≡ packed_at others i
same_words bytes others same i =
    omega (arith, same (8 * i), same (8 * i + 1), same (8 * i + 2), same (8 * i + 3), same (8 * i + 4), same (8 * i + 5), same (8 * i + 6), same (8 * i + 7))

-- the first `len` of filled bytes, with 0 read behind them, are the same at each place as all of the bytes
front_is : (bytes : List ℕ) (len least most : ℕ) → IsFilled bytes len least most → (k : ℕ) → get_or (take len bytes) k 0 ≡ get_or bytes k 0
front_is bytes len least most f k =
    elim (cases_lt k len) [
      | inl l ↦ get_or-take len bytes k 0 l
      | inr l ↦ get_or_past (take len bytes) k 0 (omega (arith, length-take len bytes)) ∙ sym (f.behind k l)
    ]

-- what was read of each chain of `count` lines from `first`: its words are `content`, and `bytes` are the bytes that these pack
pub record IsRead (ws : List ℕ) (first count len : ℕ) (content bytes : List ℕ) : Type 0 where
  pub contents : (lines : List ℕ) → IsChain ws first lines → length lines ≡ count → IsContent ws lines content
  pub bytes_are : bytes ≡ unpacked (8 * length content) content
  pub repacks : packed (length content) (unpacked (8 * length content) content) ≡ content
  pub counted : count ≡ (len + 55) / 56
  pub room : 7 * count ≤ length content

-- what was read of a chain has eight bytes for each word
bytes_long : (ws : List ℕ) (first count len : ℕ) (content bytes : List ℕ) → IsRead ws first count len content bytes → length bytes ≡ 8 * length content
bytes_long ws first count len content bytes r = ap length r.bytes_are ∙ length-map-range_with_len (byte_at content) 0 (8 * length content)

-- a marked chain `h`, read as bytes of which the first ones are within the limits and the others 0, holds the first ones as a text
pub text_there : (ws : List ℕ) (first count len least most : ℕ) (content bytes : List ℕ) (old now : List Bool) → HasChain ws first count old now → IsRead ws first count len content bytes → IsFilled bytes len least most →
    ReadsText ws first len least most old now (take len bytes)
text_there ws first count len least most content bytes old now h r f =
    let in_room = r.room in
    let counted = r.counted in
    let long : length (take len bytes) ≡ len = omega (arith, length-take len bytes, bytes_long ws first count len content bytes r) in
    let is = r.contents h.lines h.chain h.counted in
    record {
      lines = h.lines;
      holds = record {
        chain = h.chain;
        enough = h.counted ∙ r.counted ∙ ap (λ n. (n + 55) / 56) (sym long);
        packed = λ i l. (
            let within : i < length content = omega (arith, h.counted) in
            let word : packed_at bytes i ≡ get_or content i 0 = subst (λ bs. packed_at bs i ≡ get_or content i 0) (sym r.bytes_are)
            (sym (get_or-map-range_with_len (packed_at (unpacked (8 * length content) content)) 0 (length content) i i 0 within (zero-add i)) ∙ ap (λ ws. get_or ws i 0) r.repacks) in
            sym (is.front i l) ∙ sym word ∙ sym (same_words (take len bytes) bytes (front_is bytes len least most f) i));
      };
      long = long;
      limits = f.front;
      marks = h.marks;
    }

-- each byte of a text within limits below 256 is below 256, as is the 0 that is read behind it
small_text : (text : List ℕ) (least most : ℕ) → All (AreBytesBetween least most) text → most < 256 → (i : ℕ) → get_or text i 0 < 256
small_text text least most limits l i =
    elim (cases_lt i (length text)) [
      | inl lt ↦ (let h = limits i 0 lt in omega (arith, h.1))
      | inr ge ↦ subst (λ b. b < 256) (sym (get_or_past text i 0 ge)) (omega arith)
    ]

-- the words that were read of a chain which holds a text are the packed words of the text
content_is : (ws : List ℕ) (first count len : ℕ) (content bytes lines text : List ℕ) → IsRead ws first count len content bytes → Holds ws first lines text → length text ≡ len → length lines ≡ count → content ≡ packed (length content) text
content_is ws first count len content bytes lines text r h long counted =
    let is = r.contents lines h.chain counted in
    fill_by_all (packed_at text) content (length content) 0 refl (λ i l. (
    elim (cases_lt i (7 * length lines)) [
      | inl lt ↦ is.front i lt ∙ h.packed i lt
      | inr ge ↦ is.behind i ge ∙ sym (word_at_past text i (omega (arith, long, r.counted, counted)))
    ]))

-- byte `k` that was read of a chain is byte `k` of the text that the chain holds, and 0 behind it
read_byte : (ws : List ℕ) (first count len : ℕ) (content bytes lines text : List ℕ) → IsRead ws first count len content bytes → Holds ws first lines text → length text ≡ len → length lines ≡ count → ((i : ℕ) → get_or text i 0 < 256) →
    (k : ℕ) → get_or bytes k 0 ≡ get_or text k 0
read_byte ws first count len content bytes lines text r h long counted small k =
    let n = length content in
    elim (cases_lt k (8 * length content)) [
      | inl l ↦
          ap (λ bs. get_or bs k 0) r.bytes_are
          ∙ get_or-map-range_with_len (byte_at content) 0 (8 * length content) k k 0 l (zero-add k)
          ∙ ap (λ ws. byte_at ws k) (content_is ws first count len content bytes lines text r h long counted)
          ∙ packed_byte (length content) k text small l
      | inr l ↦
          get_or_past bytes k 0 (omega (arith, bytes_long ws first count len content bytes r))
          ∙ sym (get_or_past text k 0 (let room = r.room in omega (arith, long, r.counted)))
    ]

-- where the bytes that were read of a chain are not filled within the limits, the chain holds no text within them
pub no_text : (ws : List ℕ) (first count len least most : ℕ) (content bytes : List ℕ) (old : List Bool) → IsRead ws first count len content bytes → most < 256 → (IsFilled bytes len least most → ⊥) → NoText ws first len least most old
no_text ws first count len least most content bytes old r below none lines text h long limits can =
    let counted : length lines ≡ count = h.enough ∙ ap (λ n. (n + 55) / 56) long ∙ sym r.counted in
    let same = read_byte ws first count len content bytes lines text r h long counted (small_text text least most limits below) in
    none (record {
      front = All-from_get_or (AreBytesBetween least most) (take len bytes) 0 (λ i l. (
          let within : i < len = omega (arith, length-take len bytes) in
          subst (AreBytesBetween least most) (sym (get_or-take len bytes i 0 within ∙ same i)) (limits i 0 (omega (arith, long)))));
      behind = λ i l. same i ∙ get_or_past text i 0 (omega (arith, long));
    })
