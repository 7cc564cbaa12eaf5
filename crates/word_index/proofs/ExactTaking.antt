-- What is taken and written has the exact words of its meaning.
use Rattle.std.proofs.Common.{◌≡◌, ◌^◌, ◌+◌, ◌-◌, ◌*◌, ◌<◌, ◌≤◌, ◌==◌, ℕ, zero, suc, Bool, true, false, cond, List, [], ◌∷◌, length, get_or, map, refl, zero-add, sym, ap, ap₂, subst, ◌∙◌, inl, inr, lit<, arith}
use Rattle.std.specs.List.{range_with_len, All}
use Rattle.std.proofs.lemmas.Bool.{cases_lt, eqb-true, eqb-false}
use Rattle.std.proofs.lemmas.List.Elements.{All-cons, All-nil, All-map}
use Rattle.std.proofs.lemmas.List.FromFn.{length-map-range_with_len, get_or-map-range_with_len}
use Rattle.cx_base.specs.Memory.{Words, overwritten}
use Rattle.cx_base.specs.Packing.{packed, unpacked, packed_at}
use Rattle.cx_base.specs.Store.{blocks, pair_lines}
use Rattle.cx_base.proofs.WordLemmas.{Words-set, Words-at, Words-overwritten, length-overwritten, overwritten_before, overwritten_behind, overwritten_within}
use Rattle.cx_base.proofs.PackingLemmas.{unpacked-packed, packed_fit}
use Rattle.avl_words.specs.Lines.{IsWithin, with_word, word_of}
use Rattle.index_validation.proofs.Texts.{blocks_are}
use Rattle.word_index.proofs.Putting.{room_less, room_after_line, room_after_text, node_still, pair_written}
use Rattle.word_index.proofs.Taking.{end_small, new_line, given_line}
use Rattle.word_index.proofs.Writing.{WrittenSoFar, written_none, can_take_next, taken_within, written_more, written_all}
use Rattle.word_index.specs.Packed.{IsPacked}
use Rattle.word_index.specs.Exact.{line_to_take, with_line_taken, block_words, with_text, with_new_pair}
use Rattle.word_index.specs.Fresh.{CanTake, LineTaken, LineFilled, IsBlock, TextWritten}
use Rattle.word_index.specs.Insertion.{PairWritten}

-- taking a line by the definition takes it
module _ (x : List ℕ) where
  taken_by : (b : Bool) → (word_of x 0 2 == 0) ≡ b →
      LineTaken (cond b (word_of x 0 3) (word_of x 0 2)) x (cond b (with_word 0 3 (word_of x 0 3 + 1) x) (with_word 0 4 (word_of x 0 4 - 1) (with_word 0 2 (word_of x (word_of x 0 2) 0) x)))
  taken_by true e = new_line x x (with_word 0 3 (word_of x 0 3 + 1) x) (word_of x 0 2) (word_of x 0 3) refl refl (eqb-true (word_of x 0 2) 0 e) (refl, refl)
  taken_by false e = given_line x x (with_word 0 4 (word_of x 0 4 - 1) (with_word 0 2 (word_of x (word_of x 0 2) 0) x)) (word_of x 0 2) refl refl (eqb-false (word_of x 0 2) 0 e) refl

  pub line_is_taken : LineTaken (line_to_take x) x (with_line_taken x)
  unfolding line_to_take with_line_taken
  line_is_taken = taken_by (word_of x 0 2 == 0) refl

  taken_words_by : (k : ℕ) (b : Bool) → word_of x 0 3 ≤ 2 ^ 32 → Words k x →
      (cond b (word_of x 0 3) (word_of x 0 2) < 2 ^ 64) × Words k (cond b (with_word 0 3 (word_of x 0 3 + 1) x) (with_word 0 4 (word_of x 0 4 - 1) (with_word 0 2 (word_of x (word_of x 0 2) 0) x)))
  taken_words_by k true few w = (Words-at k x 3 w, Words-set k x (8 * 0 + 3) (word_of x 0 3 + 1) (omega arith) w)
  taken_words_by k false few w =
      let next = Words-at k x (8 * word_of x 0 2 + 0) w in
      let number = Words-at k x 4 w in
      (Words-at k x 2 w, Words-set k (with_word 0 2 (word_of x (word_of x 0 2) 0) x) (8 * 0 + 4) (word_of x 0 4 - 1) (omega arith) (Words-set k x (8 * 0 + 2) (word_of x (word_of x 0 2) 0) next w))

  pub line_taken_words : (k more : ℕ) → CanTake x more → Words k x → (line_to_take x < 2 ^ 64) × Words k (with_line_taken x)
  unfolding line_to_take with_line_taken
  line_taken_words k more c w = taken_words_by k (word_of x 0 2 == 0) (end_small x more c) w

-- a line that eight words are stored over
pub row_is_filled : (line : ℕ) (content x : List ℕ) → length content ≡ 8 → IsWithin x line → LineFilled line content x (overwritten (8 * line) content x)
row_is_filled line content x long within = record {
  here = λ i l. overwritten_within content x (8 * line) i (omega arith) (omega arith);
  others = λ other ne i l. elim (cases_lt other line) [
    | inl below ↦ overwritten_before content x (8 * line) (8 * other + i) (omega arith)
    | inr past ↦ overwritten_behind content x (8 * line) (8 * other + i) (omega arith)
  ];
  long = length-overwritten content x (8 * line);
}

-- eight words written one after another from the beginning of a line on fill that line
pub filled_by_row : (line start : ℕ) (content x y z : List ℕ) → length content ≡ 8 → start ≡ 8 * line → (y ≡ x) × IsWithin y line → z ≡ overwritten start content y → LineFilled line content x z
filled_by_row line start content x y z long at p e =
    subst (LineFilled line content x) (sym (e ∙ ap₂ (λ n w. overwritten n content w) at p.0)) (row_is_filled line content x long (subst (λ w. IsWithin w line) p.0 p.1))

-- the defined words of a block are a block
pub block_is : (next : ℕ) (text : List ℕ) (from : ℕ) → IsBlock next text from (block_words next text from)
unfolding block_words
block_is next text from = record {
  first = refl;
  rest = λ i l. (let e : 1 + i ≡ suc i = omega arith in ap (λ n. get_or (next ∷ map (λ i. get_or text (from + i) 0) (range_with_len 0 7)) n 0) e) ∙ get_or-map-range_with_len (λ i. get_or text (from + i) 0) 0 7 i i 0 l (zero-add i);
  long = ap suc (length-map-range_with_len (λ i. get_or text (from + i) 0) 0 7);
}

-- writing a text by the definition writes it into new blocks, where there is room
module _ (text : List ℕ) (count : ℕ) (x : List ℕ) (can : CanTake x count) where
  -- writing the `n` blocks that are left of a text, after `j` of them, has the whole text written
  text_goes : (n j next : ℕ) (y : List ℕ) → j + n ≡ count → WrittenSoFar text count j next x y → TextWritten text count (with_text text n next y).0 x (with_text text n next y).1
  text_goes zero j next y e r = written_all text count j next x y (omega arith) r
  text_goes (suc n) j next y e r =
      let line = line_to_take y in
      let z = with_line_taken y in
      let content = block_words next text (7 * n) in
      let t = line_is_taken y in
      let b = block_is next text (7 * n) in
      let from : 7 * n ≡ 7 * (count - 1 - j) = omega arith in
      let f = row_is_filled line content z b.long (taken_within text count j next line x y z (omega arith) can r t) in
      text_goes n (j + 1) line (overwritten (8 * line) content z) (omega arith)
      (written_more text count j next line content x y z (overwritten (8 * line) content z) (omega arith) r t (subst (λ m. IsBlock next text m content) from b) f)

  pub text_is_written : TextWritten text count (with_text text count 0 x).0 x (with_text text count 0 x).1
  text_is_written = text_goes count 0 0 x (omega arith) (written_none text count x x refl)

-- the words of a text
module _ (k : ℕ) (text : List ℕ) (count : ℕ) (x : List ℕ) (can : CanTake x count) (small : (i : ℕ) → get_or text i 0 < 2 ^ 64) where
  block_fits : (next from : ℕ) → next < 2 ^ 64 → All (λ w. w < 2 ^ 64) (block_words next text from)
  unfolding block_words
  block_fits next from l = All-cons (λ w. w < 2 ^ 64) next (map (λ i. get_or text (from + i) 0) (range_with_len 0 7)) l (All-map (λ w. w < 2 ^ 64) (λ i. get_or text (from + i) 0) (range_with_len 0 7) (λ i d m. small (from + get_or (range_with_len 0 7) i d)))

  -- writing the `n` blocks that are left of a text leaves `k` words of 64 bits each, and the number of its first line is of 64 bits
  text_words_go : (n j next : ℕ) (y : List ℕ) → j + n ≡ count → WrittenSoFar text count j next x y → next < 2 ^ 64 → Words k y → ((with_text text n next y).0 < 2 ^ 64) × Words k (with_text text n next y).1
  text_words_go zero j next y e r l w = (l, w)
  text_words_go (suc n) j next y e r l w =
      let line = line_to_take y in
      let z = with_line_taken y in
      let content = block_words next text (7 * n) in
      let t = line_is_taken y in
      let b = block_is next text (7 * n) in
      let from : 7 * n ≡ 7 * (count - 1 - j) = omega arith in
      let f = row_is_filled line content z b.long (taken_within text count j next line x y z (omega arith) can r t) in
      let taken = line_taken_words y k 1 (can_take_next text count j next x y (omega arith) can r) w in
      text_words_go n (j + 1) line (overwritten (8 * line) content z) (omega arith)
      (written_more text count j next line content x y z (overwritten (8 * line) content z) (omega arith) r t (subst (λ m. IsBlock next text m content) from b) f)
      taken.0 (Words-overwritten k content z (8 * line) (block_fits next (7 * n) l) taken.1)

  pub text_words : Words k x → ((with_text text count 0 x).0 < 2 ^ 64) × Words k (with_text text count 0 x).1
  text_words w = text_words_go count 0 0 x (omega arith) (written_none text count x x refl) (lit< tt) w

-- a key and a document of bytes, each no longer than its limit
pub record IsPlain (pair : List ℕ × List ℕ) : Type 0 where
  pub key_short : length pair.0 ≤ 64
  pub document_short : length pair.1 ≤ 1024
  pub key_bytes : (i : ℕ) → get_or pair.0 i 0 < 256
  pub document_bytes : (i : ℕ) → get_or pair.1 i 0 < 256

pub packs_itself : (n : ℕ) (bytes : List ℕ) → length bytes ≤ 8 * n → ((i : ℕ) → get_or bytes i 0 < 256) → IsPacked n (length bytes) (packed n bytes)
packs_itself n bytes short small = record { short = short; unused = ap (packed n) (sym (unpacked-packed n bytes small short)) }

pub packed_small : (n : ℕ) (bytes : List ℕ) → ((i : ℕ) → get_or bytes i 0 < 256) → (i : ℕ) → get_or (packed n bytes) i 0 < 2 ^ 64
packed_small n bytes small i = Words-at n (packed n bytes) i (record { long = length-map-range_with_len (packed_at bytes) 0 n; fit = packed_fit n bytes small })

-- the words of a node
node_fits : (d e f g h : ℕ) → d < 2 ^ 64 → e < 2 ^ 64 → f < 2 ^ 64 → g < 2 ^ 64 → h < 2 ^ 64 → All (λ v. v < 2 ^ 64) (0 ∷ 0 ∷ 1 ∷ d ∷ e ∷ f ∷ g ∷ h ∷ [])
node_fits d e f g h q r s t u =
    let zero_fits : 0 < 2 ^ 64 = lit< tt in
    let one_fits : 1 < 2 ^ 64 = lit< tt in
    let fits : ℕ → Type 0 = λ v. v < 2 ^ 64 in
    let l7 = All-cons fits h [] u (All-nil fits) in
    let l6 = All-cons fits g (h ∷ []) t l7 in
    let l5 = All-cons fits f (g ∷ h ∷ []) s l6 in
    let l4 = All-cons fits e (f ∷ g ∷ h ∷ []) r l5 in
    let l3 = All-cons fits d (e ∷ f ∷ g ∷ h ∷ []) q l4 in
    let l2 = All-cons fits 1 (d ∷ e ∷ f ∷ g ∷ h ∷ []) one_fits l3 in
    let l1 = All-cons fits 0 (1 ∷ d ∷ e ∷ f ∷ g ∷ h ∷ []) zero_fits l2 in
    All-cons fits 0 (0 ∷ 1 ∷ d ∷ e ∷ f ∷ g ∷ h ∷ []) zero_fits l1

module _ (pair : List ℕ × List ℕ) (revision : ℕ) (x : List ℕ) (is : IsPlain pair) (can : CanTake x (pair_lines pair)) where
  room_for_all : CanTake x (1 + (blocks pair.0 + blocks pair.1))
  room_for_all = room_less x (pair_lines pair) (1 + (blocks pair.0 + blocks pair.1)) (omega arith) can

  room_for_key : CanTake (with_line_taken x) (blocks pair.0 + blocks pair.1)
  room_for_key = room_after_line x (with_line_taken x) (line_to_take x) (blocks pair.0 + blocks pair.1) room_for_all (line_is_taken x)

  key_can : CanTake (with_line_taken x) (blocks pair.0)
  key_can = room_less (with_line_taken x) (blocks pair.0 + blocks pair.1) (blocks pair.0) (omega arith) room_for_key

  key_is : TextWritten (packed 8 pair.0) (blocks pair.0) (with_text (packed 8 pair.0) (blocks pair.0) 0 (with_line_taken x)).0 (with_line_taken x) (with_text (packed 8 pair.0) (blocks pair.0) 0 (with_line_taken x)).1
  key_is = text_is_written (packed 8 pair.0) (blocks pair.0) (with_line_taken x) key_can

  document_can : CanTake (with_text (packed 8 pair.0) (blocks pair.0) 0 (with_line_taken x)).1 (blocks pair.1)
  document_can =
      let y = with_line_taken x in
      let k = with_text (packed 8 pair.0) (blocks pair.0) 0 y in
      room_after_text y k.1 (packed 8 pair.0) (blocks pair.0) k.0 (blocks pair.1) room_for_key key_is

  pub new_pair_is : PairWritten pair revision (with_new_pair pair revision x).0 x (with_new_pair pair revision x).1
  unfolding with_new_pair
  new_pair_is =
      let node = line_to_take x in
      let y = with_line_taken x in
      let k = with_text (packed 8 pair.0) (blocks pair.0) 0 y in
      let d = with_text (packed 128 pair.1) (blocks pair.1) 0 k.1 in
      let content : List ℕ = 0 ∷ 0 ∷ 1 ∷ k.0 ∷ length pair.0 ∷ d.0 ∷ length pair.1 ∷ revision ∷ [] in
      let d_is = text_is_written (packed 128 pair.1) (blocks pair.1) k.1 document_can in
      let still = node_still x y k.1 d.1 node (blocks pair.0) (blocks pair.1) k.0 d.0 (packed 8 pair.0) (packed 128 pair.1) room_for_all (line_is_taken x) key_is d_is in
      let f = row_is_filled node content d.1 refl still in
      let key_same = unpacked-packed 8 pair.0 is.key_bytes is.key_short in
      let document_same = unpacked-packed 128 pair.1 is.document_bytes is.document_short in
      let made = pair_written x y k.1 d.1 (overwritten (8 * node) content d.1) node (blocks pair.0) (blocks pair.1) k.0 d.0 (length pair.0) (length pair.1) revision (packed 8 pair.0) (packed 128 pair.1)
      (packs_itself 8 pair.0 is.key_short is.key_bytes) (packs_itself 128 pair.1 is.document_short is.document_bytes) (blocks_are (length pair.0)) (blocks_are (length pair.1)) (line_is_taken x) key_is d_is f in
      subst (λ b. PairWritten (pair.0, b) revision node x (overwritten (8 * node) content d.1)) document_same
      (subst (λ a. PairWritten (a, unpacked (length pair.1) (packed 128 pair.1)) revision node x (overwritten (8 * node) content d.1)) key_same made)

  pub new_pair_words : (k : ℕ) → revision < 2 ^ 64 → Words k x → ((with_new_pair pair revision x).0 < 2 ^ 64) × Words k (with_new_pair pair revision x).1
  unfolding with_new_pair
  new_pair_words n small w =
      let y = with_line_taken x in
      let k = with_text (packed 8 pair.0) (blocks pair.0) 0 y in
      let t = line_taken_words x n (pair_lines pair) can w in
      let kw = text_words n (packed 8 pair.0) (blocks pair.0) y key_can (packed_small 8 pair.0 is.key_bytes) t.1 in
      let dw = text_words n (packed 128 pair.1) (blocks pair.1) k.1 document_can (packed_small 128 pair.1 is.document_bytes) kw.1 in
      let d = with_text (packed 128 pair.1) (blocks pair.1) 0 k.1 in
      let key_short = is.key_short in
      let document_short = is.document_short in (
        t.0,
        Words-overwritten n (0 ∷ 0 ∷ 1 ∷ k.0 ∷ length pair.0 ∷ d.0 ∷ length pair.1 ∷ revision ∷ []) d.1 (8 * line_to_take x)
            (node_fits k.0 (length pair.0) d.0 (length pair.1) revision kw.0 (omega arith) dw.0 (omega arith) small)
            dw.1,
      )
