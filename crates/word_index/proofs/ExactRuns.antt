-- The calls leave exactly the words that are defined, step by step.
use Rattle.std.proofs.Common.{◌≡◌, ◌+◌, ◌-◌, ◌*◌, ◌/◌, ◌<◌, ◌==◌, ℕ, zero, suc, true, false, cond, List, [], ◌∷◌, length, get_or, map, zero-add, sym, ap, ap₂, ◌∙◌, arith}
use Rattle.std.specs.Int.{div_ceil}
use Rattle.std.specs.List.{range_with_len}
use Rattle.std.proofs.lemmas.Bool.Decides.{nat_tests}
use Rattle.std.proofs.lemmas.Grind.{same_number_lists}
use Rattle.std.proofs.lemmas.List.FromFn.{length-map-range_with_len, get_or-map-range_with_len}
use Rattle.cx_base.specs.Memory.{overwritten}
use Rattle.cx_base.specs.Packing.{packed, unpacked}
use Rattle.cx_base.specs.Store.{blocks}
use Rattle.avl_words.specs.Lines.{with_word, word_of}
use Rattle.index_validation.proofs.Texts.{blocks_are}
use Rattle.word_index.proofs.Putting.{length_unpacked}
use Rattle.word_index.specs.Packed.{IsPacked}
use Rattle.word_index.specs.Changes.{with_line_given}
use Rattle.word_index.specs.Exact.{with_chain_given, with_text_given, with_pair_given, line_to_take, with_line_taken, block_words, with_text, with_new_pair}
use Rattle.word_index.specs.Fresh.{IsBlock}

-- at the beginning all of a chain is left to give back, from the line `first` on
pub chain_begins : (count first : ℕ) (x y : List ℕ) → x ≡ y → with_chain_given (count - 0) first y ≡ with_chain_given count first x
chain_begins count first x y e = (let z : count - 0 ≡ count = omega arith in ap (λ n. with_chain_given n first y) z ∙ ap (with_chain_given count first) (sym e))

-- where the code gives back one line more and goes on to `next`, the rest of the chain still leads to the defined words `target`
pub chain_goes_on : (count i line next : ℕ) (y z target : List ℕ) → i < count → with_chain_given (count - i) line y ≡ target → word_of y line 0 ≡ next → z ≡ with_line_given line y → with_chain_given (count - (i + 1)) next z ≡ target
chain_goes_on count i line next y z target l r word is =
    let less : count - i ≡ suc (count - (i + 1)) = omega arith in
    ap (λ n. with_chain_given (count - (i + 1)) n z) (sym word) ∙ ap (with_chain_given (count - (i + 1)) (word_of y line 0)) is ∙ ap (λ n. with_chain_given n line y) (sym less) ∙ r

-- once the code gave back all `count` lines of a chain, its words are the defined ones, `target`
pub chain_ends : (count i line : ℕ) (y target : List ℕ) → i ≡ count → with_chain_given (count - i) line y ≡ target → y ≡ target
chain_ends count i line y target e r = (let none : count - i ≡ 0 = omega arith in ap (λ n. with_chain_given n line y) (sym none) ∙ r)

pub text_runs : (node at first len count : ℕ) (x y z : List ℕ) → y ≡ x → word_of y node at ≡ first → word_of y node (at + 1) ≡ len → count ≡ div_ceil len 56 → z ≡ with_chain_given count first y → z ≡ with_text_given node at x
unfolding with_text_given
text_runs node at first len count x y z e first_is len_is counted is =
    let len_here : word_of x node (at + 1) ≡ len = ap (λ w. word_of w node (at + 1)) (sym e) ∙ len_is in
    let first_here : word_of x node at ≡ first = ap (λ w. word_of w node at) (sym e) ∙ first_is in
    let blocks : count ≡ (word_of x node (at + 1) + 55) / 56 = counted ∙ sym (blocks_are len) ∙ ap (λ n. (n + 55) / 56) (sym len_here) in
    is ∙ ap (with_chain_given count first) e ∙ ap (λ n. with_chain_given n first x) blocks ∙ ap (λ n. with_chain_given ((word_of x node (at + 1) + 55) / 56) n x) (sym first_here)

pub pair_runs : (node : ℕ) (x y z w : List ℕ) → y ≡ with_text_given node 5 x → z ≡ with_text_given node 3 y → w ≡ with_line_given node z → w ≡ with_pair_given node x
unfolding with_pair_given
pair_runs node x y z w d k is = is ∙ ap (with_line_given node) (k ∙ ap (with_text_given node 3) d)

-- taking the first line that was never given, where none is given back, takes the line that the definition takes
pub new_line_runs : (x y z : List ℕ) (head line : ℕ) → y ≡ x → word_of y 0 2 ≡ head → head ≡ 0 → (word_of y 0 3 ≡ line) × (z ≡ with_word 0 3 (line + 1) y) → (line ≡ line_to_take x) × (z ≡ with_line_taken x)
unfolding line_to_take with_line_taken
new_line_runs x y z head line e is none r =
    let first : word_of x 0 2 ≡ 0 = ap (λ w. word_of w 0 2) (sym e) ∙ is ∙ none in
    let test : (word_of x 0 2 == 0) ≡ true = ap (λ n. n == 0) first in
    let last : line ≡ word_of x 0 3 = sym r.0 ∙ ap (λ w. word_of w 0 3) e in (
      last ∙ ap (λ b. cond b (word_of x 0 3) (word_of x 0 2)) (sym test),
      r.1 ∙ ap₂ (λ n w. with_word 0 3 (n + 1) w) last e
          ∙ ap (λ b. cond b (with_word 0 3 (word_of x 0 3 + 1) x) (with_word 0 4 (word_of x 0 4 - 1) (with_word 0 2 (word_of x (word_of x 0 2) 0) x))) (sym test),
    )

-- the test whether `n` is 0 is false where `n` equals a number `m` that is not 0
not_zero : (n m : ℕ) → n ≡ m → (m ≡ 0 → ⊥) → (n == 0) ≡ false
not_zero n m e some = (let other : n ≡ 0 → ⊥ = λ h. some (sym e ∙ h) in grind (arith, nat_tests))

pub given_line_runs : (x y z : List ℕ) (head : ℕ) → y ≡ x → word_of y 0 2 ≡ head → (head ≡ 0 → ⊥) → z ≡ with_word 0 4 (word_of y 0 4 - 1) (with_word 0 2 (word_of y head 0) y) → (head ≡ line_to_take x) × (z ≡ with_line_taken x)
unfolding line_to_take with_line_taken
given_line_runs x y z head e is some r =
    let first : word_of x 0 2 ≡ head = ap (λ w. word_of w 0 2) (sym e) ∙ is in
    let test : (word_of x 0 2 == 0) ≡ false = not_zero (word_of x 0 2) head first some in (
      sym first ∙ ap (λ b. cond b (word_of x 0 3) (word_of x 0 2)) (sym test),
      r ∙ ap (λ w. with_word 0 4 (word_of w 0 4 - 1) (with_word 0 2 (word_of w head 0) w)) e ∙ ap (λ h. with_word 0 4 (word_of x 0 4 - 1) (with_word 0 2 (word_of x h 0) x)) (sym first)
          ∙ ap (λ b. cond b (with_word 0 3 (word_of x 0 3 + 1) x) (with_word 0 4 (word_of x 0 4 - 1) (with_word 0 2 (word_of x (word_of x 0 2) 0) x))) (sym test),
    )

-- a block
pub block_exact : (next : ℕ) (text : List ℕ) (from : ℕ) (content : List ℕ) → IsBlock next text from content → content ≡ block_words next text from
unfolding block_words
block_exact next text from content b =
    same_number_lists content (next ∷ map (λ i. get_or text (from + i) 0) (range_with_len 0 7)) (b.long ∙ sym (ap suc (length-map-range_with_len (λ i. get_or text (from + i) 0) 0 7))) (λ k l. at_place k l)
  where
    at_place : (k : ℕ) → k < length content → get_or content k 0 ≡ get_or (next ∷ map (λ i. get_or text (from + i) 0) (range_with_len 0 7)) k 0
    at_place zero l = b.first
    at_place (suc j) l =
        let e : 1 + j ≡ suc j = omega arith in
        let small : j < 7 = omega (arith, b.long) in
        sym (ap (λ n. get_or content n 0) e) ∙ b.rest j small ∙ sym (get_or-map-range_with_len (λ i. get_or text (from + i) 0) 0 7 j j 0 small (zero-add j))

-- a text written
pub text_begins : (text : List ℕ) (count : ℕ) (x y : List ℕ) → x ≡ y → with_text text (count - 0) 0 y ≡ with_text text count 0 x
text_begins text count x y e = (let z : count - 0 ≡ count = omega arith in ap (λ n. with_text text n 0 y) z ∙ ap (with_text text count 0) (sym e))

-- where the code writes one block more into the line that it took, the rest of the text still leads to the defined result `target`
pub text_goes_on : (text : List ℕ) (count j next line : ℕ) (content y z w : List ℕ) (target : ℕ × List ℕ) → j < count → with_text text (count - j) next y ≡ target → (line ≡ line_to_take y) × (z ≡ with_line_taken y) →
    IsBlock next text (7 * (count - 1 - j)) content → w ≡ overwritten (8 * line) content z → with_text text (count - (j + 1)) line w ≡ target
text_goes_on text count j next line content y z w target l r t b f =
    let less : count - j ≡ suc (count - (j + 1)) = omega arith in
    let from : count - 1 - j ≡ count - (j + 1) = omega arith in
    let block : content ≡ block_words next text (7 * (count - (j + 1))) = block_exact next text (7 * (count - 1 - j)) content b ∙ ap (λ n. block_words next text (7 * n)) from in
    let row : w ≡ overwritten (8 * line_to_take y) (block_words next text (7 * (count - (j + 1)))) (with_line_taken y) =
    f ∙ ap (λ s. overwritten (8 * line) s z) block ∙ ap₂ (λ n v. overwritten (8 * n) (block_words next text (7 * (count - (j + 1)))) v) t.0 t.1 in
    ap₂ (λ n v. with_text text (count - (j + 1)) n v) t.0 row ∙ ap (λ n. with_text text n next y) (sym less) ∙ r

-- once the code wrote all `count` blocks of a text, the defined result is its first line `next` with the words `y`
pub text_ends : (text : List ℕ) (count j next : ℕ) (y : List ℕ) (target : ℕ × List ℕ) → j ≡ count → with_text text (count - j) next y ≡ target → target ≡ (next, y)
text_ends text count j next y target e r = (let none : count - j ≡ 0 = omega arith in sym r ∙ ap (λ n. with_text text n next y) none)

-- a node taken, the texts of a key and a document, and the words of the node make the words with the new pair
pub new_pair_runs : (node key_first doc_first key_len doc_len revision count other : ℕ) (key_words doc_words x y z w v : List ℕ) → IsPacked 8 key_len key_words → IsPacked 128 doc_len doc_words → count ≡ div_ceil key_len 56 → other ≡ div_ceil doc_len 56 →
    (node ≡ line_to_take x) × (y ≡ with_line_taken x) → with_text key_words count 0 y ≡ (key_first, z) → with_text doc_words other 0 z ≡ (doc_first, w) →
    v ≡ overwritten (8 * node) (0 ∷ 0 ∷ 1 ∷ key_first ∷ key_len ∷ doc_first ∷ doc_len ∷ revision ∷ []) w → with_new_pair (unpacked key_len key_words, unpacked doc_len doc_words) revision x ≡ (node, v)
unfolding with_new_pair
new_pair_runs node key_first doc_first key_len doc_len revision count other key_words doc_words x y z w v key_packed doc_packed counted other_counted t k d f =
    let key = unpacked key_len key_words in
    let doc = unpacked doc_len doc_words in
    let key_long : length key ≡ key_len = length_unpacked key_len key_words in
    let doc_long : length doc ≡ doc_len = length_unpacked doc_len doc_words in
    let key_blocks : blocks key ≡ count = ap (λ n. (n + 55) / 56) key_long ∙ blocks_are key_len ∙ sym counted in
    let doc_blocks : blocks doc ≡ other = ap (λ n. (n + 55) / 56) doc_long ∙ blocks_are doc_len ∙ sym other_counted in
    let key_text : with_text (packed 8 key) (blocks key) 0 (with_line_taken x) ≡ (key_first, z) =
    ap₂ (λ s n. with_text s n 0 (with_line_taken x)) (sym key_packed.unused) key_blocks ∙ ap (with_text key_words count 0) (sym t.1) ∙ k in
    let after : (with_text (packed 8 key) (blocks key) 0 (with_line_taken x)).1 ≡ z = ap (λ p. p.1) key_text in
    let doc_text : with_text (packed 128 doc) (blocks doc) 0 (with_text (packed 8 key) (blocks key) 0 (with_line_taken x)).1 ≡ (doc_first, w) =
    ap (with_text (packed 128 doc) (blocks doc) 0) after ∙ ap₂ (λ s n. with_text s n 0 z) (sym doc_packed.unused) doc_blocks ∙ d in
    let row : ℕ × List ℕ → ℕ × List ℕ → ℕ → ℕ → ℕ → ℕ × List ℕ = λ a b m i j. (m, overwritten (8 * m) (0 ∷ 0 ∷ 1 ∷ a.0 ∷ i ∷ b.0 ∷ j ∷ revision ∷ []) b.1) in
    ap₂ (λ a b. row a b (line_to_take x) (length key) (length doc)) key_text doc_text
    ∙ ap (λ m. row (key_first, z) (doc_first, w) m (length key) (length doc)) (sym t.0)
    ∙ ap₂ (λ i j. row (key_first, z) (doc_first, w) node i j) key_long doc_long
    ∙ ap (λ u. (node, u)) (sym f)
