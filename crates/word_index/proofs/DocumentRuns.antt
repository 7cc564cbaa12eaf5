-- The calls that replace a document leave exactly the words that are defined.
use Rattle.std.proofs.Common.{◌≡◌, ◌+◌, ◌*◌, ◌/◌, ◌≤◌, ◌==◌, ℕ, true, false, cond, List, length, sym, ap, ap₂, subst, ◌∙◌, arith}
use Rattle.std.specs.Int.{div_ceil}
use Rattle.std.proofs.Math.ListN.{length-set}
use Rattle.std.proofs.lemmas.Bool.Decides.{nat_tests}
use Rattle.cx_base.specs.Packing.{packed, unpacked}
use Rattle.cx_base.specs.Store.{blocks}
use Rattle.avl_words.specs.Lines.{word_of, with_word, IsWithin}
use Rattle.index_validation.proofs.Texts.{blocks_are}
use Rattle.word_index.specs.Packed.{IsPacked}
use Rattle.word_index.specs.Changes.{LooseChain}
use Rattle.word_index.specs.Exact.{with_chain_given, with_chain_filled, with_text, document_blocks, with_refilled, with_emptied, with_renewed, with_rewritten, with_replaced}
use Rattle.word_index.specs.Fresh.{CanTake}
use Rattle.word_index.specs.Rewriting.{HasLines, CanRewrite, IsOld}
use Rattle.word_index.proofs.DocumentChanges.{node_here, old_lines, rewritten_here, chain_loose, renew_can, renew_here}
use Rattle.word_index.proofs.Putting.{length_unpacked}
use Rattle.word_index.proofs.FilledChains.{filled_long}

-- the blocks of a document
pub blocks_of_words : (len count : ℕ) (words : List ℕ) → count ≡ div_ceil len 56 → blocks (unpacked len words) ≡ count
blocks_of_words len count words e = ap (λ n. (n + 55) / 56) (length_unpacked len words) ∙ blocks_are len ∙ sym e

-- where a document needs as many blocks as the one at the node, that one's chain has as many lines
pub refill_lines : (x : List ℕ) (node first len count : ℕ) (words : List ℕ) → IsOld x node first (blocks (unpacked len words)) (unpacked len words) → count ≡ div_ceil len 56 → HasLines x first count
refill_lines x node first len count words o e = old_lines x node (unpacked len words) o.can first count o.first_is (o.counted ∙ blocks_of_words len count words e)

-- the node is still there once the blocks of its document were filled with other words
pub refill_here : (x y : List ℕ) (node first count more : ℕ) (words document : List ℕ) → IsOld x node first more document → y ≡ with_chain_filled words count 0 first x → IsWithin y node
refill_here x y node first count more words document o e =
    subst (λ n. 8 * node + 8 ≤ n) (sym (ap length e ∙ filled_long words count 0 first x)) (node_here x node document o.can)

-- filling the old document's blocks with a document that needs as many, and storing its length, makes the words with the document refilled
pub refill_runs : (x y z w : List ℕ) (node first len count : ℕ) (words : List ℕ) → IsPacked 128 len words → count ≡ div_ceil len 56 → y ≡ x → IsOld y node first (blocks (unpacked len words)) (unpacked len words) → z ≡ with_chain_filled words count 0 first y → w ≡ with_word node 6 len z →
    w ≡ with_refilled (unpacked len words) node x
unfolding with_refilled
refill_runs x y z w node first len count words p e same o f g =
    let d = unpacked len words in
    let long = length_unpacked len words in
    let filled : z ≡ with_chain_filled (packed 128 d) (blocks d) 0 (word_of x node 5) x =
    f ∙ ap₂ (λ s n. with_chain_filled s n 0 first y) p.unused (sym (blocks_of_words len count words e)) ∙ ap (λ n. with_chain_filled (packed 128 d) (blocks d) 0 n y) (sym o.first_is)
    ∙ ap (λ u. with_chain_filled (packed 128 d) (blocks d) 0 (word_of u node 5) u) same in
    g ∙ ap₂ (λ n u. with_word node 6 n u) (sym long) filled

-- the node is still there once its link to the document is 0
pub bare_here : (x : List ℕ) (node first count : ℕ) (document : List ℕ) → IsOld x node first count document → IsWithin (with_word node 5 0 x) node
bare_here x node first count document o = subst (λ n. 8 * node + 8 ≤ n) (sym (length-set x (8 * node + 5) 0)) (node_here x node document o.can)

-- the blocks of the old document are a loose chain once the node names no document
pub renew_chain : (x : List ℕ) (node first count : ℕ) (document : List ℕ) → IsOld x node first count document → LooseChain (with_word node 6 0 (with_word node 5 0 x)) first count
renew_chain x node first count document o = chain_loose x node document o.can first count o.first_is o.counted

-- giving back the blocks of a node that names no document any more makes the words with the node emptied
emptied_runs : (x z : List ℕ) (node first count : ℕ) (document : List ℕ) → IsOld x node first count document → z ≡ with_chain_given count first (with_word node 6 0 (with_word node 5 0 x)) → z ≡ with_emptied node x
unfolding with_emptied
emptied_runs x z node first count document o e = e ∙ ap₂ (λ n f. with_chain_given n f (with_word node 6 0 (with_word node 5 0 x))) (sym o.counted) (sym o.first_is)

-- once the blocks of the old document are given back, there is room for the `more` blocks of the new one
pub renew_room : (x z : List ℕ) (node first count len more : ℕ) (words : List ℕ) → IsOld x node first count (unpacked len words) → z ≡ with_chain_given count first (with_word node 6 0 (with_word node 5 0 x)) → more ≡ div_ceil len 56 → CanTake z more
renew_room x z node first count len more words o e m =
    let d = unpacked len words in
    subst (CanTake z) (blocks_of_words len more words m) (subst (λ u. CanTake u (blocks d)) (sym (emptied_runs x z node first count d o e)) (renew_can x node d o.can))

-- the new document's text, written into the words `z` without the old blocks, is the one that the definition writes into the emptied words
pub text_runs_on : (x z w : List ℕ) (node first count len more text : ℕ) (words : List ℕ) → IsPacked 128 len words → IsOld x node first count (unpacked len words) → z ≡ with_chain_given count first (with_word node 6 0 (with_word node 5 0 x)) → more ≡ div_ceil len 56 →
    with_text words more 0 z ≡ (text, w) → with_text (packed 128 (unpacked len words)) (blocks (unpacked len words)) 0 (with_emptied node x) ≡ (text, w)
text_runs_on x z w node first count len more text words p o e m t =
    let d = unpacked len words in
    ap (with_text (packed 128 d) (blocks d) 0) (sym (emptied_runs x z node first count d o e)) ∙ ap₂ (λ s n. with_text s n 0 z) (sym p.unused) (blocks_of_words len more words m) ∙ t

-- the node is still there once the new document's text was written into new blocks
pub renew_node : (x z w : List ℕ) (node first count len more text : ℕ) (words : List ℕ) → IsPacked 128 len words → IsOld x node first count (unpacked len words) → z ≡ with_chain_given count first (with_word node 6 0 (with_word node 5 0 x)) → more ≡ div_ceil len 56 →
    with_text words more 0 z ≡ (text, w) → IsWithin w node
renew_node x z w node first count len more text words p o e m t =
    subst (λ (q : ℕ × List ℕ). IsWithin q.1 node) (text_runs_on x z w node first count len more text words p o e m t) (renew_here x node (unpacked len words) o.can)

pub named_here : (w : List ℕ) (node text : ℕ) → IsWithin w node → IsWithin (with_word node 5 text w) node
named_here w node text h = subst (λ n. 8 * node + 8 ≤ n) (sym (length-set w (8 * node + 5) text)) h

-- writing a document into new blocks, once the old ones are given back, and naming it at the node, makes the words with the document renewed
pub renew_runs : (x z w v : List ℕ) (node first count len more text : ℕ) (words : List ℕ) → IsPacked 128 len words → IsOld x node first count (unpacked len words) → z ≡ with_chain_given count first (with_word node 6 0 (with_word node 5 0 x)) → more ≡ div_ceil len 56 →
    with_text words more 0 z ≡ (text, w) → v ≡ with_word node 6 len (with_word node 5 text w) → v ≡ with_renewed (unpacked len words) node x
unfolding with_renewed
renew_runs x z w v node first count len more text words p o e m t f =
    let d = unpacked len words in
    f ∙ ap₂ (λ n (q : ℕ × List ℕ). with_word node 6 n (with_word node 5 q.0 q.1)) (sym (length_unpacked len words)) (sym (text_runs_on x z w node first count len more text words p o e m t))

-- the node is still there once its document was rewritten
pub replaced_here : (x : List ℕ) (node len : ℕ) (words : List ℕ) → IsPacked 128 len words → CanRewrite x node (unpacked len words) → IsWithin (with_rewritten (unpacked len words) node x) node
replaced_here x node len words p c = rewritten_here x node (unpacked len words) c (subst (λ n. n ≤ 1024) (sym (length_unpacked len words)) p.short)

-- a rewritten document and then the revision make the words with both replaced
pub replaced_runs : (x w : List ℕ) (node revision : ℕ) (document : List ℕ) → w ≡ with_rewritten document node x → with_word node 7 revision w ≡ with_replaced document node revision x
unfolding with_replaced
replaced_runs x w node revision document e = ap (with_word node 7 revision) e

-- the test whether two numbers are equal is true where they are
same_test : (n m : ℕ) → n ≡ m → (n == m) ≡ true
same_test n m e = grind (arith, nat_tests)

-- the test whether two numbers are equal is false where they differ
other_test : (n m : ℕ) → (n ≡ m → ⊥) → (n == m) ≡ false
other_test n m e = grind (arith, nat_tests)

pub old_counted : (x : List ℕ) (node len count : ℕ) → word_of x node 6 ≡ len → count ≡ div_ceil len 56 → document_blocks node x ≡ count
unfolding document_blocks
old_counted x node len count e c = ap (λ n. (n + 55) / 56) e ∙ blocks_are len ∙ sym c

-- a document that needs as many blocks as the old one is rewritten by refilling
pub rewrite_refills : (x y w : List ℕ) (node count : ℕ) (document : List ℕ) → y ≡ x → document_blocks node y ≡ count → count ≡ blocks document → w ≡ with_refilled document node y → w ≡ with_rewritten document node x
unfolding with_rewritten
rewrite_refills x y w node count document e c same f =
    let test = same_test (document_blocks node y) (blocks document) (c ∙ same) in
    f ∙ ap (λ b. cond b (with_refilled document node y) (with_renewed document node y)) (sym test) ∙ ap (with_rewritten document node) e

-- a document that needs more or fewer blocks than the old one is rewritten by renewing
pub rewrite_renews : (x y w : List ℕ) (node count : ℕ) (document : List ℕ) → y ≡ x → document_blocks node y ≡ count → (count ≡ blocks document → ⊥) → w ≡ with_renewed document node y → w ≡ with_rewritten document node x
unfolding with_rewritten
rewrite_renews x y w node count document e c other f =
    let test = other_test (document_blocks node y) (blocks document) (λ s. other (sym c ∙ s)) in
    f ∙ ap (λ b. cond b (with_refilled document node y) (with_renewed document node y)) (sym test) ∙ ap (with_rewritten document node) e
