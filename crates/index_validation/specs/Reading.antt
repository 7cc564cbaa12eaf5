-- The store that words stand for, read off them.
use Rattle.std.specs.Prelude.{◌≡◌, ◌+◌, ◌/◌, ℕ, zero, suc, List, [], ◌++◌, map}
use Rattle.std.specs.List.{range_with_len}
use Rattle.cx_base.specs.Store.{Store}
use Rattle.cx_base.specs.Packing.{unpacked}
use Rattle.doc_model.specs.Revisions.{RevisedStore, pairs_in}
use Rattle.avl_words.specs.Tree.{items}
use Rattle.avl_words.specs.Exact.{tree_in}
use Rattle.avl_words.specs.Lines.{word_of}
use Rattle.index_validation.specs.Layout.{StandsFor}

-- the packed words of a chain of blocks: seven of each block
abbrev pub chain_words : ℕ → ℕ → List ℕ → List ℕ
chain_words zero line words = []
chain_words (suc n) line words = map (λ i. word_of words line (1 + i)) (range_with_len 0 7) ++ chain_words n (word_of words line 0) words

-- the bytes that a node names by its words at and at + 1
unfoldable pub text_at : ℕ → ℕ → List ℕ → List ℕ
text_at node at words = unpacked (word_of words node (at + 1)) (chain_words ((word_of words node (at + 1) + 55) / 56) (word_of words node at) words)

-- the pair of a node
abbrev pub pair_at : List ℕ → ℕ → List ℕ × List ℕ
pair_at words node = (text_at node 3 words, text_at node 5 words)

-- the store that words stand for
unfoldable pub store_in : List ℕ → Store
store_in words = map (pair_at words) (items (tree_in words))

-- the pair of a node, with its revision
abbrev pub triple_at : List ℕ → ℕ → (List ℕ × List ℕ) × ℕ
triple_at words node = (pair_at words node, word_of words node 7)

-- the store with the revision of each pair, and the last one given
unfoldable pub revised_in : List ℕ → RevisedStore
revised_in words = record { last = word_of words 0 6; triples = map (triple_at words) (items (tree_in words)) }

-- words of version 2 stand for a store whose pairs have revisions
pub record StandsForRevised (words : List ℕ) (store : RevisedStore) : Type 0 where
  pub pairs : StandsFor words 2 (pairs_in store)
  pub revised : revised_in words ≡ store

-- words of version 2 stand for one store whose pairs have revisions, the one that is read off them, and for no other
pub record HasOneRevisedStore (words : List ℕ) : Type 0 where
  pub stands : StandsForRevised words (revised_in words)
  pub only : (other : RevisedStore) → StandsForRevised words other → other ≡ revised_in words
