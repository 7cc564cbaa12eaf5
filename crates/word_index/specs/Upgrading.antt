-- Words of version 1 become words of version 2.
use Rattle.std.specs.Prelude.{ℕ, List, [], ◌∷◌, map}
use Rattle.cx_base.specs.Memory.{Words}
use Rattle.cx_base.specs.Store.{Store}
use Rattle.doc_model.specs.Revisions.{RevisedStore}
use Rattle.avl_words.specs.Lines.{with_word, word_of}
use Rattle.index_validation.specs.Layout.{StandsFor}
use Rattle.index_validation.specs.Order.{nodes_in_order}
use Rattle.index_validation.specs.Reading.{StandsForRevised}

-- the pairs of these nodes get revision 1
abbrev pub with_first_revisions : List ℕ → List ℕ → List ℕ
with_first_revisions [] words = words
with_first_revisions (node ∷ nodes) words = with_first_revisions nodes (with_word node 7 1 words)

-- each pair gets revision 1, which is the last one given, and the version becomes 2
unfoldable pub upgraded_in : List ℕ → List ℕ
upgraded_in words = with_first_revisions (nodes_in_order (word_of words 0 1) words) (with_word 0 6 1 (with_word 0 0 2 words))

-- a store whose pairs all have revision 1, which is the last one given
abbrev pub first_revisions : Store → RevisedStore
first_revisions store = record { last = 1; triples = map (λ pair. (pair, 1)) store }

-- Words that stood for a store in version 1 stand for the same pairs in version 2, each with revision 1, and are as many words of 64 bits as they were.
pub record IsMigrated (before now : List ℕ) : Type 0 where
  pub pairs : (store : Store) → StandsFor before 1 store → StandsForRevised now (first_revisions store)
  pub words : (n : ℕ) → Words n before → Words n now
