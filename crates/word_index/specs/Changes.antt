-- What a change of words leaves and does.
use Rattle.std.specs.Prelude.{◌≡◌, ◌^◌, ◌+◌, ◌<◌, ◌≤◌, ℕ, List, ◌++◌, [], length, All, Bool, is_some}
use Rattle.cx_base.specs.Store.{Store}
use Rattle.avl_words.specs.Lines.{IsWithin, word_of, with_word}
use Rattle.index_validation.specs.Blocks.{IsTextAt}
use Rattle.index_validation.specs.Layout.{IsChain, PairLayout, lines_at, IsAt, RevisionHead, IsLaidOut, StandsFor}
use Rattle.doc_model.specs.Meaning.{document_at, without_key}
use Rattle.avl_words.specs.Tree.{Tree}

-- a line has the words that it had
abbrev pub SameLine : List ℕ → List ℕ → ℕ → Type 0
SameLine before now line = (i : ℕ) → i < 8 → word_of now line i ≡ word_of before line i

-- a line is put in front of the given-back lines
unfoldable pub with_line_given : ℕ → List ℕ → List ℕ
with_line_given line words = with_word 0 4 (word_of words 0 4 + 1) (with_word 0 2 line (with_word line 0 (word_of words 0 2) words))

-- a line is there, and a further one can be counted as given back
pub record CanGive (words : List ℕ) (line : ℕ) : Type 0 where
  pub there : IsWithin words line
  pub few : word_of words 0 4 ≤ 2 ^ 32

-- pairs stand at places, and these lines and then others are loose
pub record IsLoose (words : List ℕ) (head : RevisionHead) (store : Store) (tree : Tree ℕ) (places : List PairLayout) (lines others : List ℕ) : Type 0 where
  pub given : List ℕ
  pub arranged : IsLaidOut words head store tree places given (lines ++ others)

-- a chain of loose lines
pub record LooseChain (words : List ℕ) (first count : ℕ) : Type 0 where
  pub head : RevisionHead
  pub store : Store
  pub tree : Tree ℕ
  pub places : List PairLayout
  pub lines : List ℕ
  pub others : List ℕ
  pub loose : IsLoose words head store tree places lines others
  pub chain : IsChain words first lines
  pub counted : count ≡ length lines

-- a chain of loose lines is given back, and the other loose lines are as they were
pub record IsGiven (before now : List ℕ) (head : RevisionHead) (store : Store) (tree : Tree ℕ) (places : List PairLayout) (others : List ℕ) : Type 0 where
  pub loose : IsLoose now head store tree places others []
  pub same : All (SameLine before now) others

-- whatever pairs stood before, the loose lines of a chain of `count` are given back, and the other loose lines are as they were
abbrev pub ChainGiven : ℕ → ℕ → List ℕ → List ℕ → Type 0
ChainGiven first count before now =
    (head : RevisionHead) (store : Store) (tree : Tree ℕ) (places : List PairLayout) (lines others : List ℕ) → IsLoose before head store tree places lines others → IsChain before first lines → count ≡ length lines →
    IsGiven before now head store tree places others

-- the blocks that a node names by its words at and at + 1, all loose
pub record LooseText (words : List ℕ) (node at : ℕ) : Type 0 where
  pub head : RevisionHead
  pub store : Store
  pub tree : Tree ℕ
  pub places : List PairLayout
  pub lines : List ℕ
  pub others : List ℕ
  pub bytes : List ℕ
  pub loose : IsLoose words head store tree places lines others
  pub text : IsTextAt words node at lines bytes

-- whatever pairs stood before, the loose blocks that a node names are given back, and the other loose lines are as they were
abbrev pub TextGiven : ℕ → ℕ → List ℕ → List ℕ → Type 0
TextGiven node at before now =
    (head : RevisionHead) (store : Store) (tree : Tree ℕ) (places : List PairLayout) (lines others bytes : List ℕ) → IsLoose before head store tree places lines others → IsTextAt before node at lines bytes →
    IsGiven before now head store tree places others

-- a pair that stands at a place of its own, beside the pairs of a store
pub record LoosePair (words : List ℕ) (node : ℕ) (head : RevisionHead) (store : Store) (tree : Tree ℕ) (places : List PairLayout) (place : PairLayout) (pair : List ℕ × List ℕ) : Type 0 where
  pub loose : IsLoose words head store tree places (lines_at place) []
  pub here : node ≡ place.node
  pub is : IsAt words place pair

-- some pair stands at a node of its own, beside the pairs of some store
pub record HasLoosePair (words : List ℕ) (node : ℕ) : Type 0 where
  pub head : RevisionHead
  pub store : Store
  pub tree : Tree ℕ
  pub places : List PairLayout
  pub place : PairLayout
  pub pair : List ℕ × List ℕ
  pub there : LoosePair words node head store tree places place pair

-- whatever pairs stood before, the lines of the pair that stood beside them at this node are given back
abbrev pub PairGiven : ℕ → List ℕ → List ℕ → Type 0
PairGiven node before now =
    (head : RevisionHead) (store : Store) (tree : Tree ℕ) (places : List PairLayout) (place : PairLayout) (pair : List ℕ × List ℕ) → LoosePair before node head store tree places place pair → IsLoose now head store tree places [] []

-- The words after stand for the store without the key, and the answer is whether the key was there.
pub record IsWithout (now : List ℕ) (store : Store) (key : List ℕ) (found : Bool) : Type 0 where
  pub after : StandsFor now 2 (without_key key store)
  pub there : found ≡ is_some (document_at key store)

-- of each store that the words before stand for in version 2, the key is removed, and the answer is whether it was there
abbrev pub IsRemoved : List ℕ → Bool → List ℕ → List ℕ → Type 0
IsRemoved key found before now = (store : Store) → StandsFor before 2 store → IsWithout now store key found
