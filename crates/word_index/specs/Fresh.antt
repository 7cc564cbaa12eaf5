-- Lines are taken, and filled.
use Rattle.std.specs.Prelude.{◌≡◌, ◌≢◌, ◌+◌, ◌*◌, ◌/◌, ◌%◌, ◌<◌, ◌≤◌, ℕ, List, ◌++◌, ◌∷◌, [], length, slice_index, All}
use Rattle.std.specs.List.{flat_map}
use Rattle.cx_base.specs.Store.{Store}
use Rattle.avl_words.specs.Lines.{word_of, line_count}
use Rattle.index_validation.specs.Layout.{IsChain, PairLayout, lines_at, RevisionHead, IsLaidOut}
use Rattle.word_index.specs.Changes.{SameLine}
use Rattle.avl_words.specs.Tree.{Tree}

-- the given number of further lines can be taken, beside those of the places and the loose ones; line 0 is not one of them
abbrev pub HasRoom : List ℕ → List PairLayout → List ℕ → ℕ → Type 0
HasRoom words places loose more = length (flat_map lines_at places) + length loose + more + 1 ≤ line_count words

-- pairs stand at places, and this number of further lines can be taken
pub record CanTake (words : List ℕ) (more : ℕ) : Type 0 where
  pub head : RevisionHead
  pub store : Store
  pub tree : Tree ℕ
  pub places : List PairLayout
  pub given : List ℕ
  pub loose : List ℕ
  pub arranged : IsLaidOut words head store tree places given loose
  pub room : HasRoom words places loose more

-- lines are loose now, and the other loose lines are as they were
pub record AreLinesTaken (before now : List ℕ) (head : RevisionHead) (store : Store) (tree : Tree ℕ) (places : List PairLayout) (taken loose : List ℕ) : Type 0 where
  pub given : List ℕ
  pub arranged : IsLaidOut now head store tree places given (taken ++ loose)
  pub same : All (SameLine before now) loose
  pub long : length now ≡ length before

-- whatever pairs stood before, with room for one line more, this line is loose now, and the other loose lines are as they were
abbrev pub LineTaken : ℕ → List ℕ → List ℕ → Type 0
LineTaken line before now =
    (head : RevisionHead) (store : Store) (tree : Tree ℕ) (places : List PairLayout) (given loose : List ℕ) → IsLaidOut before head store tree places given loose → HasRoom before places loose 1 → AreLinesTaken before now head store tree places (line ∷ []) loose

-- a line has these eight words now, and no other line changed
pub record LineFilled (line : ℕ) (content before now : List ℕ) : Type 0 where
  pub here : (i : ℕ) → i < 8 → word_of now line i ≡ slice_index content i
  pub others : (other : ℕ) → other ≢ line → SameLine before now other
  pub long : length now ≡ length before

-- a block: the next line, and seven words from a place on
pub record IsBlock (next : ℕ) (words : List ℕ) (from : ℕ) (content : List ℕ) : Type 0 where
  pub first : slice_index content 0 ≡ next
  pub rest : (i : ℕ) → i < 7 → slice_index content (1 + i) ≡ slice_index words (from + i)
  pub long : length content ≡ 8

-- words from a place on stand in a chain of `count` new lines, which are loose, and the other loose lines are as they were
pub record IsChainWritten (before now : List ℕ) (head : RevisionHead) (store : Store) (tree : Tree ℕ) (places : List PairLayout) (first count from : ℕ) (words loose : List ℕ) : Type 0 where
  pub lines : List ℕ
  pub taken : AreLinesTaken before now head store tree places lines loose
  pub chain : IsChain now first lines
  pub counted : length lines ≡ count
  pub content : (i : ℕ) → i < 7 * count → word_of now (slice_index lines (i / 7)) (1 + i % 7) ≡ slice_index words (from + i)

-- whatever pairs stood before, with room for `count` lines more, the text stands in a chain of `count` new lines
abbrev pub TextWritten : List ℕ → ℕ → ℕ → List ℕ → List ℕ → Type 0
TextWritten words count first before now =
    (head : RevisionHead) (store : Store) (tree : Tree ℕ) (places : List PairLayout) (given loose : List ℕ) → IsLaidOut before head store tree places given loose → HasRoom before places loose count →
    IsChainWritten before now head store tree places first count 0 words loose
