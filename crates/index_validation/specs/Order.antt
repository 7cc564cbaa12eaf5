-- The nodes of a tree in order, read off words, and a walk over them.
use Rattle.std.specs.Prelude.{◌≡◌, ◌+◌, ◌<◌, ◌≤◌, ℕ, zero, suc, List, [], ◌∷◌, ◌++◌, slice_index}
use Rattle.avl_words.specs.Tree.{Tree, height, items}
use Rattle.avl_words.specs.Lines.{word_of, IsWithin}
use Rattle.avl_words.specs.Exact.{tree_at}
use Rattle.avl_words.specs.Words.{root, RepresentsTree}

-- the nodes of the tree below a link, in order, where it is at most 64 high
unfoldable pub nodes_in_order : ℕ → List ℕ → List ℕ
nodes_in_order line words = items (tree_at 64 line words)

-- below a link stands a tree, and the levels above it and its height are at most 64 together
pub record HasTree (words : List ℕ) (line level : ℕ) : Type 0 where
  pub tree : Tree ℕ
  pub stands : RepresentsTree words tree
  pub root_is : root tree ≡ line
  pub low : level + height tree ≤ 64

-- a line is a node whose left subtree is passed: a tree stands at its right, one level further down
pub record IsLeftPassed (words : List ℕ) (line level : ℕ) : Type 0 where
  pub some : 1 ≤ line
  pub within : IsWithin words line
  pub right : HasTree words (word_of words line 1) (level + 1)

-- the nodes that a walk has noted, the next one last
abbrev pub AreNoted : List ℕ → List ℕ → ℕ → Type 0
AreNoted words nodes depth = (p : ℕ) → p < depth → IsLeftPassed words (slice_index nodes p) p

-- the nodes to which the walk has still to come
abbrev pub to_come : List ℕ → List ℕ → ℕ → List ℕ
to_come words nodes zero = []
to_come words nodes (suc depth) = slice_index nodes depth ∷ (nodes_in_order (word_of words (slice_index nodes depth) 1) words ++ to_come words nodes depth)
