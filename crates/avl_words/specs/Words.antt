-- How words stand for a tree of lines: word 0 of a node's line is its left child, word 1 its right child, word 2 its height.
use Rattle.std.specs.Prelude.{◌≡◌, ◌^◌, ◌+◌, ◌<◌, ◌≤◌, ◌==◌, ℕ, List, [], ◌∷◌, length, slice_index, if◌then◌else◌}
use Rattle.std.specs.declared.cmp.Ordering.{Ordering}
use Rattle.avl_words.specs.Tree.{Tree, Empty, Node, height, size, Balanced}
use Rattle.avl_words.specs.Ways.{Turn, whole, spot}
use Rattle.avl_words.specs.Lines.{word_of, IsWithin}

-- the line of a tree's root, and 0 where it has none
abbrev pub root : Tree ℕ → ℕ
root Empty = 0
root (Node l x r) = x

-- how often a line is a node of a tree
abbrev pub times : ℕ → Tree ℕ → ℕ
times line Empty = 0
times line (Node l x r) = times line l + (if x == line then 1 else 0) + times line r

-- a node that is there, with these children and this height
pub record IsNode (words : List ℕ) (line left right high : ℕ) : Type 0 where
  pub some : 1 ≤ line
  pub within : IsWithin words line
  pub left_is : word_of words line 0 ≡ left
  pub right_is : word_of words line 1 ≡ right
  pub height_is : word_of words line 2 ≡ high

-- the line of each node of a tree has its children and its height
abbrev pub RepresentsTree : List ℕ → Tree ℕ → Type 0
RepresentsTree words Empty = Unit {0}
RepresentsTree words (Node l x r) = IsNode words x (root l) (root r) (height (Node l x r)) × RepresentsTree words l × RepresentsTree words r

-- words that stand for a balanced tree of lines apart, whose root header word 1 names
pub record IsTree (words : List ℕ) (t : Tree ℕ) : Type 0 where
  pub root_is : word_of words 0 1 ≡ root t
  pub stands : RepresentsTree words t
  pub balanced : Balanced t
  pub once : (line : ℕ) → times line t ≤ 1
  pub few : size t < 2 ^ 32

-- a way down, noted: the node and the side of each turn, the first one first
abbrev pub IsWayNoted : List ℕ → List ℕ → List (Turn ℕ) → Type 0
IsWayNoted nodes sides [] = Unit {0}
IsWayNoted nodes sides (turn ∷ way) =
    (slice_index nodes (length way) ≡ turn.item) × (slice_index sides (length way) ≡ turn.side) × (turn.side < 2) × IsWayNoted nodes sides way

-- a walk is at this depth of a tree, at this node, on the way to where it ends
pub record IsOnWay (nodes sides : List ℕ) (order : ℕ → Ordering) (depth node : ℕ) (t : Tree ℕ) : Type 0 where
  pub way : List (Turn ℕ)
  pub here : Tree ℕ
  pub whole_is : whole way here ≡ t
  pub same : spot order [] t ≡ spot order way here
  pub node_is : node ≡ root here
  pub noted : IsWayNoted nodes sides way
  pub long : length way ≡ depth

-- where a walk ends
pub record IsSpot (nodes sides : List ℕ) (order : ℕ → Ordering) (depth node : ℕ) (t : Tree ℕ) : Type 0 where
  pub node_is : node ≡ root (spot order [] t).1
  pub noted : IsWayNoted nodes sides (spot order [] t).0
  pub long : length (spot order [] t).0 ≡ depth
