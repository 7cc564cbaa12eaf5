-- How the links and heights of nodes change, and what that leaves as it was.
use Rattle.std.specs.Prelude.{◌≡◌, ◌≢◌, ◌^◌, ◌+◌, ◌-◌, ◌<◌, ◌≤◌, ◌⊎◌, max, ℕ, zero, suc, List, length}
use Rattle.avl_words.specs.Tree.{Tree, Node, height, rotated, joined}
use Rattle.avl_words.specs.Lines.{word_of, IsWithin, with_word}
use Rattle.avl_words.specs.Words.{root, times, RepresentsTree}

-- the height of the tree below a link
abbrev pub high_of : ℕ → List ℕ → ℕ
high_of zero words = 0
high_of (suc n) words = word_of words (suc n) 2

-- a node gets these children, the first at a side, and its height
unfoldable pub with_node : ℕ → ℕ → ℕ → ℕ → List ℕ → List ℕ
with_node line side a b words =
    with_word line 2 (1 + max (high_of a words) (high_of b words)) (with_word line (1 - side) b (with_word line side a words))

-- a link to a node that is there, or to nothing, and the height below it
pub record IsLink (words : List ℕ) (node high : ℕ) : Type 0 where
  pub there : node ≢ 0 → IsWithin words node
  pub high_is : high_of node words ≡ high
  pub low : high ≤ 2 ^ 32

-- a node is within the words, and each of two links is to a node within them or to nothing, with the height below it
pub record CanSet (words : List ℕ) (node a a_high b b_high : ℕ) : Type 0 where
  pub there : IsWithin words node
  pub first : IsLink words a a_high
  pub second : IsLink words b b_high

-- the link at a side of a node is one to a node that is there, or to nothing
pub record HasLink (words : List ℕ) (node side : ℕ) : Type 0 where
  pub there : IsWithin words node
  pub link : word_of words node side ≢ 0 → IsWithin words (word_of words node side)

-- what the link at a side of a node names, and the height of the tree below it
pub record IsSubtree (node side link high : ℕ) (words : List ℕ) : Type 0 where
  pub link_is : word_of words node side ≡ link
  pub high_is : high_of link words ≡ high

-- All words are as they were but for the links and heights of a tree's nodes.
pub record SameExcept (before now : List ℕ) (t : Tree ℕ) : Type 0 where
  pub long : length now ≡ length before
  pub same : (line i : ℕ) → i < 8 → (times line t ≡ 0) ⊎ (3 ≤ i) → word_of now line i ≡ word_of before line i

-- A node that is there, its children's trees, and all lines apart. The node's own links and height may be anything.
pub record IsNodeOpen (words : List ℕ) (l : Tree ℕ) (x : ℕ) (r : Tree ℕ) : Type 0 where
  pub some : 1 ≤ x
  pub within : IsWithin words x
  pub left : RepresentsTree words l
  pub right : RepresentsTree words r
  pub once : (line : ℕ) → times line (Node l x r) ≤ 1
  pub low : height (Node l x r) ≤ 2 ^ 32

-- a new tree stands now, with this root, and no words changed but the links and heights of the old tree's nodes
pub record IsTreeMade (before now : List ℕ) (old new : Tree ℕ) (node : ℕ) : Type 0 where
  pub stands : RepresentsTree now new
  pub root_is : root new ≡ node
  pub but : SameExcept before now old

-- a new tree stands now, with this root and this height, and no words changed but the links and heights of the old tree's nodes
pub record IsHigh (before now : List ℕ) (old new : Tree ℕ) (node high : ℕ) : Type 0 where
  pub made : IsTreeMade before now old new node
  pub high_is : height new ≡ high

-- the child at a side is higher than the other
pub record CanRotate (words : List ℕ) (node side child low low_high : ℕ) : Type 0 where
  pub item : ℕ
  pub high_tree : Tree ℕ
  pub low_tree : Tree ℕ
  pub open_node : IsNodeOpen words high_tree item low_tree
  pub node_is : item ≡ node
  pub child_is : root high_tree ≡ child
  pub low_is : root low_tree ≡ low
  pub high_is : high_of low words ≡ low_high
  pub higher : height low_tree + 2 ≤ height high_tree

-- each node that could be rotated is: the words stand now for the rotated tree, with this root and this height
abbrev pub Rotates : ℕ → ℕ → ℕ → ℕ → ℕ → ℕ → List ℕ → List ℕ → Type 0
Rotates node side child low top high before now =
    (x : ℕ) (t : Tree ℕ) (s : Tree ℕ) → IsNodeOpen before t x s → x ≡ node → root t ≡ child → root s ≡ low → height s + 2 ≤ height t → IsHigh before now (Node t x s) (rotated side t x s) top high

-- a node with its links, and the trees below them with their heights; its own height may be anything
pub record CanJoin (words : List ℕ) (node left left_high right right_high : ℕ) : Type 0 where
  pub item : ℕ
  pub left_tree : Tree ℕ
  pub right_tree : Tree ℕ
  pub open_node : IsNodeOpen words left_tree item right_tree
  pub node_is : item ≡ node
  pub left_is : root left_tree ≡ left
  pub left_high_is : high_of left words ≡ left_high
  pub right_is : root right_tree ≡ right
  pub right_high_is : high_of right words ≡ right_high

-- each node that could be joined is: the words stand now for the joined tree, with this root and this height
abbrev pub Joins : ℕ → ℕ → ℕ → ℕ → ℕ → List ℕ → List ℕ → Type 0
Joins node left right top high before now =
    (x : ℕ) (l : Tree ℕ) (r : Tree ℕ) → IsNodeOpen before l x r → x ≡ node → root l ≡ left → root r ≡ right → IsHigh before now (Node l x r) (joined l x r) top high
