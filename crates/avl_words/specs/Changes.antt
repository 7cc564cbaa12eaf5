-- A node is put where a walk ended, or the node there is taken out.
use Rattle.std.specs.Prelude.{◌≡◌, ◌≢◌, ◌+◌, ◌≤◌, ℕ, List, [], ◌++◌, length}
use Rattle.std.specs.declared.cmp.Ordering.{Ordering}
use Rattle.avl_words.specs.Tree.{Tree, Empty, Node, height}
use Rattle.avl_words.specs.Ways.{Turn, whole, spot, with_new}
use Rattle.avl_words.specs.Removal.{least, gone_way, gone_rest, without}
use Rattle.avl_words.specs.Lines.{word_of}
use Rattle.avl_words.specs.Words.{times, IsNode, RepresentsTree, IsTree, IsWayNoted, IsSpot}
use Rattle.avl_words.specs.Links.{SameExcept}
use Rattle.avl_words.specs.Mending.{IsHung, Settled}
use Rattle.avl_words.specs.Exact.{with_tree}

-- a walk ended at nothing, and a leaf beside the tree is to go there
pub record IsBeside (words nodes sides : List ℕ) (order : ℕ → Ordering) (depth node : ℕ) (t : Tree ℕ) : Type 0 where
  pub header : 8 ≤ length words
  pub tree : IsTree words t
  pub spot : IsSpot nodes sides order depth 0 t
  pub leaf : IsNode words node 0 0 1
  pub apart : times node t ≡ 0

-- a leaf can be put where a walk by some order ended at nothing, in some tree
pub record CanPut (words nodes sides : List ℕ) (depth node : ℕ) : Type 0 where
  pub order : ℕ → Ordering
  pub tree : Tree ℕ
  pub beside : IsBeside words nodes sides order depth node tree

-- in each tree that stood before, the leaf is put where the walk ended, and the words now are those with the links of the tree with it
abbrev pub PutsNode : List ℕ → List ℕ → ℕ → ℕ → List ℕ → List ℕ → Type 0
PutsNode nodes sides depth node before now =
    (order : ℕ → Ordering) (t : Tree ℕ) → IsBeside before nodes sides order depth node t → now ≡ with_tree (with_new order node t) before

-- a walk ended at a node
pub record IsThere (words nodes sides : List ℕ) (order : ℕ → Ordering) (depth node : ℕ) (t : Tree ℕ) : Type 0 where
  pub header : 8 ≤ length words
  pub tree : IsTree words t
  pub spot : IsSpot nodes sides order depth node t
  pub some : node ≢ 0

-- the node at which a walk by some order ended can be taken out, of some tree
pub record CanTakeNode (words nodes sides : List ℕ) (depth node : ℕ) : Type 0 where
  pub order : ℕ → Ordering
  pub tree : Tree ℕ
  pub there : IsThere words nodes sides order depth node tree

-- of each tree that stood before, the item where the walk ended is taken out, and the words now are those with the links of the tree without it
abbrev pub TakesNode : List ℕ → List ℕ → ℕ → ℕ → List ℕ → List ℕ → Type 0
TakesNode nodes sides depth node before now =
    (order : ℕ → Ordering) (t : Tree ℕ) → IsThere before nodes sides order depth node t → now ≡ with_tree (without order t) before

-- the node of a walk's end, and its two children
pub record HasTwo (words nodes sides : List ℕ) (depth node left right : ℕ) : Type 0 where
  pub can : CanTakeNode words nodes sides depth node
  pub left_is : word_of words node 0 ≡ left
  pub right_is : word_of words node 1 ≡ right

-- a way that is noted, at whose end a tree stands
pub record IsBelow (words nodes sides : List ℕ) (depth node : ℕ) (way : List (Turn ℕ)) (c : Tree ℕ) (z : ℕ) (d : Tree ℕ) : Type 0 where
  pub noted : IsWayNoted nodes sides way
  pub long : length way ≡ depth
  pub stands : RepresentsTree words (Node c z d)
  pub node_is : z ≡ node

-- a way is noted to a node that stands with some children, and the way and the tree's height are at most 64 together
pub record CanDescend (words nodes sides : List ℕ) (depth node : ℕ) : Type 0 where
  pub way : List (Turn ℕ)
  pub left : Tree ℕ
  pub item : ℕ
  pub right : Tree ℕ
  pub below : IsBelow words nodes sides depth node way left item right
  pub room : depth + height (Node left item right) ≤ 64

-- the way on to the least node below is noted too
pub record IsLeastNode (nodes sides : List ℕ) (depth node : ℕ) (way : List (Turn ℕ)) (c : Tree ℕ) (z : ℕ) (d : Tree ℕ) : Type 0 where
  pub noted : IsWayNoted nodes sides ((least [] c z d).way ++ way)
  pub long : length ((least [] c z d).way ++ way) ≡ depth
  pub node_is : (least [] c z d).item ≡ node

-- of each tree that stood at the end of the way, the way on to its least node is noted now, and that node is given
abbrev pub Descends : List ℕ → List ℕ → ℕ → ℕ → List ℕ → List ℕ → ℕ → ℕ → List ℕ → Type 0
Descends nodes sides depth node nodes_now sides_now depth_now node_now words =
    (way : List (Turn ℕ)) (c : Tree ℕ) (z : ℕ) (d : Tree ℕ) → IsBelow words nodes sides depth node way c z d → IsLeastNode nodes_now sides_now depth_now node_now way c z d

-- a tree is to hang at the end of a way, to stand for the one without a node
pub record IsGone (before now nodes sides : List ℕ) (depth settled node : ℕ) (way : List (Turn ℕ)) (t : Tree ℕ) : Type 0 where
  pub hung : IsHung now nodes sides depth way t node
  pub settled_way : Settled now settled way
  pub but : SameExcept before now (whole way t)

-- where a node stands here, what is to hang in its place is at the end of the way that its removal leaves
abbrev pub IsNodeOut : List ℕ → List ℕ → List ℕ → List ℕ → ℕ → ℕ → ℕ → List (Turn ℕ) → Tree ℕ → Type 0
IsNodeOut before now nodes sides depth settled node way Empty = Unit {0}
IsNodeOut before now nodes sides depth settled node way (Node l x r) = IsGone before now nodes sides depth settled node (gone_way way l r) (gone_rest l r)

-- in each tree that stood before with the walk's end at this node, which has these two links, what is to hang in the node's place is given
abbrev pub RaisesNode : List ℕ → List ℕ → ℕ → ℕ → ℕ → ℕ → List ℕ → List ℕ → ℕ → ℕ → List ℕ → List ℕ → Type 0
RaisesNode nodes sides depth node left right nodes_now sides_now depth_now rest before now =
    (order : ℕ → Ordering) (t : Tree ℕ) → IsThere before nodes sides order depth node t → word_of before node 0 ≡ left → word_of before node 1 ≡ right →
    IsNodeOut before now nodes_now sides_now depth_now depth rest (spot order [] t).0 (spot order [] t).1

-- a walk that is at this depth of a tree, at this node, on its way to where a node hangs
pub record IsDescending (words nodes sides : List ℕ) (depth node : ℕ) (way : List (Turn ℕ)) (c : Tree ℕ) (z : ℕ) (d : Tree ℕ) : Type 0 where
  pub passed : List (Turn ℕ)
  pub left : Tree ℕ
  pub item : ℕ
  pub right : Tree ℕ
  pub same : least passed left item right ≡ least [] c z d
  pub whole_is : whole passed (Node left item right) ≡ Node c z d
  pub noted : IsWayNoted nodes sides (passed ++ way)
  pub long : length (passed ++ way) ≡ depth
  pub node_is : item ≡ node
  pub stands : RepresentsTree words (Node left item right)
