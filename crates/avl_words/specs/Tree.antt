-- Trees of items, balanced by height. What an item is does not matter to any law here.
use Rattle.std.specs.Prelude.{◌+◌, ◌≤◌, nat_le, max, ℕ, zero, suc, List, [], ◌∷◌, ◌++◌, if◌then◌else◌}

-- a binary tree of items
pub data Tree (A : Type 0) : Type 0 where
  Empty : Tree A
  Node : Tree A → A → Tree A → Tree A

-- the heights of two siblings differ by at most one
pub record IsLevel (l r : ℕ) : Type 0 where
  pub left : l ≤ r + 1
  pub right : r ≤ l + 1

-- the side opposite to a side: 0 is the left, 1 the right
abbrev pub other : ℕ → ℕ
other zero = 1
other (suc _) = 0

module _ {A : Type 0} where
  -- how many items the longest way down passes
  abbrev pub height : Tree A → ℕ
  height Empty = 0
  height (Node l x r) = 1 + max (height l) (height r)

  -- the items of a tree in order
  abbrev pub items : Tree A → List A
  items Empty = []
  items (Node l x r) = items l ++ x ∷ items r

  -- how many items a tree has
  abbrev pub size : Tree A → ℕ
  size Empty = 0
  size (Node l x r) = size l + (1 + size r)

  -- at each node the heights of the two children differ by at most one
  abbrev pub Balanced : Tree A → Type 0
  Balanced Empty = Unit {0}
  Balanced (Node l x r) = IsLevel (height l) (height r) × Balanced l × Balanced r

  -- Side 0 is the left, side 1 the right. A node with the first child at a side and the second at the other.
  abbrev pub node_on : ℕ → Tree A → A → Tree A → Tree A
  node_on zero a x b = Node a x b
  node_on (suc _) a x b = Node b x a

  -- of a left and a right child the one at a side
  abbrev pub at_side : ℕ → Tree A → Tree A → Tree A
  at_side zero l r = l
  at_side (suc _) l r = r

  -- The node `x` over its child `y` at a side and the low tree, rotated so that the root of the inner tree goes up; where that is empty, `y` goes up.
  abbrev pub inner_up : ℕ → Tree A → A → Tree A → A → Tree A → Tree A
  inner_up side outer y Empty x low = node_on side outer y (node_on side Empty x low)
  inner_up side outer y (Node l z r) x low = node_on side (node_on side outer y (at_side side l r)) z (node_on side (at_side (other side) l r) x low)

  -- A node `x` whose child `y` at a side, with these outer and inner children, is two higher than the low tree is rotated: `y` goes up where its inner child is
  -- no higher than its outer one, and else the root of the inner child.
  abbrev pub child_up : ℕ → Tree A → A → Tree A → A → Tree A → Tree A
  child_up side outer y inner x low =
      if nat_le (height inner) (height outer) then node_on side outer y (node_on side inner x low) else inner_up side outer y inner x low

  -- the node `x`, whose child at a side is two higher than the low tree at the other, rotated
  abbrev pub rotated : ℕ → Tree A → A → Tree A → Tree A
  rotated side Empty x low = node_on side Empty x low
  rotated side (Node l y r) x low = child_up side (at_side side l r) y (at_side (other side) l r) x low

  -- a node, balanced where its children's heights differ by two
  abbrev pub joined : Tree A → A → Tree A → Tree A
  joined l x r =
      if nat_le (height l + 2) (height r) then rotated 1 r x l
      else if nat_le (height r + 2) (height l) then rotated 0 l x r
      else Node l x r
