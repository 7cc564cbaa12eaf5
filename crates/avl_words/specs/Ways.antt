-- Ways down a tree, and the tree again with another in place at the end of a way.
use Rattle.std.specs.Prelude.{◌≡◌, ◌≢◌, ℕ, zero, suc, List, [], ◌∷◌, ◌++◌, All}
use Rattle.std.specs.declared.cmp.Ordering.{Ordering}
use Rattle.std.specs.declared.cmp.Ordering.TheVariants.{Less, Equal, Greater}
use Rattle.avl_words.specs.Tree.{Tree, Empty, Node, items, node_on, joined}

-- A way down: the nodes passed, the last first, each with the side taken and the child at the other side.
pub record Turn (A : Type 0) : Type 0 where
  pub side : ℕ
  pub item : A
  pub sibling : Tree A

-- one of three, by an ordering
abbrev pub by_order : {B : Type 0} → Ordering → B → B → B → B
by_order Less below same above = below
by_order Equal below same above = same
by_order Greater below same above = above

module _ {A : Type 0} where
  -- a node with a tree at a side, balanced
  abbrev pub under : ℕ → Tree A → A → Tree A → Tree A
  under zero t x sibling = joined t x sibling
  under (suc _) t x sibling = joined sibling x t

  -- the whole tree, with this one at the end of a way
  abbrev pub whole : List (Turn A) → Tree A → Tree A
  whole [] t = t
  whole (turn ∷ way) t = whole way (node_on turn.side t turn.item turn.sibling)

  -- the whole tree, with this one at the end of a way and each node of the way balanced again
  abbrev pub mended : List (Turn A) → Tree A → Tree A
  mended [] t = t
  mended (turn ∷ way) t = mended way (under turn.side t turn.item turn.sibling)

  -- the items that stand before a tree, in order, by one turn of the way to it
  abbrev pub passed : ℕ → A → Tree A → List A
  passed zero x sibling = []
  passed (suc _) x sibling = items sibling ++ x ∷ []

  -- the items that stand behind a tree, in order, by one turn of the way to it
  abbrev pub ahead : ℕ → A → Tree A → List A
  ahead zero x sibling = x ∷ items sibling
  ahead (suc _) x sibling = []

  -- the items that stand before the end of a way, in order
  abbrev pub before : List (Turn A) → List A
  before [] = []
  before (turn ∷ way) = before way ++ passed turn.side turn.item turn.sibling

  -- the items that stand behind the end of a way, in order
  abbrev pub behind : List (Turn A) → List A
  behind [] = []
  behind (turn ∷ way) = ahead turn.side turn.item turn.sibling ++ behind way

  -- Where a walk ends that goes right at an item below what is sought, and left at one above: the way to it, and what
  -- stands there.
  abbrev pub spot : (A → Ordering) → List (Turn A) → Tree A → List (Turn A) × Tree A
  spot order way Empty = (way, Empty)
  spot order way (Node l x r) =
      by_order (order x) (spot order (record { side = 1; item = x; sibling = l } ∷ way) r) (way, Node l x r) (spot order (record { side = 0; item = x; sibling = r } ∷ way) l)

  -- items in order: those below what is sought, at most one that is the same, and those above
  abbrev pub IsCutBy : (A → Ordering) → List A → Type 0
  IsCutBy order [] = Unit {0}
  IsCutBy order (x ∷ xs) = (order x ≢ Less → All (λ y. order y ≡ Greater) xs) × IsCutBy order xs

  -- what stands where a walk by an order ends is nothing, or a node with what is sought
  abbrev pub WayEnds : (A → Ordering) → Tree A → Type 0
  WayEnds order Empty = Unit {0}
  WayEnds order (Node l x r) = order x ≡ Equal

  -- a tree with a new item where a walk by an order ends, each node of the way balanced again
  abbrev pub with_new : (A → Ordering) → A → Tree A → Tree A
  with_new order x t = mended (spot order [] t).0 (Node Empty x Empty)
