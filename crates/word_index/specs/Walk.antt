-- A walk down the tree to the place of a key.
use Rattle.std.specs.Prelude.{◌≡◌, ◌^◌, ◌+◌, ◌*◌, ◌≤◌, ℕ, Bool, true, false, List, [], ◌∷◌, length, Result}
use Rattle.std.specs.declared.cmp.Ordering.{Ordering}
use Rattle.std.specs.declared.cmp.Ordering.TheVariants.{Less, Equal, Greater}
use Rattle.cx_base.specs.Calls.{Finds}
use Rattle.cx_base.specs.Memory.{Always}
use Rattle.cx_base.specs.Store.{Store}
use Rattle.cx_base.specs.declared.memory.Memory.{Ghosts}
use Rattle.avl_words.specs.Tree.{Tree}
use Rattle.avl_words.specs.Ways.{behind, spot}
use Rattle.avl_words.specs.Words.{IsOnWay, IsSpot}
use Rattle.index_validation.specs.Layout.{StandsFor}
use Rattle.word_index.specs.Answers.{IsNodeOf}
use Rattle.word_index.specs.Exact.{order_in}

-- a node of some pair
pub record HasNode (words : List ℕ) (node : ℕ) : Type 0 where
  pub pair : List ℕ × List ℕ
  pub is : IsNodeOf words node pair

-- A walk that goes past a key takes the node of the key for one below it.
abbrev pub toward : Bool → Ordering → Ordering
toward false order = order
toward true Less = Less
toward true Equal = Less
toward true Greater = Greater

-- how the key of a node compares for a walk to a key, or past it
abbrev pub walk_order : Bool → List ℕ → List ℕ → ℕ → Ordering
walk_order past key words node = toward past (order_in key words node)

-- the first of some nodes, 0 for none
abbrev pub IsFirst : ℕ → List ℕ → Type 0
IsFirst node [] = node ≡ 0
IsFirst node (n ∷ nodes) = node ≡ n

-- a walk is at this depth of a tree; the last node at which the walk went left is the first behind it
pub record IsPassing (nodes sides : List ℕ) (order : ℕ → Ordering) (depth node above : ℕ) (t : Tree ℕ) : Type 0 where
  pub on : IsOnWay nodes sides order depth node t
  pub above_is : IsFirst above (behind on.way)

-- a walk is at its end in a tree; the last node at which it went left is the first behind that
pub record IsWalkEnded (nodes sides : List ℕ) (order : ℕ → Ordering) (depth node above : ℕ) (t : Tree ℕ) : Type 0 where
  pub at : IsSpot nodes sides order depth node t
  pub above_is : IsFirst above (behind (spot order [] t).0)

-- a walk to a key, or past it, is at this depth and node in the tree of each way in which the words stand for a store
abbrev pub OnWay : Bool → List ℕ → List ℕ → List ℕ → ℕ → ℕ → ℕ → List ℕ → Type 0
OnWay past key nodes sides depth node above words = (version : ℕ) (store : Store) (s : StandsFor words version store) → IsPassing nodes sides (walk_order past key words) depth node above s.tree

-- a walk to a key, or past it, is at its end, at this depth and node, in the tree of each way in which the words stand for a store
abbrev pub AtSpot : Bool → List ℕ → List ℕ → List ℕ → ℕ → ℕ → ℕ → List ℕ → Type 0
AtSpot past key nodes sides depth node above words = (version : ℕ) (store : Store) (s : StandsFor words version store) → IsWalkEnded nodes sides (walk_order past key words) depth node above s.tree

-- a walk that keeps no way is at this depth and node, by some way that it may have noted
pub record OnSomeWay (past : Bool) (key : List ℕ) (depth node above : ℕ) (words : List ℕ) : Type 0 where
  pub nodes : List ℕ
  pub sides : List ℕ
  pub nodes_long : length nodes ≡ 64
  pub sides_long : length sides ≡ 64
  pub on : OnWay past key nodes sides depth node above words

-- a walk that keeps no way is at its end, at this node, by some way that it may have noted
pub record AtEnd (past : Bool) (key : List ℕ) (node above : ℕ) (words : List ℕ) : Type 0 where
  pub depth : ℕ
  pub nodes : List ℕ
  pub sides : List ℕ
  pub at : AtSpot past key nodes sides depth node above words

-- this number of visits is few for each store that the words stand for: 2 to that power is at most 2 * (n + 1) ^ 2, where the store has n pairs
abbrev pub FewVisits : ℕ → List ℕ → Type 0
FewVisits visits words = (version : ℕ) (store : Store) → StandsFor words version store → 2 ^ visits ≤ 2 * ((length store + 1) * (length store + 1))

-- what a walk found of the words, which it leaves as they were, and that its visits were few
pub record Walks {Memory T E : Type 0} (m : Ghosts Memory) (old new : Memory) (result : Result T E) (count : ℕ) (Found : T → List ℕ → Type 0) : Type 0 where
  pub finds : Finds m old new result Found
  pub visits : Always (m.stands new) (FewVisits count)

-- some words may stand for which this number of visits is few
abbrev pub Walked : {Key : Type 0} → (Key → List ℕ → Type 0) → ℕ → Type 0
Walked {Key = Key} stands visits = ∥ ((first : Key) × (now : List ℕ) × stands first now × FewVisits visits now) ∥₁

-- few visits, for all words that may be there after a walk, and for words that may have been there before it
pub record VisitsFew {Memory : Type 0} (m : Ghosts Memory) (old new : Memory) (visits : ℕ) : Type 0 where
  pub few : Always (m.stands new) (FewVisits visits)
  pub walked : Walked (m.stands old) visits

-- the node of the first of some pairs, 0 for none
abbrev pub IsFirstNode : List ℕ → ℕ → Store → Type 0
IsFirstNode words node [] = node ≡ 0
IsFirstNode words node (pair ∷ store) = (1 ≤ node) × IsNodeOf words node pair
