-- A tree takes another's place at the end of a way down, and each node of the way is balanced again, the last one first.
use Rattle.std.specs.Prelude.{◌≡◌, ◌^◌, ◌+◌, ◌-◌, ◌≤◌, ◌==◌, ℕ, List, [], ◌∷◌, length, if◌then◌else◌}
use Rattle.avl_words.specs.Tree.{Tree, height, node_on, Balanced}
use Rattle.avl_words.specs.Ways.{Turn, under, whole, mended}
use Rattle.avl_words.specs.Lines.{word_of, IsWithin}
use Rattle.avl_words.specs.Words.{root, times, RepresentsTree, IsWayNoted}
use Rattle.avl_words.specs.Links.{high_of, SameExcept, IsTreeMade, IsHigh}

-- A node at one side of which a tree is to hang, and at the other the tree that is there. Its link to the side, and its height, may be anything.
pub record IsHanging (words : List ℕ) (side : ℕ) (t : Tree ℕ) (x : ℕ) (sibling : Tree ℕ) : Type 0 where
  pub some : 1 ≤ x
  pub within : IsWithin words x
  pub link_is : word_of words x (1 - side) ≡ root sibling
  pub hung : RepresentsTree words t
  pub beside : RepresentsTree words sibling
  pub once : (line : ℕ) → times line t + (if x == line then 1 else 0) + times line sibling ≤ 1
  pub low : height (node_on side t x sibling) ≤ 2 ^ 32

-- some tree, of this root and height, is to hang at this side of this node
pub record CanHang (words : List ℕ) (node side child high : ℕ) : Type 0 where
  pub tree : Tree ℕ
  pub item : ℕ
  pub sibling : Tree ℕ
  pub hanging : IsHanging words side tree item sibling
  pub node_is : item ≡ node
  pub child_is : root tree ≡ child
  pub high_is : high_of child words ≡ high

-- each tree that was to hang at this side of the node hangs there, balanced again: the tree now has this root and this height
abbrev pub Hangs : ℕ → ℕ → ℕ → ℕ → ℕ → List ℕ → List ℕ → Type 0
Hangs node side child top high before now =
    (t : Tree ℕ) (x : ℕ) (sibling : Tree ℕ) → IsHanging before side t x sibling → x ≡ node → root t ≡ child → IsHigh before now (node_on side t x sibling) (under side t x sibling) top high

-- the nodes of a way, with what hangs at their other sides
abbrev pub Spine : List ℕ → List (Turn ℕ) → Type 0
Spine words [] = Unit {0}
Spine words (turn ∷ way) =
    (1 ≤ turn.item) × IsWithin words turn.item × (word_of words turn.item (1 - turn.side) ≡ root turn.sibling)
    × RepresentsTree words turn.sibling × Spine words way

-- how often a line is a node of a way, or of what hangs at the other sides
abbrev pub times_way : ℕ → List (Turn ℕ) → ℕ
times_way line [] = 0
times_way line (turn ∷ way) = (if turn.item == line then 1 else 0) + times line turn.sibling + times_way line way

-- no height on the way up is over the limit
abbrev pub IsLow : List (Turn ℕ) → Tree ℕ → Type 0
IsLow [] t = Unit {0}
IsLow (turn ∷ way) t = (height (node_on turn.side t turn.item turn.sibling) ≤ 2 ^ 32) × IsLow way (under turn.side t turn.item turn.sibling)

-- a way that was noted, and a tree that is to hang at its end
pub record IsHung (words nodes sides : List ℕ) (depth : ℕ) (way : List (Turn ℕ)) (t : Tree ℕ) (node : ℕ) : Type 0 where
  pub noted : IsWayNoted nodes sides way
  pub long : length way ≡ depth
  pub spine : Spine words way
  pub stands : RepresentsTree words t
  pub root_is : root t ≡ node
  pub once : (line : ℕ) → times_way line way + times line t ≤ 1
  pub low : IsLow way t

-- The nodes of a way as they are with a tree at its end: each with its link down the way, and its height.
abbrev pub Stood : List ℕ → List (Turn ℕ) → Tree ℕ → Type 0
Stood words [] t = Unit {0}
Stood words (turn ∷ way) t =
    (word_of words turn.item turn.side ≡ root t) × (word_of words turn.item 2 ≡ height (node_on turn.side t turn.item turn.sibling))
    × Stood words way (node_on turn.side t turn.item turn.sibling)

-- the nodes of a way are as they are with some tree at its end, with which the whole is balanced
pub record IsStood (words : List ℕ) (way : List (Turn ℕ)) : Type 0 where
  pub tree : Tree ℕ
  pub stood : Stood words way tree
  pub balanced : Balanced (whole way tree)

-- the first nodes of a way, as many as given, are as they are with some tree at their end, with which the whole is balanced
abbrev pub Settled : List ℕ → ℕ → List (Turn ℕ) → Type 0
Settled words n [] = Unit {0}
Settled words n (turn ∷ way) = (length (turn ∷ way) ≤ n → IsStood words (turn ∷ way)) × Settled words n way

-- a tree is to hang at the end of a way, as high as the one for which the nodes of the way stand
pub record CanRelink (words nodes sides : List ℕ) (depth node : ℕ) : Type 0 where
  pub way : List (Turn ℕ)
  pub tree : Tree ℕ
  pub old : Tree ℕ
  pub hung : IsHung words nodes sides depth way tree node
  pub stood : Stood words way old
  pub level : height old ≡ height tree

-- each tree that was to hang at the end of the way, as high as the one before, hangs there, and the whole has this root
abbrev pub Relinks : List ℕ → List ℕ → ℕ → ℕ → ℕ → List ℕ → List ℕ → Type 0
Relinks nodes sides depth node top before now =
    (way : List (Turn ℕ)) (t : Tree ℕ) (old : Tree ℕ) → IsHung before nodes sides depth way t node → Stood before way old → height old ≡ height t → IsTreeMade before now (whole way t) (whole way t) top

-- some tree, of this root and height, is to hang at the end of the way, and the first nodes of the way, as many as given, are settled
pub record CanMend (words nodes sides : List ℕ) (depth settled node high : ℕ) : Type 0 where
  pub way : List (Turn ℕ)
  pub tree : Tree ℕ
  pub hung : IsHung words nodes sides depth way tree node
  pub high_is : high_of node words ≡ high
  pub settled_way : Settled words settled way

-- each tree that was to hang at the end of the way hangs there, each node of the way is balanced again, and the whole has this root
abbrev pub Mends : List ℕ → List ℕ → ℕ → ℕ → ℕ → ℕ → ℕ → List ℕ → List ℕ → Type 0
Mends nodes sides depth settled node high top before now =
    (way : List (Turn ℕ)) (t : Tree ℕ) → IsHung before nodes sides depth way t node → high_of node before ≡ high → Settled before settled way → IsTreeMade before now (whole way t) (mended way t) top

-- the tree is balanced from the bottom of a way up to this depth: what is above is not mended yet
pub record IsMending (before now nodes sides : List ℕ) (depth settled : ℕ) (way : List (Turn ℕ)) (t : Tree ℕ) (top high : ℕ) : Type 0 where
  pub rest : List (Turn ℕ)
  pub tree : Tree ℕ
  pub hung : IsHung now nodes sides depth rest tree top
  pub high_is : height tree ≡ high
  pub settled_way : Settled now settled rest
  pub same : mended rest tree ≡ mended way t
  pub lines : (line : ℕ) → times_way line rest + times line tree ≡ times_way line way + times line t
  pub but : SameExcept before now (whole way t)

-- of each tree that was to hang at the end of the way, the way is mended from the bottom up to this depth
abbrev pub Mending : List ℕ → List ℕ → ℕ → ℕ → ℕ → ℕ → ℕ → ℕ → ℕ → List ℕ → List ℕ → Type 0
Mending nodes sides depth settled node high rest top top_high before now =
    (way : List (Turn ℕ)) (t : Tree ℕ) → IsHung before nodes sides depth way t node → high_of node before ≡ high → Settled before settled way → IsMending before now nodes sides rest settled way t top top_high
