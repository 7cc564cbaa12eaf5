-- What hangs a tree at the end of a way, and what stands all the way up.
use Rattle.std.proofs.Common.{◌≡◌, ◌+◌, ◌-◌, ◌*◌, ◌<◌, ◌≤◌, inl, ℕ, zero, suc, cond, leb, List, [], ◌∷◌, length, get_or, refl, sym, ap, subst, ◌∙◌, arith}
use Rattle.std.proofs.lemmas.Bool.{cond_both}
use Rattle.avl_words.specs.Tree.{Tree, Empty, Node, height, node_on, inner_up, child_up, rotated, joined}
use Rattle.avl_words.specs.Ways.{Turn, under, whole, mended}
use Rattle.avl_words.specs.Lines.{word_of, IsWithin}
use Rattle.avl_words.specs.Words.{root, times}
use Rattle.avl_words.specs.Links.{high_of, HasLink, IsSubtree, SameExcept, IsNodeOpen, IsHigh, CanJoin, Joins}
use Rattle.avl_words.specs.Mending.{IsHanging, CanHang, Hangs, Spine, times_way, IsHung}
use Rattle.avl_words.proofs.Frames.{times_self, times_on, high_is, stands_apart}
use Rattle.avl_words.proofs.Rotations.{link_is}
use Rattle.avl_words.proofs.Trees.{height_on}

-- the lines of a balanced node
inner_up_times : (k side : ℕ) (a : Tree ℕ) (y : ℕ) (b : Tree ℕ) (x : ℕ) (c : Tree ℕ) → times k (inner_up side a y b x c) ≡ times k (node_on side (node_on side a y b) x c)
inner_up_times k zero a y Empty x c = omega arith
inner_up_times k (suc s) a y Empty x c = omega arith
inner_up_times k zero a y (Node l z r) x c = omega arith
inner_up_times k (suc s) a y (Node l z r) x c = omega arith

-- a single rotation leaves it as it was how often a line `k` is in the tree
single_times : (k side : ℕ) (a : Tree ℕ) (y : ℕ) (b : Tree ℕ) (x : ℕ) (c : Tree ℕ) → times k (node_on side a y (node_on side b x c)) ≡ times k (node_on side (node_on side a y b) x c)
single_times k zero a y b x c = omega arith
single_times k (suc s) a y b x c = omega arith

-- a rotation of a node `x` and its child `y`, single or double, leaves it as it was how often a line `k` is in the tree
child_up_times : (k side : ℕ) (a : Tree ℕ) (y : ℕ) (b : Tree ℕ) (x : ℕ) (c : Tree ℕ) → times k (child_up side a y b x c) ≡ times k (node_on side (node_on side a y b) x c)
child_up_times k side a y b x c =
    cond_both (leb (height b) (height a)) (node_on side a y (node_on side b x c)) (inner_up side a y b x c) (λ t. times k t ≡ times k (node_on side (node_on side a y b) x c))
    (λ _. single_times k side a y b x c) (λ _. inner_up_times k side a y b x c)

-- a node `x` with `t` at a side and `c` at the other holds a line `k` as often after it is rotated away from `t` as before
rotated_times : (k side : ℕ) (t : Tree ℕ) (x : ℕ) (c : Tree ℕ) → times k (rotated side t x c) ≡ times k (node_on side t x c)
rotated_times k side Empty x c = refl
rotated_times k zero (Node l y r) x c = child_up_times k zero l y r x c
rotated_times k (suc s) (Node l y r) x c = child_up_times k (suc s) r y l x c

-- a node `x` over `l` and `r` holds a line `k` as often after it is balanced as before
joined_times : (k : ℕ) (l : Tree ℕ) (x : ℕ) (r : Tree ℕ) → times k (joined l x r) ≡ times k (Node l x r)
joined_times k l x r =
    cond_both (leb (height l + 2) (height r)) (rotated 1 r x l) (cond (leb (height r + 2) (height l)) (rotated 0 l x r) (Node l x r)) (λ t. times k t ≡ times k (Node l x r)) (λ _. rotated_times k 1 r x l)
    (λ _. cond_both (leb (height r + 2) (height l)) (rotated 0 l x r) (Node l x r) (λ t. times k t ≡ times k (Node l x r)) (λ _. rotated_times k 0 l x r) (λ _. refl))

-- a node `x` with `t` at a side and `s` at the other holds a line `k` as often after it is balanced as before
pub under_times : (k side : ℕ) (t : Tree ℕ) (x : ℕ) (s : Tree ℕ) → times k (under side t x s) ≡ times k (node_on side t x s)
under_times k zero t x s = joined_times k t x s
under_times k (suc n) t x s = joined_times k s x t

-- a line is in a whole tree as often as in the way and in the tree at its end together
pub whole_times : (k : ℕ) (way : List (Turn ℕ)) (t : Tree ℕ) → times k (whole way t) ≡ times_way k way + times k t
whole_times k [] t = omega arith
whole_times k (turn ∷ way) t =
    let i = whole_times k way (node_on turn.side t turn.item turn.sibling) in
    let j = times_on k turn.side t turn.item turn.sibling in
    omega arith

-- mending a way keeps how often a line is in the tree
pub mended_times : (k : ℕ) (way : List (Turn ℕ)) (t : Tree ℕ) → times k (mended way t) ≡ times_way k way + times k t
mended_times k [] t = omega arith
mended_times k (turn ∷ way) t =
    let i = mended_times k way (under turn.side t turn.item turn.sibling) in
    let j = times_on k turn.side t turn.item turn.sibling in
    let u = under_times k turn.side t turn.item turn.sibling in
    omega arith

-- a node `x` at whose left side `t` is to hang is open, with `t` as the left tree and its sibling `s` as the right one
open_left : (ws : List ℕ) (t : Tree ℕ) (x : ℕ) (s : Tree ℕ) → IsHanging ws 0 t x s → IsNodeOpen ws t x s
open_left ws t x s h = record { some = h.some; within = h.within; left = h.hung; right = h.beside; once = h.once; low = h.low }

-- a node `x` at whose right side `t` is to hang is open, with its sibling `s` as the left tree and `t` as the right one
open_right : (ws : List ℕ) (t : Tree ℕ) (x : ℕ) (s : Tree ℕ) → IsHanging ws 1 t x s → IsNodeOpen ws s x t
open_right ws t x s h = record { some = h.some; within = h.within; left = h.beside; right = h.hung; once = λ line. (let n = h.once line in omega (arith, n)); low = h.low }

-- the link at the other side of a node at which a tree is to hang is one to a node that is there, or to nothing
pub hang_link : (ws : List ℕ) (node side child high : ℕ) → CanHang ws node side child high → HasLink ws node (1 - side)
hang_link ws node side child high c =
    let there = subst (IsWithin ws) c.node_is c.hanging.within in
    let is : root c.sibling ≡ word_of ws node (1 - side) = sym c.hanging.link_is ∙ ap (λ n. word_of ws n (1 - side)) c.node_is in
    record { there = there; link = (link_is ws c.sibling (word_of ws node (1 - side)) c.hanging.beside is (let m = c.hanging.low in let h = height_on side c.tree c.item c.sibling in omega (arith, m, h))).there }

-- where a tree `t` is to hang at a side of a node, the node's link at the other side is the root of the sibling `s`
link_there : (ws : List ℕ) (node side sibling : ℕ) (t : Tree ℕ) (x : ℕ) (s : Tree ℕ) → IsHanging ws side t x s → x ≡ node → word_of ws node (1 - side) ≡ sibling → root s ≡ sibling
link_there ws node side sibling t x s h e w = sym h.link_is ∙ ap (λ n. word_of ws n (1 - side)) e ∙ w

module _ (ws : List ℕ) (node side child high sibling sh : ℕ) (b : IsSubtree node (1 - side) sibling sh ws) where
  -- a node at whose left side a tree is to hang can be joined over that tree and the sibling that is there
  pub can_left : CanHang ws node side child high → side ≡ 0 → CanJoin ws node child high sibling sh
  can_left c z = record {
    item = c.item;
    left_tree = c.tree;
    right_tree = c.sibling;
    open_node = open_left ws c.tree c.item c.sibling (subst (λ k. IsHanging ws k c.tree c.item c.sibling) z c.hanging);
    node_is = c.node_is;
    left_is = c.child_is;
    left_high_is = c.high_is;
    right_is = link_there ws node side sibling c.tree c.item c.sibling c.hanging c.node_is b.link_is;
    right_high_is = b.high_is;
  }

  -- a node at whose right side a tree is to hang can be joined over the sibling that is there and that tree
  pub can_right : CanHang ws node side child high → side ≡ 1 → CanJoin ws node sibling sh child high
  can_right c z = record {
    item = c.item;
    left_tree = c.sibling;
    right_tree = c.tree;
    open_node = open_right ws c.tree c.item c.sibling (subst (λ k. IsHanging ws k c.tree c.item c.sibling) z c.hanging);
    node_is = c.node_is;
    left_is = link_there ws node side sibling c.tree c.item c.sibling c.hanging c.node_is b.link_is;
    left_high_is = b.high_is;
    right_is = c.child_is;
    right_high_is = c.high_is;
  }

  -- where the side is the left, joining the node over the child and the sibling hangs the child at it and balances it
  pub hangs_left : (now : List ℕ) (top top_high : ℕ) → side ≡ 0 → Joins node child sibling top top_high ws now → Hangs node side child top top_high ws now
  hangs_left now top top_high z j t x s h e f =
      subst (λ k. IsHigh ws now (node_on k t x s) (under k t x s) top top_high) (sym z)
      (j x t s (open_left ws t x s (subst (λ k. IsHanging ws k t x s) z h)) e f (link_there ws node side sibling t x s h e b.link_is))

  -- where the side is the right, joining the node over the sibling and the child hangs the child at it and balances it
  pub hangs_right : (now : List ℕ) (top top_high : ℕ) → side ≡ 1 → Joins node sibling child top top_high ws now → Hangs node side child top top_high ws now
  hangs_right now top top_high z j t x s h e f =
      subst (λ k. IsHigh ws now (node_on k t x s) (under k t x s) top top_high) (sym z)
      (j x s t (open_right ws t x s (subst (λ k. IsHanging ws k t x s) z h)) e (link_there ws node side sibling t x s h e b.link_is) f)

-- the nodes of a way and what hangs beside it stay as they are over a change of a tree that has none of their lines
pub spine_kept : (a b : List ℕ) (t : Tree ℕ) (way : List (Turn ℕ)) → SameExcept a b t → ((line : ℕ) → times_way line way + times line t ≤ 1) → Spine a way → Spine b way
spine_kept a b t [] but once s = tt
spine_kept a b t (turn ∷ way) but once s =
    let none : times turn.item t ≡ 0 = (let n = once turn.item in let o = times_self turn.item in omega (arith, n, o)) in (
      s.0,
      subst (λ n. 8 * turn.item + 8 ≤ n) (sym but.long) s.1,
      but.same turn.item (1 - turn.side) (omega arith) (inl none) ∙ s.2,
      stands_apart a b turn.sibling t but (λ k. (let n = once k in omega (arith, n))) s.3,
      spine_kept a b t way but (λ k. (let n = once k in omega (arith, n))) s.4,
    )

-- a tree that is to hang at the end of a way is to hang at the last node of the way
pub hanging_is : (ws nodes sides : List ℕ) (depth : ℕ) (turn : Turn ℕ) (way : List (Turn ℕ)) (t : Tree ℕ) (node : ℕ) → IsHung ws nodes sides depth (turn ∷ way) t node → IsHanging ws turn.side t turn.item turn.sibling
hanging_is ws nodes sides depth turn way t node h = record {
  some = h.spine.0;
  within = h.spine.1;
  link_is = h.spine.2;
  hung = h.stands;
  beside = h.spine.3;
  once = λ line. (let n = h.once line in omega (arith, n));
  low = h.low.0;
}

pub last_is : (depth : ℕ) (turn : Turn ℕ) (way : List (Turn ℕ)) → length (turn ∷ way) ≡ depth → length way ≡ depth - 1
last_is depth turn way e = omega arith

-- a tree that is to hang at the end of a noted way can hang at the last node that is noted
pub hung_at : (ws nodes sides : List ℕ) (depth : ℕ) (way : List (Turn ℕ)) (t : Tree ℕ) (node high : ℕ) → IsHung ws nodes sides depth way t node → height t ≡ high → 1 ≤ depth → CanHang ws (get_or nodes (depth - 1) 0) (get_or sides (depth - 1) 0) node high
hung_at ws nodes sides depth [] t node high h tall some = absurd (let e = h.long in omega arith)
hung_at ws nodes sides depth (turn ∷ way) t node high h tall some =
    let e = last_is depth turn way h.long in
    let s : turn.side ≡ get_or sides (depth - 1) 0 = sym h.noted.1 ∙ ap (λ k. get_or sides k 0) e in
    record {
      tree = t;
      item = turn.item;
      sibling = turn.sibling;
      hanging = subst (λ k. IsHanging ws k t turn.item turn.sibling) s (hanging_is ws nodes sides depth turn way t node h);
      node_is = sym h.noted.0 ∙ ap (λ k. get_or nodes k 0) e;
      child_is = h.root_is;
      high_is = ap (λ k. high_of k ws) (sym h.root_is) ∙ high_is ws t h.stands ∙ tall;
    }

-- the last side that is noted of a way is 0 or 1
pub side_at : (ws nodes sides : List ℕ) (depth : ℕ) (way : List (Turn ℕ)) (t : Tree ℕ) (node : ℕ) → IsHung ws nodes sides depth way t node → 1 ≤ depth → get_or sides (depth - 1) 0 < 2
side_at ws nodes sides depth [] t node h some = absurd (let e = h.long in omega arith)
side_at ws nodes sides depth (turn ∷ way) t node h some =
    let e = last_is depth turn way h.long in
    subst (λ k. k < 2) (sym h.noted.1 ∙ ap (λ k. get_or sides k 0) e) h.noted.2
