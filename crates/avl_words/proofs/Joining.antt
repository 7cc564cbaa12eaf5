-- A node over two trees, balanced by the code.
use Rattle.std.proofs.Common.{◌≡◌, ◌+◌, ◌<◌, ◌≤◌, max, ℕ, cond, leb, List, sym, subst, ◌∙◌, arith, lit<}
use Rattle.std.proofs.lemmas.Bool.{cond-true, cond-false, le-leb, lt-leb}
use Rattle.avl_words.specs.Tree.{Tree, Node, height, rotated}
use Rattle.avl_words.specs.Lines.{IsWithin}
use Rattle.avl_words.specs.Words.{root}
use Rattle.avl_words.specs.Links.{with_node, IsLink, CanSet, IsNodeOpen, IsHigh, CanRotate, Rotates, CanJoin, Joins}
use Rattle.avl_words.proofs.Frames.{times_self, stands_on, except_set, except_more}
use Rattle.avl_words.proofs.Rotations.{link_is, height_seen}

-- a node that is open over `l` and `r` is open with the two trees exchanged
pub open_swap : (ws : List ℕ) (l : Tree ℕ) (x : ℕ) (r : Tree ℕ) → IsNodeOpen ws l x r → IsNodeOpen ws r x l
open_swap ws l x r o = record {
  some = o.some;
  within = o.within;
  left = o.right;
  right = o.left;
  once = λ line. (let n = o.once line in omega (arith, n));
  low = (let m = o.low in omega (arith, m));
}

-- a tree `t` made of the lines of a node over `r` and `l` is one made of the lines of the node over `l` and `r`
made_swap : (ws now : List ℕ) (l : Tree ℕ) (x : ℕ) (r t : Tree ℕ) (top high : ℕ) → IsHigh ws now (Node r x l) t top high → IsHigh ws now (Node l x r) t top high
made_swap ws now l x r t top high m = record {
  made = record { stands = m.made.stands; root_is = m.made.root_is; but = except_more ws now (Node r x l) (Node l x r) (λ line. omega arith) m.made.but };
  high_is = m.high_is;
}

module _ (ws : List ℕ) (node left lh right rh : ℕ) (c : CanJoin ws node left lh right rh) where
  left_high : height c.left_tree ≡ lh
  left_high = height_seen ws c.left_tree left lh c.open_node.left c.left_is c.left_high_is

  right_high : height c.right_tree ≡ rh
  right_high = height_seen ws c.right_tree right rh c.open_node.right c.right_is c.right_high_is

  pub join_left : IsLink ws left lh
  join_left = subst (IsLink ws left) left_high (link_is ws c.left_tree left c.open_node.left c.left_is (let m = c.open_node.low in omega (arith, m)))

  pub join_right : IsLink ws right rh
  join_right = subst (IsLink ws right) right_high (link_is ws c.right_tree right c.open_node.right c.right_is (let m = c.open_node.low in omega (arith, m)))

  pub can_right : lh + 2 ≤ rh → CanRotate ws node 1 right left lh
  can_right le = record {
    item = c.item;
    high_tree = c.right_tree;
    low_tree = c.left_tree;
    open_node = open_swap ws c.left_tree c.item c.right_tree c.open_node;
    node_is = c.node_is;
    child_is = c.right_is;
    low_is = c.left_is;
    high_is = c.left_high_is;
    higher = (let p = left_high in let q = right_high in omega arith);
  }

  pub can_left : rh + 2 ≤ lh → CanRotate ws node 0 left right rh
  can_left le = record {
    item = c.item;
    high_tree = c.left_tree;
    low_tree = c.right_tree;
    open_node = c.open_node;
    node_is = c.node_is;
    child_is = c.left_is;
    low_is = c.right_is;
    high_is = c.right_high_is;
    higher = (let p = left_high in let q = right_high in omega arith);
  }

  pub can_plain : CanSet ws node left lh right rh
  can_plain = record { there = subst (IsWithin ws) c.node_is c.open_node.within; first = join_left; second = join_right }

  -- where the right tree is higher by two or more, joining the node is rotating it to the left
  pub joins_right : (now : List ℕ) (top high : ℕ) → lh + 2 ≤ rh → Rotates node 1 right left top high ws now → Joins node left right top high ws now
  joins_right now top high le rot x l r o e f g =
      let p = height_seen ws l left lh o.left f c.left_high_is in
      let q = height_seen ws r right rh o.right g c.right_high_is in
      let h : height l + 2 ≤ height r = omega arith in
      subst (λ t. IsHigh ws now (Node l x r) t top high) (sym (cond-true (leb (height l + 2) (height r)) (rotated 1 r x l) (cond (leb (height r + 2) (height l)) (rotated 0 l x r) (Node l x r)) (le-leb (height l + 2) (height r) h)))
      (made_swap ws now l x r (rotated 1 r x l) top high (rot x r l (open_swap ws l x r o) e g f h))

  -- where the left tree is higher by two or more, joining the node is rotating it to the right
  pub joins_left : (now : List ℕ) (top high : ℕ) → rh + 2 ≤ lh → Rotates node 0 left right top high ws now → Joins node left right top high ws now
  joins_left now top high le rot x l r o e f g =
      let p = height_seen ws l left lh o.left f c.left_high_is in
      let q = height_seen ws r right rh o.right g c.right_high_is in
      let h : height r + 2 ≤ height l = omega arith in
      let k : height r < height l + 2 = omega arith in
      subst (λ t. IsHigh ws now (Node l x r) t top high)
      (sym (cond-false (leb (height l + 2) (height r)) (rotated 1 r x l) (cond (leb (height r + 2) (height l)) (rotated 0 l x r) (Node l x r)) (lt-leb (height l + 2) (height r) k)
      ∙ cond-true (leb (height r + 2) (height l)) (rotated 0 l x r) (Node l x r) (le-leb (height r + 2) (height l) h)))
      (rot x l r o e f g h)

  -- where the heights of both trees differ by at most one, joining the node is setting its links and its height
  pub joins_plain : (top high : ℕ) → rh < lh + 2 → lh < rh + 2 → top ≡ node → high ≡ 1 + max lh rh → Joins node left right top high ws (with_node node 0 left right ws)
  joins_plain top high lt gt top_is tall x l r o e f g =
      let p = height_seen ws l left lh o.left f c.left_high_is in
      let q = height_seen ws r right rh o.right g c.right_high_is in
      let h : height r < height l + 2 = omega arith in
      let k : height l < height r + 2 = omega arith in
      let two : (0 < 2) = lit< tt in
      let w : with_node x 0 (root l) (root r) ws ≡ with_node node 0 left right ws = cc in
      subst (λ t. IsHigh ws (with_node node 0 left right ws) (Node l x r) t top high)
      (sym (cond-false (leb (height l + 2) (height r)) (rotated 1 r x l) (cond (leb (height r + 2) (height l)) (rotated 0 l x r) (Node l x r)) (lt-leb (height l + 2) (height r) h)
      ∙ cond-false (leb (height r + 2) (height l)) (rotated 0 l x r) (Node l x r) (lt-leb (height r + 2) (height l) k)))
      (subst (λ now. IsHigh ws now (Node l x r) (Node l x r) top high) w (record {
        made = record {
          stands = stands_on 0 l x r ws two (record { some = o.some; within = o.within }) o.left o.right (omega (arith, o.once x, times_self x)) (omega (arith, o.once x, times_self x));
          root_is = e ∙ sym top_is;
          but = except_set x 0 (root l) (root r) ws (Node l x r) two (omega (arith, times_self x));
        };
        high_is = omega (arith, p, q, tall);
      }))
