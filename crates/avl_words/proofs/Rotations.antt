-- What the writes of a rotation make of a tree.
use Rattle.std.proofs.Common.{◌≡◌, ◌≢◌, ◌^◌, ◌+◌, ◌-◌, ◌<◌, ◌≤◌, max, ℕ, zero, suc, cond, eqb, leb, List, refl, sym, ap, subst, ◌∙◌, arith}
use Rattle.std.proofs.lemmas.Bool.{cond-true, cond-false, le-leb, lt-leb}
use Rattle.avl_words.specs.Tree.{Tree, Empty, Node, height, node_on, inner_up, child_up, rotated}
use Rattle.avl_words.specs.Lines.{word_of, IsWithin}
use Rattle.avl_words.specs.Words.{root, times, IsNode, RepresentsTree}
use Rattle.avl_words.specs.Links.{high_of, with_node, IsLink, CanSet, SameExcept, IsNodeOpen, IsHigh, CanRotate, Rotates}
use Rattle.avl_words.proofs.Trees.{height_on}
use Rattle.avl_words.proofs.Frames.{times_self, times_on, root_on, stands_set, high_is, IsThere, there_set, stands_on, except_set, except_then}

-- a link to a tree that stands
pub link_is : (ws : List ℕ) (t : Tree ℕ) (node : ℕ) → RepresentsTree ws t → root t ≡ node → height t ≤ 2 ^ 32 → IsLink ws node (height t)
link_is ws t node s e low = record {
  there = λ n. root_there t s e n;
  high_is = ap (λ n. high_of n ws) (sym e) ∙ high_is ws t s;
  low = low;
}
  where
    -- the root of a standing tree, where it is not 0, is within the words
    root_there : (t : Tree ℕ) → RepresentsTree ws t → root t ≡ node → node ≢ 0 → IsWithin ws node
    root_there Empty s e n = absurd (n (sym e))
    root_there (Node l x r) s e n = subst (IsWithin ws) e s.0.within

-- the trees around a node and its higher child
pub record IsView (ws : List ℕ) (side : ℕ) (t : Tree ℕ) (x : ℕ) (s : Tree ℕ) (a : Tree ℕ) (y : ℕ) (b : Tree ℕ) : Type 0 where
  pub t_is : t ≡ node_on side a y b
  pub turns : rotated side t x s ≡ child_up side a y b x s
  pub x_there : IsThere ws x
  pub y_there : IsThere ws y
  pub a_stands : RepresentsTree ws a
  pub b_stands : RepresentsTree ws b
  pub s_stands : RepresentsTree ws s
  pub once : (line : ℕ) → times line a + cond (eqb y line) 1 0 + times line b + cond (eqb x line) 1 0 + times line s ≤ 1
  pub lines : (line : ℕ) → times line (Node t x s) ≡ times line a + cond (eqb y line) 1 0 + times line b + cond (eqb x line) 1 0 + times line s
  pub bound : 1 + max (1 + max (height a) (height b)) (height s) ≤ 2 ^ 32

pub record HasView (ws : List ℕ) (side node child low outer inner : ℕ) (t : Tree ℕ) (x : ℕ) (s : Tree ℕ) : Type 0 where
  pub a : Tree ℕ
  pub y : ℕ
  pub b : Tree ℕ
  pub view : IsView ws side t x s a y b
  pub node_is : x ≡ node
  pub child_is : y ≡ child
  pub low_is : root s ≡ low
  pub outer_is : root a ≡ outer
  pub inner_is : root b ≡ inner

there_node : (ws : List ℕ) (x : ℕ) (left right high : ℕ) → IsNode ws x left right high → IsThere ws x
there_node ws x left right high n = record { some = n.some; within = n.within }

-- the trees around an open node `x` and its higher child are those that the two links loaded from the child's line name
pub view_of : (ws : List ℕ) (side node child low outer inner : ℕ) (t : Tree ℕ) (x : ℕ) (s : Tree ℕ) → side < 2 → IsNodeOpen ws t x s → x ≡ node → root t ≡ child → root s ≡ low →
    height s + 2 ≤ height t → word_of ws child side ≡ outer → word_of ws child (1 - side) ≡ inner → HasView ws side node child low outer inner t x s
view_of ws side node child low outer inner Empty x s l o e f g h p q = absurd (omega arith)
view_of ws zero node child low outer inner (Node u y v) x s l o e f g h p q = record {
  a = u;
  y = y;
  b = v;
  view = record {
    t_is = refl;
    turns = refl;
    x_there = record { some = o.some; within = o.within };
    y_there = there_node ws y (root u) (root v) (height (Node u y v)) o.left.0;
    a_stands = o.left.1;
    b_stands = o.left.2;
    s_stands = o.right;
    once = λ line. (let n = o.once line in omega (arith, n));
    lines = λ line. omega arith;
    bound = o.low;
  };
  node_is = e;
  child_is = f;
  low_is = g;
  outer_is = sym o.left.0.left_is ∙ ap (λ n. word_of ws n 0) f ∙ p;
  inner_is = sym o.left.0.right_is ∙ ap (λ n. word_of ws n 1) f ∙ q;
}
view_of ws (suc zero) node child low outer inner (Node u y v) x s l o e f g h p q = record {
  a = v;
  y = y;
  b = u;
  view = record {
    t_is = refl;
    turns = refl;
    x_there = record { some = o.some; within = o.within };
    y_there = there_node ws y (root u) (root v) (height (Node u y v)) o.left.0;
    a_stands = o.left.2;
    b_stands = o.left.1;
    s_stands = o.right;
    once = λ line. (let n = o.once line in omega (arith, n));
    lines = λ line. omega arith;
    bound = (let m = o.low in omega (arith, m));
  };
  node_is = e;
  child_is = f;
  low_is = g;
  outer_is = sym o.left.0.right_is ∙ ap (λ n. word_of ws n 1) f ∙ p;
  inner_is = sym o.left.0.left_is ∙ ap (λ n. word_of ws n 0) f ∙ q;
}
view_of ws (suc (suc k)) node child low outer inner (Node u y v) x s l o e f g h p q = absurd (omega arith)

module _ (ws : List ℕ) (side : ℕ) (t : Tree ℕ) (x : ℕ) (s : Tree ℕ) (a : Tree ℕ) (y : ℕ) (b : Tree ℕ) (l : side < 2) (w : IsView ws side t x s a y b) where
  -- the child goes up: the node first
  pub single_first : CanSet ws x (root b) (height b) (root s) (height s)
  single_first = (let m = w.bound in record { there = w.x_there.within; first = link_is ws b (root b) w.b_stands refl (omega arith); second = link_is ws s (root s) w.s_stands refl (omega arith) })

  single_mid : RepresentsTree (with_node x side (root b) (root s) ws) (node_on side b x s)
  single_mid = stands_on side b x s ws l w.x_there w.b_stands w.s_stands (omega (arith, w.once x, times_self x)) (omega (arith, w.once x, times_self x))

  single_outer : RepresentsTree (with_node x side (root b) (root s) ws) a
  single_outer = stands_set x side (root b) (root s) ws a l (omega (arith, w.once x, times_self x)) w.a_stands

  pub single_second : CanSet (with_node x side (root b) (root s) ws) y (root a) (height a) x (height (node_on side b x s))
  single_second = (let m = w.bound in let h = height_on side b x s in record {
    there = (there_set x side (root b) (root s) ws y l w.y_there).within;
    first = link_is (with_node x side (root b) (root s) ws) a (root a) single_outer refl (omega arith);
    second = link_is (with_node x side (root b) (root s) ws) (node_on side b x s) x single_mid (root_on side b x s) (omega arith);
  })

  pub single_stands : RepresentsTree (with_node y side (root a) x (with_node x side (root b) (root s) ws)) (node_on side a y (node_on side b x s))
  single_stands =
      subst (λ n. RepresentsTree (with_node y side (root a) n (with_node x side (root b) (root s) ws)) (node_on side a y (node_on side b x s))) (root_on side b x s)
      (stands_on side a y (node_on side b x s) (with_node x side (root b) (root s) ws) l (there_set x side (root b) (root s) ws y l w.y_there) single_outer single_mid
      (omega (arith, w.once y, times_self y)) (omega (arith, w.once y, times_self y, times_on y side b x s)))

  pub single_but : SameExcept ws (with_node y side (root a) x (with_node x side (root b) (root s) ws)) (Node t x s)
  single_but =
      except_then ws (with_node x side (root b) (root s) ws) (with_node y side (root a) x (with_node x side (root b) (root s) ws)) (Node t x s)
      (except_set x side (root b) (root s) ws (Node t x s) l (omega (arith, w.lines x, times_self x)))
      (except_set y side (root a) x (with_node x side (root b) (root s) ws) (Node t x s) l (omega (arith, w.lines y, times_self y)))

  pub single_made : height b ≤ height a → IsHigh ws (with_node y side (root a) x (with_node x side (root b) (root s) ws)) (Node t x s) (rotated side t x s) y (1 + max (height a) (height (node_on side b x s)))
  single_made le =
      let e : rotated side t x s ≡ node_on side a y (node_on side b x s) = w.turns ∙ cond-true (leb (height b) (height a)) (node_on side a y (node_on side b x s)) (inner_up side a y b x s) (le-leb (height b) (height a) le) in
      record {
        made = record {
          stands = subst (RepresentsTree (with_node y side (root a) x (with_node x side (root b) (root s) ws))) (sym e) single_stands;
          root_is = ap root e ∙ root_on side a y (node_on side b x s);
          but = single_but;
        };
        high_is = ap height e ∙ height_on side a y (node_on side b x s);
      }

-- the trees of the inner child, which goes up
pub record IsInner (ws : List ℕ) (side : ℕ) (b : Tree ℕ) (n : Tree ℕ) (z : ℕ) (f : Tree ℕ) : Type 0 where
  pub b_is : b ≡ node_on side n z f
  pub turns : (a : Tree ℕ) (y : ℕ) (x : ℕ) (s : Tree ℕ) → inner_up side a y b x s ≡ node_on side (node_on side a y n) z (node_on side f x s)
  pub z_there : IsThere ws z
  pub n_stands : RepresentsTree ws n
  pub f_stands : RepresentsTree ws f
  pub lines : (line : ℕ) → times line b ≡ times line n + cond (eqb z line) 1 0 + times line f
  pub high : height b ≡ 1 + max (height n) (height f)

pub record HasInner (ws : List ℕ) (side inner near far : ℕ) (b : Tree ℕ) : Type 0 where
  pub n : Tree ℕ
  pub z : ℕ
  pub f : Tree ℕ
  pub is : IsInner ws side b n z f
  pub z_is : z ≡ inner
  pub near_is : root n ≡ near
  pub far_is : root f ≡ far

-- the two trees of the inner child `b` are those that the two links loaded from its line name
pub inner_of : (ws : List ℕ) (side inner near far : ℕ) (b : Tree ℕ) → side < 2 → RepresentsTree ws b → root b ≡ inner → 1 ≤ height b → word_of ws inner side ≡ near → word_of ws inner (1 - side) ≡ far → HasInner ws side inner near far b
inner_of ws side inner near far Empty l s e h p q = absurd (omega arith)
inner_of ws zero inner near far (Node u z v) l s e h p q = record {
  n = u;
  z = z;
  f = v;
  is = record {
    b_is = refl;
    turns = λ a y x t. refl;
    z_there = there_node ws z (root u) (root v) (height (Node u z v)) s.0;
    n_stands = s.1;
    f_stands = s.2;
    lines = λ line. refl;
    high = refl;
  };
  z_is = e;
  near_is = sym s.0.left_is ∙ ap (λ n. word_of ws n 0) e ∙ p;
  far_is = sym s.0.right_is ∙ ap (λ n. word_of ws n 1) e ∙ q;
}
inner_of ws (suc zero) inner near far (Node u z v) l s e h p q = record {
  n = v;
  z = z;
  f = u;
  is = record {
    b_is = refl;
    turns = λ a y x t. refl;
    z_there = there_node ws z (root u) (root v) (height (Node u z v)) s.0;
    n_stands = s.2;
    f_stands = s.1;
    lines = λ line. omega arith;
    high = omega arith;
  };
  z_is = e;
  near_is = sym s.0.right_is ∙ ap (λ n. word_of ws n 1) e ∙ p;
  far_is = sym s.0.left_is ∙ ap (λ n. word_of ws n 0) e ∙ q;
}
inner_of ws (suc (suc k)) inner near far (Node u z v) l s e h p q = absurd (omega arith)

module _ (ws : List ℕ) (side : ℕ) (t : Tree ℕ) (x : ℕ) (s : Tree ℕ) (a : Tree ℕ) (y : ℕ) (b : Tree ℕ) (n : Tree ℕ) (z : ℕ) (f : Tree ℕ) (l : side < 2)
    (w : IsView ws side t x s a y b) (i : IsInner ws side b n z f) where
  once_all : (line : ℕ) → times line a + cond (eqb y line) 1 0 + times line n + cond (eqb z line) 1 0 + times line f + cond (eqb x line) 1 0 + times line s ≤ 1
  once_all line = omega (arith, w.once line, i.lines line)

  -- the child first
  pub double_first : CanSet ws y (root a) (height a) (root n) (height n)
  double_first = (let m = w.bound in let h = i.high in record { there = w.y_there.within; first = link_is ws a (root a) w.a_stands refl (omega arith); second = link_is ws n (root n) i.n_stands refl (omega arith) })

  abbrev one : List ℕ
  one = with_node y side (root a) (root n) ws

  abbrev two : List ℕ
  two = with_node x side (root f) (root s) one

  abbrev three : List ℕ
  three = with_node z side y x two

  first_made : RepresentsTree one (node_on side a y n)
  first_made = stands_on side a y n ws l w.y_there w.a_stands i.n_stands (omega (arith, once_all y, times_self y)) (omega (arith, once_all y, times_self y))

  pub double_second : CanSet one x (root f) (height f) (root s) (height s)
  double_second = (let m = w.bound in let h = i.high in record {
    there = (there_set y side (root a) (root n) ws x l w.x_there).within;
    first = link_is one f (root f) (stands_set y side (root a) (root n) ws f l (omega (arith, once_all y, times_self y)) i.f_stands) refl (omega arith);
    second = link_is one s (root s) (stands_set y side (root a) (root n) ws s l (omega (arith, once_all y, times_self y)) w.s_stands) refl (omega arith);
  })

  second_made : RepresentsTree two (node_on side f x s)
  second_made =
      stands_on side f x s one l (there_set y side (root a) (root n) ws x l w.x_there)
      (stands_set y side (root a) (root n) ws f l (omega (arith, once_all y, times_self y)) i.f_stands)
      (stands_set y side (root a) (root n) ws s l (omega (arith, once_all y, times_self y)) w.s_stands)
      (omega (arith, once_all x, times_self x)) (omega (arith, once_all x, times_self x))

  first_kept : RepresentsTree two (node_on side a y n)
  first_kept = stands_set x side (root f) (root s) one (node_on side a y n) l (omega (arith, once_all x, times_self x, times_on x side a y n)) first_made

  z_kept : IsThere two z
  z_kept = there_set x side (root f) (root s) one z l (there_set y side (root a) (root n) ws z l i.z_there)

  pub double_third : CanSet two z y (height (node_on side a y n)) x (height (node_on side f x s))
  double_third = (let m = w.bound in let h = i.high in let j = height_on side a y n in let k = height_on side f x s in record {
    there = z_kept.within;
    first = link_is two (node_on side a y n) y first_kept (root_on side a y n) (omega arith);
    second = link_is two (node_on side f x s) x second_made (root_on side f x s) (omega arith);
  })

  third_made : RepresentsTree three (node_on side (node_on side a y n) z (node_on side f x s))
  third_made =
      subst (λ p. RepresentsTree (with_node z side p x two) (node_on side (node_on side a y n) z (node_on side f x s))) (root_on side a y n)
      (subst (λ q. RepresentsTree (with_node z side (root (node_on side a y n)) q two) (node_on side (node_on side a y n) z (node_on side f x s))) (root_on side f x s)
      (stands_on side (node_on side a y n) z (node_on side f x s) two l z_kept first_kept second_made
      (omega (arith, once_all z, times_self z, times_on z side a y n)) (omega (arith, once_all z, times_self z, times_on z side f x s))))

  double_but : SameExcept ws three (Node t x s)
  double_but =
      except_then ws two three (Node t x s)
      (except_then ws one two (Node t x s)
      (except_set y side (root a) (root n) ws (Node t x s) l (omega (arith, w.lines y, times_self y)))
      (except_set x side (root f) (root s) one (Node t x s) l (omega (arith, w.lines x, times_self x))))
      (except_set z side y x two (Node t x s) l (omega (arith, w.lines z, i.lines z, times_self z)))

  pub double_made : height a < height b → IsHigh ws three (Node t x s) (rotated side t x s) z (1 + max (height (node_on side a y n)) (height (node_on side f x s)))
  double_made lt =
      let e : rotated side t x s ≡ node_on side (node_on side a y n) z (node_on side f x s)
      = w.turns ∙ cond-false (leb (height b) (height a)) (node_on side a y (node_on side b x s)) (inner_up side a y b x s) (lt-leb (height b) (height a) lt) ∙ i.turns a y x s in
      record {
        made = record {
          stands = subst (RepresentsTree three) (sym e) third_made;
          root_is = ap root e ∙ root_on side (node_on side a y n) z (node_on side f x s);
          but = double_but;
        };
        high_is = ap height e ∙ height_on side (node_on side a y n) z (node_on side f x s);
      }

-- what the loads of a rotation gave
pub record IsSeen (ws : List ℕ) (side child outer inner outer_height inner_height : ℕ) : Type 0 where
  pub outer_is : word_of ws child side ≡ outer
  pub inner_is : word_of ws child (1 - side) ≡ inner
  pub outer_high : high_of outer ws ≡ outer_height
  pub inner_high : high_of inner ws ≡ inner_height

-- a node whose links may be set may have them set also with all words, links and heights replaced by equal ones
can_same : (ws vs : List ℕ) (a b bh c ch d e eh f fh : ℕ) → ws ≡ vs → a ≡ d → b ≡ e → bh ≡ eh → c ≡ f → ch ≡ fh → CanSet ws a b bh c ch → CanSet vs d e eh f fh
can_same ws vs a b bh c ch d e eh f fh p q r s t u h =
    subst (λ v. CanSet v d e eh f fh) p (subst (λ n. CanSet ws n e eh f fh) q (subst (λ n. CanSet ws a n eh f fh) r (subst (λ n. CanSet ws a b n f fh) s (subst (λ n. CanSet ws a b bh n fh) t (subst (CanSet ws a b bh c) u h)))))

-- the trees around an open node `x` and its higher child `t`, from what the loads of a rotation gave
seen_view : (ws : List ℕ) (side node child low outer inner oh ih : ℕ) (t : Tree ℕ) (x : ℕ) (s : Tree ℕ) → side < 2 → IsSeen ws side child outer inner oh ih → IsNodeOpen ws t x s → x ≡ node → root t ≡ child → root s ≡ low →
    height s + 2 ≤ height t → HasView ws side node child low outer inner t x s
seen_view ws side node child low outer inner oh ih t x s l seen o e f g h = view_of ws side node child low outer inner t x s l o e f g h seen.outer_is seen.inner_is

-- the height below a link is that of the tree
pub height_seen : (ws : List ℕ) (t : Tree ℕ) (n h : ℕ) → RepresentsTree ws t → root t ≡ n → high_of n ws ≡ h → height t ≡ h
height_seen ws t n h s e f = sym (high_is ws t s) ∙ ap (λ k. high_of k ws) e ∙ f

-- a rotation of trees, as its loads saw them
record IsSeenView (ws : List ℕ) (side node child low low_height outer inner oh ih : ℕ) (t : Tree ℕ) (x : ℕ) (s : Tree ℕ) : Type 0 where
  has : HasView ws side node child low outer inner t x s
  outer_high : height has.a ≡ oh
  inner_high : height has.b ≡ ih
  low_high : height s ≡ low_height
  lower_high : height (node_on side has.b x s) ≡ 1 + max ih low_height

-- the trees around an open node `x` and its higher child `t`, and their heights, from what the loads of a rotation gave
see_view : (ws : List ℕ) (side node child low lh outer inner oh ih : ℕ) (t : Tree ℕ) (x : ℕ) (s : Tree ℕ) → side < 2 → IsSeen ws side child outer inner oh ih → IsNodeOpen ws t x s → x ≡ node → root t ≡ child → root s ≡ low →
    high_of low ws ≡ lh → height s + 2 ≤ height t → IsSeenView ws side node child low lh outer inner oh ih t x s
see_view ws side node child low lh outer inner oh ih t x s l seen o e f g low_is h =
    let v = seen_view ws side node child low outer inner oh ih t x s l seen o e f g h in
    let i = height_seen ws v.b inner ih v.view.b_stands v.inner_is seen.inner_high in
    let k = height_seen ws s low lh o.right g low_is in
    record {
      has = v;
      outer_high = height_seen ws v.a outer oh v.view.a_stands v.outer_is seen.outer_high;
      inner_high = i;
      low_high = k;
      lower_high = height_on side v.b x s ∙ ap (λ n. 1 + max n (height s)) i ∙ ap (λ n. 1 + max ih n) k;
    }

can_view : (ws : List ℕ) (side node child low lh outer inner oh ih : ℕ) (c : CanRotate ws node side child low lh) → side < 2 → IsSeen ws side child outer inner oh ih → IsSeenView ws side node child low lh outer inner oh ih c.high_tree c.item c.low_tree
can_view ws side node child low lh outer inner oh ih c l seen = see_view ws side node child low lh outer inner oh ih c.high_tree c.item c.low_tree l seen c.open_node c.node_is c.child_is c.low_is c.high_is c.higher

-- a single rotation, as the code runs it
pub runs_single_first : (ws : List ℕ) (side node child low lh outer inner oh ih : ℕ) → side < 2 → CanRotate ws node side child low lh → IsSeen ws side child outer inner oh ih → CanSet ws node inner ih low lh
runs_single_first ws side node child low lh outer inner oh ih l c seen =
    let w = can_view ws side node child low lh outer inner oh ih c l seen in
    let v = w.has in
    can_same ws ws c.item (root v.b) (height v.b) (root c.low_tree) (height c.low_tree) node inner ih low lh refl v.node_is v.inner_is w.inner_high v.low_is w.low_high (single_first ws side c.high_tree c.item c.low_tree v.a v.y v.b l v.view)

-- the two writes of a single rotation give equal words for equal nodes and links
single_words : (ws : List ℕ) (side a b c d e f g h i j : ℕ) → a ≡ f → b ≡ g → c ≡ h → d ≡ i → e ≡ j → with_node a side b c (with_node c side d e ws) ≡ with_node f side g h (with_node h side i j ws)
single_words ws side a b c d e f g h i j p q r s t = cc

pub runs_single_second : (ws : List ℕ) (side node child low lh outer inner oh ih lower lower_high : ℕ) → side < 2 → CanRotate ws node side child low lh → IsSeen ws side child outer inner oh ih → lower ≡ node → lower_high ≡ 1 + max ih lh →
    CanSet (with_node node side inner low ws) child outer oh lower lower_high
runs_single_second ws side node child low lh outer inner oh ih lower lower_high l c seen is high =
    let w = can_view ws side node child low lh outer inner oh ih c l seen in
    let v = w.has in
    let e : with_node c.item side (root v.b) (root c.low_tree) ws ≡ with_node node side inner low ws = (let p = v.node_is in let q = v.inner_is in let r = v.low_is in cc) in
    can_same (with_node c.item side (root v.b) (root c.low_tree) ws) (with_node node side inner low ws) v.y (root v.a) (height v.a) c.item (height (node_on side v.b c.item c.low_tree)) child outer oh lower lower_high
    e v.child_is v.outer_is w.outer_high (v.node_is ∙ sym is) (w.lower_high ∙ sym high)
    (single_second ws side c.high_tree c.item c.low_tree v.a v.y v.b l v.view)

-- where the inner child is no higher than the outer one, setting the node's links and then the child's is the rotation
pub runs_single : (ws : List ℕ) (side node child low lh outer inner oh ih lower top_high : ℕ) → side < 2 → high_of low ws ≡ lh → IsSeen ws side child outer inner oh ih → ih ≤ oh → lower ≡ node → top_high ≡ 1 + max oh (1 + max ih lh) →
    Rotates node side child low child top_high ws (with_node child side outer lower (with_node node side inner low ws))
runs_single ws side node child low lh outer inner oh ih lower top_high l low_is seen le is high x t s o e f g h =
    let w = see_view ws side node child low lh outer inner oh ih t x s l seen o e f g low_is h in
    let v = w.has in
    let words : with_node v.y side (root v.a) x (with_node x side (root v.b) (root s) ws) ≡ with_node child side outer lower (with_node node side inner low ws) =
    single_words ws side v.y (root v.a) x (root v.b) (root s) child outer node inner low v.child_is v.outer_is v.node_is v.inner_is v.low_is ∙ ap (λ n. with_node child side outer n (with_node node side inner low ws)) (sym is) in
    let tall : 1 + max (height v.a) (height (node_on side v.b x s)) ≡ top_high = ap (λ n. 1 + max n (height (node_on side v.b x s))) w.outer_high ∙ ap (λ n. 1 + max oh n) w.lower_high ∙ sym high in
    subst (λ n. IsHigh ws (with_node child side outer lower (with_node node side inner low ws)) (Node t x s) (rotated side t x s) n top_high) v.child_is
    (subst (λ n. IsHigh ws (with_node child side outer lower (with_node node side inner low ws)) (Node t x s) (rotated side t x s) v.y n) tall
    (subst (λ now. IsHigh ws now (Node t x s) (rotated side t x s) v.y (1 + max (height v.a) (height (node_on side v.b x s)))) words
    (single_made ws side t x s v.a v.y v.b l v.view (let i = w.outer_high in let j = w.inner_high in omega arith))))

-- a double rotation
pub record IsSeenInner (ws : List ℕ) (side inner near far near_height far_height : ℕ) : Type 0 where
  pub near_is : word_of ws inner side ≡ near
  pub far_is : word_of ws inner (1 - side) ≡ far
  pub near_high : high_of near ws ≡ near_height
  pub far_high : high_of far ws ≡ far_height

record IsInnerView (ws : List ℕ) (side inner near far nh fh lh oh : ℕ) (a : Tree ℕ) (y : ℕ) (b : Tree ℕ) (x : ℕ) (s : Tree ℕ) : Type 0 where
  has : HasInner ws side inner near far b
  near_high : height has.n ≡ nh
  far_high : height has.f ≡ fh
  first_high : height (node_on side a y has.n) ≡ 1 + max oh nh
  second_high : height (node_on side has.f x s) ≡ 1 + max fh lh

-- the trees of the inner child, where it is higher than the outer one, and the heights over them, from what the loads of a rotation gave
inner_view : (ws : List ℕ) (side node child low lh outer inner near far oh ih nh fh : ℕ) (t : Tree ℕ) (x : ℕ) (s : Tree ℕ) → side < 2 → IsSeenInner ws side inner near far nh fh → oh < ih →
    (w : IsSeenView ws side node child low lh outer inner oh ih t x s) → IsInnerView ws side inner near far nh fh lh oh w.has.a w.has.y w.has.b x s
inner_view ws side node child low lh outer inner near far oh ih nh fh t x s l more lt w =
    let v = w.has in
    let i = inner_of ws side inner near far v.b l v.view.b_stands v.inner_is (let j = w.inner_high in omega arith) more.near_is more.far_is in
    let n = height_seen ws i.n near nh i.is.n_stands i.near_is more.near_high in
    let f = height_seen ws i.f far fh i.is.f_stands i.far_is more.far_high in
    record {
      has = i;
      near_high = n;
      far_high = f;
      first_high = height_on side v.a v.y i.n ∙ ap (λ k. 1 + max k (height i.n)) w.outer_high ∙ ap (λ k. 1 + max oh k) n;
      second_high = height_on side i.f x s ∙ ap (λ k. 1 + max k (height s)) f ∙ ap (λ k. 1 + max fh k) w.low_high;
    }

-- the first two writes of a double rotation give equal words for equal nodes and links
double_two : (ws : List ℕ) (side a b c d e f g h i j k l : ℕ) → a ≡ g → b ≡ h → c ≡ i → d ≡ j → e ≡ k → f ≡ l → with_node a side b c (with_node d side e f ws) ≡ with_node g side h i (with_node j side k l ws)
double_two ws side a b c d e f g h i j k l p q r s t u = cc

module _ (ws : List ℕ) (side node child low lh outer inner near far oh ih nh fh : ℕ) (l : side < 2) (c : CanRotate ws node side child low lh) (seen : IsSeen ws side child outer inner oh ih) (more : IsSeenInner ws side inner near far nh fh) (lt : oh < ih) where
  abbrev w : IsSeenView ws side node child low lh outer inner oh ih c.high_tree c.item c.low_tree
  w = can_view ws side node child low lh outer inner oh ih c l seen

  abbrev i : IsInnerView ws side inner near far nh fh lh oh w.has.a w.has.y w.has.b c.item c.low_tree
  i = inner_view ws side node child low lh outer inner near far oh ih nh fh c.high_tree c.item c.low_tree l more lt w

  pub runs_double_first : CanSet ws child outer oh near nh
  runs_double_first =
      can_same ws ws w.has.y (root w.has.a) (height w.has.a) (root i.has.n) (height i.has.n) child outer oh near nh refl w.has.child_is w.has.outer_is w.outer_high i.has.near_is i.near_high
      (double_first ws side c.high_tree c.item c.low_tree w.has.a w.has.y w.has.b i.has.n i.has.z i.has.f l w.has.view i.has.is)

  pub runs_double_second : CanSet (with_node child side outer near ws) node far fh low lh
  runs_double_second =
      let e : with_node w.has.y side (root w.has.a) (root i.has.n) ws ≡ with_node child side outer near ws = (let p = w.has.child_is in let q = w.has.outer_is in let r = i.has.near_is in cc) in
      can_same (with_node w.has.y side (root w.has.a) (root i.has.n) ws) (with_node child side outer near ws) c.item (root i.has.f) (height i.has.f) (root c.low_tree) (height c.low_tree) node far fh low lh e w.has.node_is i.has.far_is i.far_high w.has.low_is w.low_high
      (double_second ws side c.high_tree c.item c.low_tree w.has.a w.has.y w.has.b i.has.n i.has.z i.has.f l w.has.view i.has.is)

  -- in the third write of a double rotation the inner child may get the child and the node below it, at their new heights
  pub runs_double_third : (first first_high second second_high : ℕ) → first ≡ child → first_high ≡ 1 + max oh nh → second ≡ node → second_high ≡ 1 + max fh lh →
      CanSet (with_node node side far low (with_node child side outer near ws)) inner first first_high second second_high
  runs_double_third first first_high second second_high p q r s =
      can_same (with_node c.item side (root i.has.f) (root c.low_tree) (with_node w.has.y side (root w.has.a) (root i.has.n) ws)) (with_node node side far low (with_node child side outer near ws))
      i.has.z w.has.y (height (node_on side w.has.a w.has.y i.has.n)) c.item (height (node_on side i.has.f c.item c.low_tree)) inner first first_high second second_high
      (double_two ws side c.item (root i.has.f) (root c.low_tree) w.has.y (root w.has.a) (root i.has.n) node far low child outer near w.has.node_is i.has.far_is w.has.low_is w.has.child_is w.has.outer_is i.has.near_is)
      i.has.z_is (w.has.child_is ∙ sym p) (i.first_high ∙ sym q) (w.has.node_is ∙ sym r) (i.second_high ∙ sym s)
      (double_third ws side c.high_tree c.item c.low_tree w.has.a w.has.y w.has.b i.has.n i.has.z i.has.f l w.has.view i.has.is)

-- where the inner child is higher than the outer one, setting the links of the child, of the node and of the inner child is the rotation
pub runs_double : (ws : List ℕ) (side node child low lh outer inner near far oh ih nh fh first second top_high : ℕ) → side < 2 → high_of low ws ≡ lh → IsSeen ws side child outer inner oh ih → IsSeenInner ws side inner near far nh fh → oh < ih →
    first ≡ child → second ≡ node → top_high ≡ 1 + max (1 + max oh nh) (1 + max fh lh) →
    Rotates node side child low inner top_high ws (with_node inner side first second (with_node node side far low (with_node child side outer near ws)))
runs_double ws side node child low lh outer inner near far oh ih nh fh first second top_high l low_is seen more lt first_is second_is high x t s o e f g h =
    let w = see_view ws side node child low lh outer inner oh ih t x s l seen o e f g low_is h in
    let v = w.has in
    let j = inner_view ws side node child low lh outer inner near far oh ih nh fh t x s l more lt w in
    let i = j.has in
    let two = double_two ws side x (root i.f) (root s) v.y (root v.a) (root i.n) node far low child outer near v.node_is i.far_is v.low_is v.child_is v.outer_is i.near_is in
    let all : with_node i.z side v.y x (with_node x side (root i.f) (root s) (with_node v.y side (root v.a) (root i.n) ws))
    ≡ with_node inner side first second (with_node node side far low (with_node child side outer near ws)) = (let p = i.z_is in let q = v.child_is in let r = v.node_is in cc) in
    let tall : 1 + max (height (node_on side v.a v.y i.n)) (height (node_on side i.f x s)) ≡ top_high = ap (λ n. 1 + max n (height (node_on side i.f x s))) j.first_high ∙ ap (λ n. 1 + max (1 + max oh nh) n) j.second_high ∙ sym high in
    subst (λ n. IsHigh ws (with_node inner side first second (with_node node side far low (with_node child side outer near ws))) (Node t x s) (rotated side t x s) n top_high) i.z_is
    (subst (λ n. IsHigh ws (with_node inner side first second (with_node node side far low (with_node child side outer near ws))) (Node t x s) (rotated side t x s) i.z n) tall
    (subst (λ now. IsHigh ws now (Node t x s) (rotated side t x s) i.z (1 + max (height (node_on side v.a v.y i.n)) (height (node_on side i.f x s)))) all
    (double_made ws side t x s v.a v.y v.b i.n i.z i.f l v.view i.is (let u = w.outer_high in let k = w.inner_high in omega arith))))
