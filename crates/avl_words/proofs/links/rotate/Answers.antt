use Rattle.std.proofs.Common.{◌≡◌, ◌+◌, ◌-◌, max, ℕ, List, ap, sym, subst, ◌∙◌, rules}
use Rattle.cx_base.specs.Memory.{Always, Reads}
use Rattle.cx_base.proofs.ReadLemmas.{Reads-then, Reads-weaker, Reads-with}
use Rattle.avl_words.specs.Links.{with_node, CanSet, IsSubtree, CanRotate, Rotates}
use Rattle.avl_words.proofs.Memories.{always_said, always_set, Becomes-set, set_then, changed, storable}
use Rattle.avl_words.proofs.Rotations.{IsSeen, IsSeenInner, runs_single_first, runs_single_second, runs_single, runs_double_first, runs_double_second, runs_double_third, runs_double}
use Rattle.avl_words.proofs.links.rotate.Goals as goal

-- what was seen, read after read
record See (node side child low lh outer inner oh ih : ℕ) (ws : List ℕ) : Type 0 where
  can : CanRotate ws node side child low lh
  seen : IsSeen ws side child outer inner oh ih

record SeeMore (node side child low lh outer inner near far oh ih nh fh : ℕ) (ws : List ℕ) : Type 0 where
  can : CanRotate ws node side child low lh
  seen : IsSeen ws side child outer inner oh ih
  more : IsSeenInner ws side inner near far nh fh

module _ {Key : Type 0} where
  see : {a b c : Key → List ℕ → Type 0} (node side child low lh outer inner oh ih : ℕ) → Always a (λ ws. CanRotate ws node side child low lh) → Reads a b (IsSubtree child side outer oh) → Reads b c (IsSubtree child (1 - side) inner ih) →
      Reads a c (See node side child low lh outer inner oh ih)
  see node side child low lh outer inner oh ih can p q =
      Reads-weaker (Reads-with can (Reads-then {R = λ ws. IsSeen ws side child outer inner oh ih} p q (λ ws s t. record { outer_is = s.link_is; inner_is = t.link_is; outer_high = s.high_is; inner_high = t.high_is })))
      (λ ws s. record { can = s.0; seen = s.1 })

  see_more : {a b c d : Key → List ℕ → Type 0} (node side child low lh outer inner near far oh ih nh fh : ℕ) → Reads a b (See node side child low lh outer inner oh ih) → Reads b c (IsSubtree inner side near nh) → Reads c d (IsSubtree inner (1 - side) far fh) →
      Reads a d (SeeMore node side child low lh outer inner near far oh ih nh fh)
  see_more node side child low lh outer inner near far oh ih nh fh r p q =
      Reads-then (Reads-then {R = λ ws. See node side child low lh outer inner oh ih ws × IsSubtree inner side near nh ws} r p (λ ws s t. (s, t))) q
      (λ ws s t. record { can = s.0.can; seen = s.0.seen; more = record { near_is = s.1.link_is; far_is = t.link_is; near_high = s.1.high_is; far_high = t.high_is } })

pub set_node-requires-clause-memory : goal.set_node-requires-clause-memory
set_node-requires-clause-memory g c =
    let a = c.args in
    let o = c.in_ok-outer.outer in
    let i = c.in_ok-inner.inner in
    let r = see a.node a.side a.child a.low.root a.low.height o.root i.root o.height i.height c.requires.memory.all c.in_ok-outer.ensures.done c.in_ok-inner.ensures.done in
    storable (search rules) (search rules) (always_said (Reads-weaker r (λ ws p. runs_single_first ws a.side a.node a.child a.low.root a.low.height o.root i.root o.height i.height c.requires.side p.can p.seen)))

pub set_node-requires-then-inner-outer-clause-memory : goal.set_node-requires-then-inner-outer-clause-memory
set_node-requires-then-inner-outer-clause-memory g c =
    let a = c.args in
    let o = c.in_ok-outer.outer in
    let i = c.in_ok-inner.inner in
    let l = c.in_ok-lower in
    let r = see a.node a.side a.child a.low.root a.low.height o.root i.root o.height i.height c.requires.memory.all c.in_ok-outer.ensures.done c.in_ok-inner.ensures.done in
    storable (search rules) (search rules) (always_set (with_node a.node a.side i.root a.low.root) (λ ws. CanSet ws a.child o.root o.height l.lower.root l.lower.height) r l.ensures.changes.done
    (λ ws p. runs_single_second ws a.side a.node a.child a.low.root a.low.height o.root i.root o.height i.height l.lower.root l.lower.height c.requires.side p.can p.seen l.ensures.root l.ensures.height))

pub set_node-requires-else-inner-outer-clause-memory : goal.set_node-requires-else-inner-outer-clause-memory
set_node-requires-else-inner-outer-clause-memory g c =
    let a = c.args in
    let o = c.in_ok-outer.outer in
    let i = c.in_ok-inner.inner in
    let n = c.in_ok-near.near in
    let f = c.in_ok-far.far in
    let r = see a.node a.side a.child a.low.root a.low.height o.root i.root o.height i.height c.requires.memory.all c.in_ok-outer.ensures.done c.in_ok-inner.ensures.done in
    let m = see_more a.node a.side a.child a.low.root a.low.height o.root i.root n.root f.root o.height i.height n.height f.height r c.in_ok-near.ensures.done c.in_ok-far.ensures.done in
    storable (search rules) (search rules) (always_said (Reads-weaker m (λ ws p. runs_double_first ws a.side a.node a.child a.low.root a.low.height o.root i.root n.root f.root o.height i.height n.height f.height c.requires.side p.can p.seen p.more c.if-inner-outer.false)))

pub set_node-requires-else-inner-outer-2-clause-memory : goal.set_node-requires-else-inner-outer-2-clause-memory
set_node-requires-else-inner-outer-2-clause-memory g c =
    let a = c.args in
    let o = c.in_ok-outer.outer in
    let i = c.in_ok-inner.inner in
    let n = c.in_ok-near.near in
    let f = c.in_ok-far.far in
    let r = see a.node a.side a.child a.low.root a.low.height o.root i.root o.height i.height c.requires.memory.all c.in_ok-outer.ensures.done c.in_ok-inner.ensures.done in
    let m = see_more a.node a.side a.child a.low.root a.low.height o.root i.root n.root f.root o.height i.height n.height f.height r c.in_ok-near.ensures.done c.in_ok-far.ensures.done in
    storable (search rules) (search rules) (always_set (with_node a.child a.side o.root n.root) (λ ws. CanSet ws a.node f.root f.height a.low.root a.low.height) m c.in_ok-first.ensures.changes.done
    (λ ws p. runs_double_second ws a.side a.node a.child a.low.root a.low.height o.root i.root n.root f.root o.height i.height n.height f.height c.requires.side p.can p.seen p.more c.if-inner-outer.false))

pub set_node-requires-else-inner-outer-3-clause-memory : goal.set_node-requires-else-inner-outer-3-clause-memory
set_node-requires-else-inner-outer-3-clause-memory g c =
    let a = c.args in
    let o = c.in_ok-outer.outer in
    let i = c.in_ok-inner.inner in
    let n = c.in_ok-near.near in
    let f = c.in_ok-far.far in
    let x = c.in_ok-first in
    let y = c.in_ok-second in
    let r = see a.node a.side a.child a.low.root a.low.height o.root i.root o.height i.height c.requires.memory.all c.in_ok-outer.ensures.done c.in_ok-inner.ensures.done in
    let m = see_more a.node a.side a.child a.low.root a.low.height o.root i.root n.root f.root o.height i.height n.height f.height r c.in_ok-near.ensures.done c.in_ok-far.ensures.done in
    storable (search rules) (search rules) (always_set (λ ws. with_node a.node a.side f.root a.low.root (with_node a.child a.side o.root n.root ws)) (λ ws. CanSet ws i.root x.first.root x.first.height y.second.root y.second.height) m
    (set_then (with_node a.child a.side o.root n.root) (with_node a.node a.side f.root a.low.root) x.ensures.changes.done y.ensures.changes.done)
    (λ ws p. runs_double_third ws a.side a.node a.child a.low.root a.low.height o.root i.root n.root f.root o.height i.height n.height f.height c.requires.side p.can p.seen p.more c.if-inner-outer.false
    x.first.root x.first.height y.second.root y.second.height x.ensures.root x.ensures.height y.ensures.root y.ensures.height))

tall_single : (top lower oh ih lh : ℕ) → top ≡ 1 + max oh lower → lower ≡ 1 + max ih lh → top ≡ 1 + max oh (1 + max ih lh)
tall_single top lower oh ih lh e f = e ∙ ap (λ n. 1 + max oh n) f

pub returns-in_ok-top : goal.returns-in_ok-top
returns-in_ok-top g c =
    let a = c.args in
    let o = c.in_ok-outer.outer in
    let i = c.in_ok-inner.inner in
    let l = c.in_ok-lower in
    let t = c.in_ok-top in
    let r = see a.node a.side a.child a.low.root a.low.height o.root i.root o.height i.height c.requires.memory.all c.in_ok-outer.ensures.done c.in_ok-inner.ensures.done in
    changed (Becomes-set (λ ws. with_node a.child a.side o.root l.lower.root (with_node a.node a.side i.root a.low.root ws)) (Rotates a.node a.side a.child a.low.root t.top.root t.top.height) r
    (set_then (with_node a.node a.side i.root a.low.root) (with_node a.child a.side o.root l.lower.root) l.ensures.changes.done t.ensures.changes.done)
    (λ ws p. subst (λ n. Rotates a.node a.side a.child a.low.root n t.top.height ws (with_node a.child a.side o.root l.lower.root (with_node a.node a.side i.root a.low.root ws))) (sym t.ensures.root)
    (runs_single ws a.side a.node a.child a.low.root a.low.height o.root i.root o.height i.height l.lower.root t.top.height c.requires.side p.can.high_is p.seen c.if-inner-outer.true l.ensures.root
    (tall_single t.top.height l.lower.height o.height i.height a.low.height t.ensures.height l.ensures.height)))) (search rules) (search rules)

pub returns-in_ok-top-2 : goal.returns-in_ok-top-2
returns-in_ok-top-2 g c =
    let a = c.args in
    let o = c.in_ok-outer.outer in
    let i = c.in_ok-inner.inner in
    let n = c.in_ok-near.near in
    let f = c.in_ok-far.far in
    let x = c.in_ok-first in
    let y = c.in_ok-second in
    let t = c.in_ok-top-2 in
    let r = see a.node a.side a.child a.low.root a.low.height o.root i.root o.height i.height c.requires.memory.all c.in_ok-outer.ensures.done c.in_ok-inner.ensures.done in
    let m = see_more a.node a.side a.child a.low.root a.low.height o.root i.root n.root f.root o.height i.height n.height f.height r c.in_ok-near.ensures.done c.in_ok-far.ensures.done in
    let tall : t.top.height ≡ 1 + max (1 + max o.height n.height) (1 + max f.height a.low.height) = t.ensures.height ∙ ap (λ k. 1 + max k y.second.height) x.ensures.height ∙ ap (λ k. 1 + max (1 + max o.height n.height) k) y.ensures.height in
    changed (Becomes-set (λ ws. with_node i.root a.side x.first.root y.second.root (with_node a.node a.side f.root a.low.root (with_node a.child a.side o.root n.root ws))) (Rotates a.node a.side a.child a.low.root t.top.root t.top.height) m
    (set_then (λ ws. with_node a.node a.side f.root a.low.root (with_node a.child a.side o.root n.root ws)) (with_node i.root a.side x.first.root y.second.root)
    (set_then (with_node a.child a.side o.root n.root) (with_node a.node a.side f.root a.low.root) x.ensures.changes.done y.ensures.changes.done) t.ensures.changes.done)
    (λ ws p. subst (λ k. Rotates a.node a.side a.child a.low.root k t.top.height ws (with_node i.root a.side x.first.root y.second.root (with_node a.node a.side f.root a.low.root (with_node a.child a.side o.root n.root ws)))) (sym t.ensures.root)
    (runs_double ws a.side a.node a.child a.low.root a.low.height o.root i.root n.root f.root o.height i.height n.height f.height x.first.root y.second.root t.top.height c.requires.side p.can.high_is p.seen p.more c.if-inner-outer.false
    x.ensures.root y.ensures.root tall))) (search rules) (search rules)
