use Rattle.std.proofs.Common.{rules, ◌≡◌, ◌+◌, ◌-◌, ℕ, List, get_or, subst, arith}
use Rattle.cx_base.proofs.MemoryLemmas.{Becomes-then, Becomes-both, Becomes-loaded, Becomes-weaker, Framed-same, Framed-then, always_after, always_below}
use Rattle.avl_words.specs.Mending.{Mending}
use Rattle.avl_words.proofs.Rising.{mending_begins, mending_goes_on, mending_ends, mending_stops, can_go_on, can_relink, side_below, node_within}
use Rattle.avl_words.proofs.Memories.{changed, storable, loadable}
use Rattle.avl_words.proofs.replacement.mend.Goals as goal

begins : (ws nodes sides : List ℕ) (depth settled node high : ℕ) → Mending nodes sides depth settled node high (depth - 0) node high ws ws
begins ws nodes sides depth settled node high = (let e : depth ≡ depth - 0 = omega arith in subst (λ k. Mending nodes sides depth settled node high k node high ws ws) e (mending_begins ws nodes sides depth settled node high))

pub loop-i-init : goal.loop-i-init
loop-i-init g c = record {
  done = record { from = λ first now s. (now, s, begins now c.args.way.now.nodes c.args.way.now.sides c.args.way.now.depth c.args.settled c.args.tree.root c.args.tree.height) };
  sized = c.requires.sized;
  framed = Framed-same _;
}

pub word-requires-clause-memory : goal.word-requires-clause-memory
word-requires-clause-memory g c =
    let l = c.loop-i in
    let w = c.args.way.now in
    let t = c.args.tree in
    loadable (search rules) (always_after c.requires.all l.invariant.done (λ x y p m. node_within x y w.nodes w.sides w.depth c.args.settled t.root t.height (w.depth - l.i) l.top.root l.top.height p m (omega (arith, c.loop-i-test.true))))

pub hang-requires-clause-side : goal.hang-requires-clause-side
hang-requires-clause-side g c =
    let l = c.loop-i in
    let w = c.args.way.now in
    let t = c.args.tree in
    always_below (g.M.Memory.stands l.mem) (g.met.M.Memory.some_stands l.mem) (get_or w.sides (w.depth - l.i - 1) 0) 2
    (always_after c.requires.all l.invariant.done (λ x y p m. side_below x y w.nodes w.sides w.depth c.args.settled t.root t.height (w.depth - l.i) l.top.root l.top.height p m (omega (arith, c.loop-i-test.true))))

pub hang-requires-clause-memory : goal.hang-requires-clause-memory
hang-requires-clause-memory g c =
    let l = c.loop-i in
    let w = c.args.way.now in
    let t = c.args.tree in
    storable (search rules) (search rules) (always_after c.requires.all (Becomes-loaded l.invariant.done c.in_ok-high.ensures.done)
    (λ x y p m. can_go_on x y w.nodes w.sides w.depth c.args.settled t.root t.height (w.depth - l.i) l.top.root l.top.height p m.0 (omega (arith, c.loop-i-test.true))))

pub relink-requires-clause-memory : goal.relink-requires-clause-memory
relink-requires-clause-memory g c =
    let l = c.loop-i in
    let w = c.args.way.now in
    let t = c.args.tree in
    let top = c.in_ok-top.top in
    storable (search rules) (search rules) (always_after c.requires.all (Becomes-both (Becomes-loaded l.invariant.done c.in_ok-high.ensures.done) c.in_ok-top.ensures.done)
    (λ x z p m. can_relink x m.0 z w.nodes w.sides w.depth c.args.settled t.root t.height (w.depth - l.i) l.top.root l.top.height top.root top.height c.in_ok-high.high p m.1.0
    (omega (arith, c.loop-i-test.true)) (omega (arith, c.if-last-settled.true)) m.1.1 c.if-top-high.true m.2))

pub returns-then-top-high : goal.returns-then-top-high
returns-then-top-high g c =
    let l = c.loop-i in
    let w = c.args.way.now in
    let t = c.args.tree in
    let top = c.in_ok-top.top in
    changed (Becomes-then (Becomes-both (Becomes-loaded l.invariant.done c.in_ok-high.ensures.done) c.in_ok-top.ensures.done) c.in_ok-root.ensures.done
    (λ x z u m r. mending_stops x m.0 z u w.nodes w.sides w.depth c.args.settled t.root t.height (w.depth - l.i) l.top.root l.top.height top.root top.height c.in_ok-high.high c.in_ok-root.root m.1.0
    (omega (arith, c.loop-i-test.true)) (omega (arith, c.if-last-settled.true)) m.1.1 c.if-top-high.true m.2 r)) (search rules) (search rules)

pub loop-i-preserved : goal.loop-i-preserved
loop-i-preserved g c =
    let l = c.loop-i in
    let w = c.args.way.now in
    let t = c.args.tree in
    let top = c.in_ok-top.top in
    let less : w.depth - l.i - 1 ≡ w.depth - (l.i + 1) = omega arith in
    record {
      done = Becomes-then (Becomes-loaded l.invariant.done c.in_ok-high.ensures.done) c.in_ok-top.ensures.done (λ x y z m q.
          subst (λ k. Mending w.nodes w.sides w.depth c.args.settled t.root t.height k top.root top.height x z) less
          (mending_goes_on x y z w.nodes w.sides w.depth c.args.settled t.root t.height (w.depth - l.i) l.top.root l.top.height top.root top.height (omega (arith, c.loop-i-test.true)) m.0 q));
      sized = search rules;
      framed = Framed-then (Framed-then l.invariant.framed c.in_ok-high.ensures.framed) c.in_ok-top.ensures.framed;
    }

pub returns : goal.returns
returns g c =
    let l = c.loop-i in
    let w = c.args.way.now in
    let t = c.args.tree in
    let none : w.depth - l.i ≡ 0 = omega (arith, c.loop-i-test.false) in
    changed (Becomes-weaker l.invariant.done (λ first x y s m.
    mending_ends x y w.nodes w.sides w.depth c.args.settled t.root t.height l.top.root l.top.height (subst (λ k. Mending w.nodes w.sides w.depth c.args.settled t.root t.height k l.top.root l.top.height x y) none m))) (search rules) (search rules)
