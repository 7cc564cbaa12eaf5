use Rattle.cx_base.proofs.MemoryLemmas.{Framed-then}
use Rattle.std.proofs.Common.{rules, arith, refl, sym, ◌+◌, ◌∙◌}
use Rattle.cx_base.specs.Packing.{unpacked}
use Rattle.cx_base.proofs.ReadLemmas.{kept_then, Reads-none, Reads-then, Reads-weaker, Reads-load, Reads-loaded, always_read}
use Rattle.avl_words.proofs.Memories.{always_said, always_kept, loadable, found}
use Rattle.word_index.proofs.NodeReads.{node_within}
use Rattle.word_index.proofs.KeyPlaces.{few_counted, is_same, is_other}
use Rattle.word_index.proofs.UnkeptWalks.{some_begins, some_few, some_few_node, some_has_node, some_ends, some_ends_same, some_deep, some_on}
use Rattle.word_index.proofs.walk.reach.Goals as goal

pub loop-depth-init : goal.loop-depth-init
loop-depth-init g c =
    let b = c.in_ok-node.ensures in
    record {
      done = Reads-load (Reads-none _ c.requires.all) b.done (λ ws p e. some_begins ws c.args.past (unpacked c.args.key.now.len c.args.key.now.words) 0 c.in_ok-node.node 0 e refl refl);
      counted = omega arith;
      kept = b.kept;
      sized = search rules;
      framed = b.framed;
    }

pub returns-then-node-eq0 : goal.returns-then-node-eq0
returns-then-node-eq0 g c =
    let l = c.loop-depth in
    record {
      finds = found (Reads-weaker l.invariant.done (λ ws w. some_ends ws c.args.past (unpacked c.args.key.now.len c.args.key.now.words) l._depth l.node l.above w c.if-node-eq0.true)) (search rules) (search rules) (search rules);
      visits = always_said (Reads-weaker l.invariant.done (λ ws w. few_counted ws c.args.visits.now l.visits l._depth (some_few ws c.args.past (unpacked c.args.key.now.len c.args.key.now.words) l._depth l.node l.above w) l.invariant.counted));
    }

pub order_at-requires : goal.order_at-requires
order_at-requires g c =
    let l = c.loop-depth in
    loadable (search rules) (always_read c.requires.all l.invariant.done (λ ws i w. some_has_node ws c.args.past (unpacked c.args.key.now.len c.args.key.now.words) l._depth l.node l.above w c.if-node-eq0.false i))

pub returns-in_err-order_at : goal.returns-in_err-order_at
returns-in_err-order_at g c =
    let l = c.loop-depth in
    record {
      finds = search rules;
      visits = always_kept (always_said (Reads-weaker l.invariant.done (λ ws w. few_counted ws c.args.visits.now c.order_at.new.visits (l._depth + 1) (some_few_node ws c.args.past (unpacked c.args.key.now.len c.args.key.now.words) l._depth l.node l.above w c.if-node-eq0.false) (omega (arith, l.invariant.counted, c.in_err-order_at.ensures.counted)))))
          c.in_err-order_at.ensures.finds.kept;
    }

pub returns-then-is_eq : goal.returns-then-is_eq
returns-then-is_eq g c =
    let l = c.loop-depth in
    let o = c.in_ok-order_at.field-0 in
    let same = sym c.toward-order.ensures ∙ is_same c.toward-order.result (sym c.is_eq.ensures ∙ c.if-is_eq.true) in
    record {
      finds = found (Reads-then l.invariant.done c.in_ok-order_at.ensures.finds.done (λ ws w is. some_ends_same ws c.args.past (unpacked c.args.key.now.len c.args.key.now.words) l._depth l.node l.above o w c.if-node-eq0.false is same)) (search rules) (search rules) (search rules);
      visits = always_kept (always_said (Reads-weaker l.invariant.done (λ ws w. few_counted ws c.args.visits.now c.order_at.new.visits (l._depth + 1) (some_few_node ws c.args.past (unpacked c.args.key.now.len c.args.key.now.words) l._depth l.node l.above w c.if-node-eq0.false) (omega (arith, l.invariant.counted, c.in_ok-order_at.ensures.counted)))))
          c.in_ok-order_at.ensures.finds.kept;
    }

pub word-requires-in-loop-depth-clause-memory : goal.word-requires-in-loop-depth-clause-memory
word-requires-in-loop-depth-clause-memory g c =
    let l = c.loop-depth in
    loadable (search rules) (always_read c.requires.all (Reads-then l.invariant.done c.in_ok-order_at.ensures.finds.done (λ ws w o. w))
    (λ ws i w. node_within ws l.node (some_has_node ws c.args.past (unpacked c.args.key.now.len c.args.key.now.words) l._depth l.node l.above w c.if-node-eq0.false i)))

pub returns-in_err-node-2 : goal.returns-in_err-node-2
returns-in_err-node-2 g c =
    let l = c.loop-depth in
    record {
      finds = search rules;
      visits = always_kept (always_said (Reads-weaker l.invariant.done (λ ws w. few_counted ws c.args.visits.now c.order_at.new.visits (l._depth + 1) (some_few_node ws c.args.past (unpacked c.args.key.now.len c.args.key.now.words) l._depth l.node l.above w c.if-node-eq0.false) (omega (arith, l.invariant.counted, c.in_ok-order_at.ensures.counted)))))
          (kept_then c.in_ok-order_at.ensures.finds.kept c.in_err-node-2.ensures.kept);
    }

pub loop-depth-preserved : goal.loop-depth-preserved
loop-depth-preserved g c =
    let l = c.loop-depth in
    let i = l.invariant in
    let o = c.in_ok-order_at.ensures.finds in
    let w = c.in_ok-node-2.ensures in
    let t = c.toward-order.ensures in
    let s = c.side_of-side.ensures in
    let a = c.above_after-above.ensures in
    let other = is_other c.toward-order.result (sym c.is_eq.ensures ∙ c.if-is_eq.false) in
    record {
      done = Reads-then i.done (Reads-loaded o.done w.done) (λ ws p q.
          some_on ws c.args.past (unpacked c.args.key.now.len c.args.key.now.words) l._depth l.node l.above c.in_ok-node-2.node c.side_of-side.result c.above_after-above.result c.in_ok-order_at.field-0
          p (omega (arith, c.loop-depth-test.true)) c.if-node-eq0.false q.0 (λ e. other (t ∙ e)) (λ e. s.less (t ∙ e)) (λ e. s.more (t ∙ e)) a.left a.right q.1);
      counted = omega (arith, i.counted, c.in_ok-order_at.ensures.counted);
      kept = kept_then (kept_then i.kept o.kept) w.kept;
      sized = search rules;
      framed = Framed-then (Framed-then i.framed o.framed) w.framed;
    }

pub returns : goal.returns
returns g c =
    let l = c.loop-depth in
    record {
      finds = found (Reads-weaker l.invariant.done (λ ws w. some_deep ws c.args.past (unpacked c.args.key.now.len c.args.key.now.words) l._depth l.node l.above w (omega (arith, c.loop-depth-test.false)))) (search rules) (search rules) (search rules);
      visits = always_said (Reads-weaker l.invariant.done (λ ws w. few_counted ws c.args.visits.now l.visits l._depth (some_few ws c.args.past (unpacked c.args.key.now.len c.args.key.now.words) l._depth l.node l.above w) l.invariant.counted));
    }
