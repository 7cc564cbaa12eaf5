use Rattle.std.proofs.Common.{◌+◌, ◌∙◌, ap}
use Rattle.seat_pool.proofs.Orderings.{none_at}
use Rattle.seat_pool.proofs.gather.find.Goals as goal

pub loop-handed-preserved : goal.loop-handed-preserved
loop-handed-preserved c = record {
  place = ap (λ k. k + 1) c.loop-handed.invariant.place;
  items = c.loop-handed.invariant.items;
  none = none_at c.deref-handed-items.result.now c.args.gathered.now.items c.loop-handed.handed-index c.args.wanted c.handed-item.result c.loop-handed.invariant.items c.loop-handed-test.true c.loop-handed.invariant.none c.handed-item.is (λ e. c.if-number-wanted.false (c.number.ensures ∙ e));
}
