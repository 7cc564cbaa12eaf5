use Rattle.std.proofs.Common.{◌≡◌, take}
use Rattle.seat_pool.specs.Gathering.{handed_number, one_at}
use Rattle.seat_pool.specs.Pooling.{total_weight}
use Rattle.seat_pool.proofs.gather.find.Given as goal

-- the callers that were looked at so far have other numbers than the wanted one
abbrev pub invariant-loop-handed : goal.invariant-loop-handed
invariant-loop-handed l = record {
  place : l.place ≡ l.handed-index;
  items : l.handed-items ≡ l.gathered.items;
  none : total_weight (λ g. one_at l.wanted (handed_number g)) (take l.handed-index l.gathered.items) ≡ 0;
}
