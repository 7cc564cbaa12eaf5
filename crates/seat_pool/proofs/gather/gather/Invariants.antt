use Rattle.std.proofs.Common.{◌≤◌, length, vec_capacity}
use Rattle.crossbeam_queue.specs.Passes.{view, IsPassOf}
use Rattle.seat_pool.specs.Gathering.{IsTakingIn}
use Rattle.seat_pool.proofs.gather.gather.Given as goal

abbrev pub invariant-loop-lent : goal.invariant-loop-lent
invariant-loop-lent g l = record {
  pass : IsPassOf l.line l.pass;
  taking : IsTakingIn l.service l.line.table.shared.table_id l.fn.lents.items (view l.pass) l.lents.items l.gathered.items;
  room : l.service.callers ≤ vec_capacity l.gathered;
}

abbrev pub decreases-loop-lent : goal.decreases-loop-lent
decreases-loop-lent g l = length l.lents.items
