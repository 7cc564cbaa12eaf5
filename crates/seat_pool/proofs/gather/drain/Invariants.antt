use Rattle.std.proofs.Common.{◌≡◌, ◌≤◌, ℕ, vec_capacity}
use Rattle.table_invariant.specs.Seats.{Seated}
use Rattle.crossbeam_queue.specs.Passes.{view, IsPassOf}
use Rattle.cx_service.specs.declared.close.Handed.{Handed}
use Rattle.cx_service.specs.declared.close.Handed.TheVariants.{Idle}
use Rattle.seat_pool.specs.Gathering.{IsGathering}
use Rattle.seat_pool.specs.Pooling.{total_weight}
use Rattle.seat_pool.proofs.gather.drain.Given as goal

abbrev pub invariant-loop : goal.invariant-loop
invariant-loop g l = record {
  pass : IsPassOf l.line l.pass;
  gathering : IsGathering l.service (view l.fn.pass) (view l.pass) l.gathered.items;
  more : (f : Handed → ℕ) → total_weight f l.fn.gathered.items ≤ total_weight f l.gathered.items;
  idle : (f : Handed → ℕ) → ((s : Seated) → f (Idle s) ≡ 0) → total_weight f l.gathered.items ≡ total_weight f l.fn.gathered.items;
  room : l.service.callers ≤ vec_capacity l.gathered;
}
