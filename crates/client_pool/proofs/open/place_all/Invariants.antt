use Rattle.std.proofs.Common.{◌≡◌, ◌++◌, [], map}
use Rattle.std.specs.Vec.Iter.{into_iter_items}
use Rattle.crossbeam_queue.specs.Passes.{view, IsPassOf}
use Rattle.table_invariant.specs.Seats.{Seated}
use Rattle.seat_pool.specs.Pooling.{IsHomeOf, all_parts, limits_at}
use Rattle.client_pool.proofs.open.place_all.Given as goal

-- the first callers were placed
abbrev pub invariant-loop-caller : goal.invariant-loop-caller
invariant-loop-caller g l = record {
  pass : IsPassOf l.line l.pass;
  home : IsHomeOf l.service (view l.pass).home;
  limits : limits_at (view l.pass).home ≡ map (λ (x : Seated). x.known.local.limit) l.fn.callers.items;
  parts : (view l.pass).parts ≡ all_parts;
  placed : (view l.pass).placed ≡ map (λ (x : Seated). x.known.local.number) l.yielded;
  idle : ((view l.pass).held ≡ []) × ((view l.pass).told_calls ≡ []) × ((view l.pass).shown ≡ []);
  all : l.yielded ++ into_iter_items l.caller-iterator ≡ l.fn.callers.items;
}
