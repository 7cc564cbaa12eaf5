use Rattle.std.proofs.Common.{◌≡◌, ◌++◌, map}
use Rattle.std.specs.Vec.Iter.{into_iter_items}
use Rattle.cx_service.specs.Closes.{seat_of, seats_of}
use Rattle.service_tests.proofs.threads.parted.Given as goal

-- the first callers are taken out
abbrev pub invariant-loop-worked : goal.invariant-loop-worked
invariant-loop-worked l = record {
  made : seats_of l.callers.items ≡ map (λ w. seat_of w.caller) l.yielded;
  all : l.yielded ++ into_iter_items l.worked-iterator ≡ l.fn.all.items;
}
