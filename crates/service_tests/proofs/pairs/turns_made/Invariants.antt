use Rattle.cx_service.specs.Closes.{seat_of}
use Rattle.service_tests.specs.Tests.{IsHandedBack}
use Rattle.service_tests.proofs.pairs.turns_made.Given as goal

-- both are handed back after each turn
abbrev pub invariant-loop-turn : goal.invariant-loop-turn
invariant-loop-turn g l = record {
  first : IsHandedBack l.service (seat_of l.fn.pair.first) l.pair.first;
  second : IsHandedBack l.service (seat_of l.fn.pair.second) l.pair.second;
}
