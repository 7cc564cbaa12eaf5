use Rattle.cx_service.specs.Closes.{seat_of}
use Rattle.service_tests.specs.Tests.{IsHandedBack}
use Rattle.service_tests.proofs.sum_calls.parts_asked.Given as goal

-- both are handed back after each part
abbrev pub invariant-loop-part : goal.invariant-loop-part
invariant-loop-part l = record {
  first : IsHandedBack l.service (seat_of l.fn.pair.first) l.pair.first;
  second : IsHandedBack l.service (seat_of l.fn.pair.second) l.pair.second;
}
