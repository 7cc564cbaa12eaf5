use Rattle.cx_service.specs.Closes.{seat_of}
use Rattle.service_tests.specs.Tests.{IsHandedBack}
use Rattle.service_tests.proofs.calls.asked_between.Given as goal

abbrev pub invariant-loop-k : goal.invariant-loop-k
invariant-loop-k g l = IsHandedBack l.service (seat_of l.fn.handed) l.handed
