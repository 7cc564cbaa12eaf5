use Rattle.cx_service.specs.Closes.{seat_of}
use Rattle.service_tests.specs.Tests.{IsHandedBack}
use Rattle.service_tests.proofs.calls.asked.Given as goal

abbrev pub invariant-loop-turn : goal.invariant-loop-turn
invariant-loop-turn g l = IsHandedBack l.service (seat_of l.fn.handed) l.handed
