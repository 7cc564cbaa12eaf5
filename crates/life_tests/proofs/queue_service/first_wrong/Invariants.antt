use Rattle.cx_service.specs.Callers.{IsCallerOf}
use Rattle.life_tests.proofs.queue_service.first_wrong.Given as goal

abbrev pub invariant-loop-i : goal.invariant-loop-i
invariant-loop-i g l = IsCallerOf l.service l.caller
