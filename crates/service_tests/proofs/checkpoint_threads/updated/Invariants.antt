use Rattle.cx_service.specs.Callers.{IsCallerOf}
use Rattle.service_tests.proofs.checkpoint_threads.updated.Given as goal

abbrev pub invariant-loop-try : goal.invariant-loop-try
invariant-loop-try g l = IsCallerOf l.service l.caller
