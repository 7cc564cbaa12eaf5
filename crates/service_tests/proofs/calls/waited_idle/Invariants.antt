use Rattle.std.proofs.Common.{◌≡◌}
use Rattle.cx_service.specs.Callers.{IsCallerOf}
use Rattle.service_tests.proofs.calls.waited_idle.Given as goal

abbrev pub invariant-loop-look : goal.invariant-loop-look
invariant-loop-look g l = record {
  caller : IsCallerOf l.service l.caller;
  number : l.caller.known.local.number ≡ l.fn.caller.known.local.number;
}
