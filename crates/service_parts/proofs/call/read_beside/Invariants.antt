use Rattle.cx_service.specs.Callers.{IsCallerOf}
use Rattle.cx_service.specs.Updates.{KeepsLists}
use Rattle.service_parts.specs.Asking.{IsIdleSince}
use Rattle.service_parts.proofs.call.read_beside.Given as goal

-- the same caller, in no call, with nothing done
abbrev pub invariant-loop : goal.invariant-loop
invariant-loop g l = record { caller : IsCallerOf l.service l.caller; keeps : KeepsLists l.fn.caller l.caller; idle : IsIdleSince l.fn.caller l.caller }
