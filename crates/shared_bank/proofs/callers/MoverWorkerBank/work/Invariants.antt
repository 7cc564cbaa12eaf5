use Rattle.service_parts.specs.Callers.{IsBack}
use Rattle.shared_bank.proofs.callers.MoverWorkerBank.work.Given as goal

-- the same caller, in no call
abbrev pub invariant-loop-step : goal.invariant-loop-step
invariant-loop-step g l = IsBack l.service l.fn.caller l.caller
