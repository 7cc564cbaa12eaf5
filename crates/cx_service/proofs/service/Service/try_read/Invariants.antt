use Rattle.cx_service.proofs.Attempting.{LooksOn}
use Rattle.cx_service.proofs.service.Service.try_read.Given as goal

-- in each attempt so far a refusal was met
abbrev pub invariant-loop-attempt : goal.invariant-loop-attempt
invariant-loop-attempt g l = LooksOn l.self l._attempt l.fn.caller l.caller
