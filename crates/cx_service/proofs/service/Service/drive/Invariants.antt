use Rattle.cx_service.proofs.Attempting.{DrivesOn}
use Rattle.cx_service.proofs.service.Service.drive.Given as goal

-- in each attempt so far a refusal was met
abbrev pub invariant-loop-attempt : goal.invariant-loop-attempt
invariant-loop-attempt g l = DrivesOn l.self l._attempt l.fn.linked l.linked
