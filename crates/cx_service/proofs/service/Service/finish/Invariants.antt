use Rattle.cx_service.proofs.Attempting.{DrivesAgain}
use Rattle.cx_service.proofs.service.Service.finish.Given as goal

-- the entry stands, unanswered
abbrev pub invariant-loop : goal.invariant-loop
invariant-loop g l = DrivesAgain l.self l.fn.linked l.linked
