use Rattle.std.proofs.Common.{◌≡◌, length}
use Rattle.cx_service.proofs.Attempting.{LooksOn}
use Rattle.cx_service.proofs.service.Service.checkpoint.Given as goal

-- in each attempt so far a refusal was met, and the buffer is as long as it was
abbrev pub invariant-loop-attempt : goal.invariant-loop-attempt
invariant-loop-attempt g l = LooksOn l.self l._attempt l.fn.caller l.caller × (length l.into ≡ length l.fn.into)
