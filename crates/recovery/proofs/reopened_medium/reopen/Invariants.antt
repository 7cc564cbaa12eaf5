use Rattle.recovery.proofs.Copying.{Copies}
use Rattle.recovery.proofs.reopened_medium.reopen.Given as goal

abbrev pub invariant-loop-line : goal.invariant-loop-line
invariant-loop-line l = Copies l.region l.from l.line l.fn.medium l.medium
