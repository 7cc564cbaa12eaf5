use Rattle.recovery.specs.Reopened.{IsStoredFrom}
use Rattle.recovery.proofs.reopened_medium.store_differing.Given as goal

abbrev pub invariant-loop-i : goal.invariant-loop-i
invariant-loop-i l = IsStoredFrom l.source l.line l.i l.differs l.fn.medium l.medium
