use Rattle.cx_base.specs.Tally.{IsTally}
use Rattle.cx_core.specs.Base.{LawfulBase}
use Rattle.service_tests.proofs.reopened.first_wrong.Given as goal

abbrev pub invariant-loop-i : goal.invariant-loop-i
invariant-loop-i l = LawfulBase 64 IsTally l.base
