use Rattle.service_tests.specs.Tests.{IsHandedCaller}
use Rattle.service_tests.proofs.upgraded.first_other.Given as goal

-- the caller stands between its calls
abbrev pub invariant-loop-i : goal.invariant-loop-i
invariant-loop-i l = IsHandedCaller l.service l.handed
