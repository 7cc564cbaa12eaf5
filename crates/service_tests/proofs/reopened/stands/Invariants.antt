use Rattle.std.proofs.Common.{◌≡◌, length}
use Rattle.service_tests.proofs.reopened.stands.Given as goal

abbrev pub invariant-loop-choice : goal.invariant-loop-choice
invariant-loop-choice l = length l.image ≡ 3360
