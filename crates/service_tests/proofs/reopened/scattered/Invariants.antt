use Rattle.std.proofs.Common.{◌≡◌, length}
use Rattle.service_tests.proofs.reopened.scattered.Given as goal

abbrev pub invariant-loop-at : goal.invariant-loop-at
invariant-loop-at l = length l.words.items ≡ 3360
