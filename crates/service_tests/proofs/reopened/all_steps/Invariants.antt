use Rattle.std.proofs.Common.{◌≡◌, length}
use Rattle.recovery.specs.Reopened.{HasReplicas}
use Rattle.service_tests.proofs.reopened.all_steps.Given as goal

abbrev pub invariant-loop-line : goal.invariant-loop-line
invariant-loop-line l = record { medium : HasReplicas 1 64 l.medium; image : length l.image ≡ 3360 }
