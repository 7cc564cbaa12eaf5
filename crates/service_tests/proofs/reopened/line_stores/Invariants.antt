use Rattle.std.proofs.Common.{◌≡◌, length}
use Rattle.recovery.specs.Reopened.{HasReplicas}
use Rattle.service_tests.proofs.reopened.line_stores.Given as goal

abbrev pub invariant-loop-i : goal.invariant-loop-i
invariant-loop-i l = record { medium : HasReplicas 1 64 l.medium; image : length l.image ≡ 3360 }
