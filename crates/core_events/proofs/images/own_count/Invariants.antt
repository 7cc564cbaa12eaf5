use Rattle.std.proofs.Common.{◌≡◌, ◌+◌, length, drop}
use Rattle.cx_core.specs.Merge.{all_own}
use Rattle.core_events.proofs.images.own_count.Given as goal

abbrev pub invariant-loop-local : goal.invariant-loop-local
invariant-loop-local l = l.count + length (all_own (drop l.local-index l.locals)) ≡ length (all_own l.locals)
