use Rattle.std.proofs.Common.{◌≡◌, drop}
use Rattle.cx_core.specs.Merge.{all_own, entry_at}
use Rattle.core_events.proofs.images.entry_of.Given as goal

abbrev pub invariant-loop-local : goal.invariant-loop-local
invariant-loop-local l = entry_at l.ticket (all_own l.locals) ≡ entry_at l.ticket (all_own (drop l.local-index l.locals))
