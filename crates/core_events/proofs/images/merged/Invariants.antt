use Rattle.std.proofs.Common.{◌≡◌, ◌-◌}
use Rattle.cx_core.specs.Merge.{all_own, in_order}
use Rattle.core_events.proofs.images.merged.Given as goal

abbrev pub invariant-loop-ticket : goal.invariant-loop-ticket
invariant-loop-ticket l = l.history.items ≡ in_order (l.ticket - l.place) l.place (all_own l.locals)
