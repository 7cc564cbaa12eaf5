use Rattle.std.proofs.Common.{◌≡◌, drop}
use Rattle.cx_core.specs.Merge.{entry_at}
use Rattle.core_events.proofs.images.own_entry.Given as goal

abbrev pub invariant-loop-linked : goal.invariant-loop-linked
invariant-loop-linked l = entry_at l.ticket l.own ≡ entry_at l.ticket (drop l.linked-index l.own)
