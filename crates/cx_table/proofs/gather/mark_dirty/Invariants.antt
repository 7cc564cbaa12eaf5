use Rattle.cx_table.proofs.Marking.{DirtyTo}
use Rattle.cx_table.proofs.gather.mark_dirty.Given as goal

abbrev pub invariant-loop-k : goal.invariant-loop-k
invariant-loop-k l = DirtyTo l.seats l.k l.replicas l.region l.dirty.items
