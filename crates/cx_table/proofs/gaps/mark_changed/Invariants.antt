use Rattle.std.proofs.Common.{◌≡◌, ◌-◌, ◌*◌, ◌≤◌, ◌⊎◌, length}
use Rattle.table_invariant.specs.Running.{instance_at}
use Rattle.table_invariant.specs.Seats.{StepsBy}
use Rattle.cx_table.specs.GapMarks.{KeepsLoads, MarksChanged}
use Rattle.cx_table.proofs.gaps.mark_changed.Given as goal

-- the lines of the tickets so far are marked
abbrev pub invariant-loop-ticket : goal.invariant-loop-ticket
invariant-loop-ticket g l = record {
  marks : MarksChanged (instance_at l.shared g.O.Object.step g.O.Object.only_reads) l.lines l.from l.ticket l.marks l.seat.known;
  leaves : KeepsLoads g.O.Object l.shared l.fn.seat l.seat;
  steps : StepsBy (16 * (l.ticket - l.from)) l.fn.seat l.seat;
  long : length l.marks ≡ length l.fn.marks;
  order : (l.ticket ≡ l.from) ⊎ (l.ticket ≤ l.to);
}
