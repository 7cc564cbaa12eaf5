use Rattle.table_invariant.specs.Running.{IsSeatOf}
use Rattle.cx_table.specs.Seats.{StepsOn}
use Rattle.redo_set.proofs.Offerings.{HasWritten}
use Rattle.redo_set.proofs.offers.offer.Given as goal

-- i words of the set were written
abbrev pub invariant-loop-i : goal.invariant-loop-i
invariant-loop-i g l = record {
  written : HasWritten l.cell l.set l.i l.fn.seat l.seat;
  of : IsSeatOf l.shared l.seat;
  since : StepsOn l.fn.seat l.seat;
}
