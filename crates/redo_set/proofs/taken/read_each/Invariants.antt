use Rattle.std.proofs.Common.{◌≡◌, length, take}
use Rattle.table_invariant.specs.Running.{IsSeatOf}
use Rattle.cx_table.specs.Seats.{StepsOn}
use Rattle.redo_set.specs.Taking.{ReadsSetWords}
use Rattle.redo_set.proofs.taken.read_each.Given as goal

-- the words so far were read
abbrev pub invariant-loop-i : goal.invariant-loop-i
invariant-loop-i g l = record {
  read : ReadsSetWords g.O.Object l.shared l.ticket 1 (take l.i l.into) l.fn.seat l.seat;
  long : length l.into ≡ length l.fn.into;
  of : IsSeatOf l.shared l.seat;
  since : StepsOn l.fn.seat l.seat;
}
