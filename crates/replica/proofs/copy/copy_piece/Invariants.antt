use Rattle.std.proofs.Common.{◌≡◌, ◌+◌, ◌*◌, length}
use Rattle.cx_table.specs.Seats.{StepsOn}
use Rattle.replica.specs.Copies.{AreSeen, CopiesOn, HoldsBothIn, LoadsAtMost, unchanged_by_copy}
use Rattle.replica.proofs.copy.copy_piece.Given as goal
use Rattle.table_invariant.specs.Seats.{StepsBy}

-- the lines so far are copied, and the others are as they were loaded
abbrev pub invariant-loop-line : goal.invariant-loop-line
invariant-loop-line g l = record {
  both : HoldsBothIn g.O.Object l.shared l.seat l.held l.source;
  seen : AreSeen l.from (8 * l.line) (length l.held_words) l.held_words l.source_words l.seat.known;
  copied : CopiesOn l.from (l.from + 8 * l.line) l.fn.seat.known l.seat.known;
  counts : LoadsAtMost (2 * length l.fn.held_words) l.fn.seat.known l.seat.known;
  bound : StepsBy (2 * length l.fn.held_words + 8 * l.line) l.fn.seat l.seat;
  since : StepsOn l.fn.seat l.seat;
  rest : unchanged_by_copy l.seat ≡ unchanged_by_copy l.fn.seat;
}
