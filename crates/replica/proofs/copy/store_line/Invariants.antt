use Rattle.std.proofs.Common.{◌≡◌, ◌+◌, ◌≤◌, length}
use Rattle.cx_table.specs.Seats.{StepsOn}
use Rattle.replica.specs.Copies.{AreSeen, CopiesOn, HoldsBothIn, LoadsAtMost, unchanged_by_copy}
use Rattle.replica.proofs.copy.store_line.Given as goal

-- the words so far are copied, and the others are as they were loaded
abbrev pub invariant-loop-i : goal.invariant-loop-i
invariant-loop-i g l = record {
  both : HoldsBothIn g.O.Object l.shared l.seat l.held l.source;
  seen : AreSeen l.from l.i (length l.held_words) l.held_words l.source_words l.seat.known;
  copied : CopiesOn (l.from + l.first) (l.from + l.i) l.fn.seat.known l.seat.known;
  counts : LoadsAtMost 0 l.fn.seat.known l.seat.known;
  bound : l.seat.known.local.steps + l.first ≤ l.fn.seat.known.local.steps + l.i;
  since : StepsOn l.fn.seat l.seat;
  rest : unchanged_by_copy l.seat ≡ unchanged_by_copy l.fn.seat;
}
