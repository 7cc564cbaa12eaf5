use Rattle.std.proofs.Common.{◌≡◌, ◌-◌, ◌*◌, ◌%◌, ◌≤◌, ◌⊎◌, length}
use Rattle.cx_core.specs.Region.{region_words}
use Rattle.cx_table.specs.Seats.{StepsOn}
use Rattle.replica.specs.Copies.{HoldsBothIn, IsCopiedTo, LoadsAtMost, unchanged_by_copy, skips_by}
use Rattle.replica.proofs.copy.copy_marked.Given as goal
use Rattle.table_invariant.specs.Seats.{StepsBy}

-- of the lines so far those are copied that are not skipped, and a piece begins
abbrev pub invariant-loop-line : goal.invariant-loop-line
invariant-loop-line g l = record {
  both : HoldsBothIn g.O.Object l.shared l.seat l.held l.source;
  copied : IsCopiedTo (skips_by l.all l.marks) (8 * l.line) (region_words (g.O.Object.line_count l.shared.object)) l.fn.seat.known l.seat.known;
  counts : LoadsAtMost (16 * l.line) l.fn.seat.known l.seat.known;
  bound : StepsBy (24 * l.line) l.fn.seat l.seat;
  since : StepsOn l.fn.seat l.seat;
  rest : unchanged_by_copy l.seat ≡ unchanged_by_copy l.fn.seat;
  within : l.line ≤ l.lines;
  begins : (l.line ≡ 0) ⊎ ((l.line % 8 ≡ 1) ⊎ (l.line ≡ l.lines));
  held_long : length l.held_words ≡ 64;
  source_long : length l.source_words ≡ 64;
}

abbrev pub decreases-loop-line : goal.decreases-loop-line
decreases-loop-line g l = l.lines - l.line
