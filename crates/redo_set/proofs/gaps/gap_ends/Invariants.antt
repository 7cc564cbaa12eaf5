use Rattle.std.proofs.Common.{◌≡◌, ◌-◌, ◌≤◌, length}
use Rattle.redo_set.specs.Gaps.{AreEnds, begin_of, lines_to}
use Rattle.redo_set.proofs.gaps.gap_ends.Given as goal

-- the ends so far are the ends of gaps, one for each line with an address up to the last of them, which is before the end of the region
abbrev pub invariant-loop-k : goal.invariant-loop-k
invariant-loop-k l = record {
  ends : AreEnds l.set l.lines l.ends l.k;
  at : l.at ≡ begin_of l.ends l.k;
  count : l.k ≡ lines_to l.set l.at;
  before : l.at ≤ l.lines - 1;
  long : length l.ends ≡ 16;
}
