use Rattle.std.proofs.Common.{◌≡◌, ◌+◌, ◌*◌, ◌<◌, ◌≤◌, ◌⊎◌, ℕ, slice_index}
use Rattle.redo_set.specs.Gaps.{HasAddress}
use Rattle.redo_set.proofs.gaps.next_line.Given as goal

-- no address so far is in a line between
abbrev pub invariant-loop-m : goal.invariant-loop-m
invariant-loop-m l = record {
  within : l.next ≤ l.lines;
  gap : (m : ℕ) → m < l.m → (slice_index l.set (2 * m + 1) < 8 * (l.from + 1)) ⊎ (8 * l.next ≤ slice_index l.set (2 * m + 1));
  ends : (l.next ≡ l.lines) ⊎ ((l.from < l.next) × HasAddress l.set l.next);
}
