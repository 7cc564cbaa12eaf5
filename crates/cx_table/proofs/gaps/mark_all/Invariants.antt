use Rattle.std.proofs.Common.{◌≡◌, ◌+◌, ◌%◌, ◌/◌, ◌^◌, ◌<◌, ℕ, length, slice_index}
use Rattle.cx_table.specs.GapMarks.{IsMarked}
use Rattle.cx_table.proofs.gaps.mark_all.Given as goal

-- the lines of the words so far are marked
abbrev pub invariant-loop-word : goal.invariant-loop-word
invariant-loop-word l = record {
  marks : (k : ℕ) → k < l.word-index → IsMarked l.marks ((slice_index l.words k % 2 ^ 17 + 7) / 8);
  kept : (piece : ℕ) → IsMarked l.fn.marks piece → IsMarked l.marks piece;
  long : length l.marks ≡ length l.fn.marks;
}
