use Rattle.std.proofs.Common.{take}
use Rattle.line_lanes.specs.Lines.{AddsMarks, is_line_of}
use Rattle.line_lanes.proofs.kernels.mark_lines.Given as goal

abbrev pub invariant-loop-line : goal.invariant-loop-line
invariant-loop-line l = AddsMarks (is_line_of (take l.line-index l.lines)) l.fn.out l.out
