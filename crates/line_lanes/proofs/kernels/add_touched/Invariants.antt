use Rattle.std.proofs.Common.{◌*◌, take}
use Rattle.line_lanes.specs.Lines.{AddsMarks, is_touched}
use Rattle.line_lanes.proofs.kernels.add_touched.Given as goal

abbrev pub invariant-loop-eight : goal.invariant-loop-eight
invariant-loop-eight l = AddsMarks (is_touched (take (8 * l.eight) l.addresses)) l.fn.out l.out
