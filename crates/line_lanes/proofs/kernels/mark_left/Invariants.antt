use Rattle.std.proofs.Common.{take}
use Rattle.line_lanes.specs.Lines.{AddsMarks, is_touched}
use Rattle.line_lanes.proofs.kernels.mark_left.Given as goal

abbrev pub invariant-loop-address : goal.invariant-loop-address
invariant-loop-address l = AddsMarks (is_touched (take l.address-index l.addresses)) l.fn.out l.out
