use Rattle.std.proofs.Common.{◌≤◌, ◌-◌, length}
use Rattle.line_lanes.specs.Lines.{AgreeFrom}
use Rattle.line_lanes.proofs.kernels.same_sixteens.Given as goal

abbrev pub invariant-loop-at : goal.invariant-loop-at
invariant-loop-at l = record { least : l.from ≤ l.at; most : l.at ≤ length l.a; same : AgreeFrom l.a l.b l.from l.at }

abbrev pub decreases-loop-at : goal.decreases-loop-at
decreases-loop-at l = length l.a - l.at
