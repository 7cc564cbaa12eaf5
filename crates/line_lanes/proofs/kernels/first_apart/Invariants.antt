use Rattle.std.proofs.Common.{◌≤◌}
use Rattle.line_lanes.specs.Lines.{AgreeFrom}
use Rattle.line_lanes.proofs.kernels.first_apart.Given as goal

abbrev pub invariant-loop-at : goal.invariant-loop-at
invariant-loop-at l = record { least : l.from ≤ l.at; same : AgreeFrom l.a l.b l.from l.at }
