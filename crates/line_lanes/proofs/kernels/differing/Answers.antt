use Rattle.std.proofs.Common.{arith}
use Rattle.line_lanes.specs.Lines.{DiffersInLine}
use Rattle.line_lanes.proofs.DifferingLines.{line_differs}
use Rattle.line_lanes.proofs.LineMarks.{marks_more}
use Rattle.line_lanes.proofs.kernels.differing.Goals as goal

pub loop-line-preserved : goal.loop-line-preserved
loop-line-preserved c =
    let here = line_differs c.args.a.now c.args.b.now c.loop-line.line (omega arith) (omega arith) in
    marks_more (DiffersInLine c.args.a.now c.args.b.now) c.loop-line.out c.loop-line.line c.differ.result (omega arith) c.loop-line.invariant (λ t. here.0 (c.differ.ensures.0 t), λ d. c.differ.ensures.1 (here.1 d))
