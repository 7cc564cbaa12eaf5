use Rattle.std.proofs.Common.{◌∙◌, sym}
use Rattle.line_lanes.proofs.DifferingLines.{gathered_differ}
use Rattle.line_lanes.proofs.kernels.differ_in_sixteen.Goals as goal

pub returns : goal.returns
returns c = gathered_differ c.args.a c.args.b (c.fits-a.0 ∙ sym c.fits-b.0)
