use Rattle.std.proofs.Common.{◌∙◌, arith, sym}
use Rattle.std.proofs.lemmas.Bool.{false≢true}
use Rattle.line_lanes.proofs.DifferingLines.{sixteen_agree}
use Rattle.line_lanes.proofs.kernels.same_sixteens.Goals as goal

pub loop-at-preserved : goal.loop-at-preserved
loop-at-preserved c = record {
  least = omega arith;
  most = omega arith;
  same = sixteen_agree c.args.a.now c.args.b.now c.args.from c.loop-at.at (λ d. false≢true (sym c.if-differs.false ∙ c.differ_in_sixteen-differs.ensures.1 d)) c.loop-at.invariant.same;
}
