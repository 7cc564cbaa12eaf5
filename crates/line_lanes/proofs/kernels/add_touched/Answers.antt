use Rattle.std.proofs.Common.{◌≡◌, ◌*◌, ◌/◌, length, arith}
use Rattle.line_lanes.proofs.TouchedLines.{eight_within, marked_more, marked_whole}
use Rattle.line_lanes.proofs.kernels.add_touched.Goals as goal

pub mark_eight-requires : goal.mark_eight-requires
mark_eight-requires c k d inside =
    let same : length c.loop-eight.out ≡ length c.args.out.now = c.loop-eight.auto.out in
    let here = eight_within c.args.addresses.now (8 * c.loop-eight.eight) (length c.args.out.now) c.requires k d inside in
    omega arith

pub loop-eight-preserved : goal.loop-eight-preserved
loop-eight-preserved c line within =
    marked_more c.args.addresses.now c.loop-eight.eight line _ _ _ (c.loop-eight.invariant line (omega arith)) (c.mark_eight.ensures line within)

pub returns : goal.returns
returns c line within =
    marked_whole c.args.addresses.now (8 * c.loop-eight.eight) (8 * (length c.args.addresses.now / 8)) line _ _ _ (omega arith) (c.loop-eight.invariant line (omega arith)) (c.mark_left.ensures line within)
