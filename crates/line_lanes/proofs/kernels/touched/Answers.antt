use Rattle.std.proofs.Common.{◌≡◌, ◌<◌, slice_index_or, false, length, arith}
use Rattle.std.proofs.lemmas.Grind.{common_steps}
use Rattle.line_lanes.proofs.TouchedLines.{marked_alone}
use Rattle.line_lanes.proofs.kernels.touched.Goals as goal

pub returns : goal.returns
returns c line within =
    let same : line < length c.fill.new.self = omega (arith, c.add_touched.auto.out) in
    let none : slice_index_or c.fill.new.self line false ≡ false = grind (arith, common_steps, c.fill.ensures.clones) in
    marked_alone c.args.addresses.now line _ _ none (c.add_touched.ensures line within)
