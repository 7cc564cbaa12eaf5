use Rattle.std.proofs.Common.{ap, ◌∙◌, ◌||◌, Bool, slice_index_or, false}
use Rattle.line_lanes.proofs.TouchedLines.{lines_touched, lines_within}
use Rattle.line_lanes.proofs.kernels.mark_eight.Goals as goal

pub mark_lines-requires : goal.mark_lines-requires
mark_lines-requires c = lines_within c.args.addresses _ c.fits-addresses.0 c.requires

pub returns : goal.returns
returns c line within =
    c.mark_lines.ensures line within ∙ ap (λ (b : Bool). slice_index_or c.args.out.now line false || b) (lines_touched c.args.addresses line c.fits-addresses.0)
