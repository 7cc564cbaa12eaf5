use Rattle.std.proofs.Common.{◌+◌, ◌*◌, length, ap, sym, ◌∙◌, arith}
use Rattle.replica.specs.Copies.{CopiesOn, CopiesOver, skips_by, skips_piece}
use Rattle.replica.proofs.CopySteps.{on_ok_by}
use Rattle.replica.proofs.LineCopies.{on_skipped}
use Rattle.replica.proofs.copy.copy_unskipped.Goals as goal

pub returns-then-is_skipped-clause-copied : goal.returns-then-is_skipped-clause-copied
returns-then-is_skipped-clause-copied g c = λ region first below copied.
    let from = 8 * c.args.line in
    let skipped = c.if-is_skipped.ensures in
    on_skipped (skips_by c.args.all c.args.marks.now) from (from + length c.args.held_words.now) region first c.args.seat.now.known (omega arith)
    (λ i least under. ap (skips_piece c.args.all c.args.marks.now) (c.requires.piece i least under ∙ sym c.piece_of.ensures) ∙ sym skipped) copied

pub returns-then-is_skipped-clause-ends : goal.returns-then-is_skipped-clause-ends
returns-then-is_skipped-clause-ends g c = record { counts = omega arith; bound = omega arith; limit = tt }

pub returns-clause-copied : goal.returns-clause-copied
returns-clause-copied g c =
    let skips = skips_by c.args.all c.args.marks.now in
    let from = 8 * c.args.line in
    let to = from + length c.args.held_words.now in
    let before = c.args.seat.now.known in
    let after = c.copy_piece.new.seat.known in
    on_ok_by c.copy_piece.result (CopiesOn from to before after) (CopiesOver skips from to before after)
    (λ on region first below copied. on skips region first below
    (λ i least under. ap (skips_piece c.args.all c.args.marks.now) (c.requires.piece i least under ∙ sym c.piece_of.ensures) ∙ sym c.if-is_skipped.ensures) copied)
    c.copy_piece.ensures.copied
