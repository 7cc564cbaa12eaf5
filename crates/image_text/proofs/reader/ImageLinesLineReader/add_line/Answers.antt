use Rattle.std.proofs.Common.{◌≡◌, Some, sym, ap, ◌∙◌}
use Rattle.image_text.specs.ImageTexts.{KeepsImageLimits}
use Rattle.image_text.specs.Reading.{pair_of}
use Rattle.image_text.proofs.LastPairs.{head_keeps, pair_keeps}
use Rattle.image_text.proofs.reader.ImageLinesLineReader.add_line.Goals as goal

pub returns-in-Some-clause-keeps : goal.returns-in-Some-clause-keeps
returns-in-Some-clause-keeps c = λ _. head_keeps c.args.line.now c.in-Some.head (sym c.read_head.ensures ∙ c.in-Some.is)

pub returns-in-Some-read_root-clause-keeps : goal.returns-in-Some-read_root-clause-keeps
returns-in-Some-read_root-clause-keeps c = λ kept.
    let begun : KeepsImageLimits c.args.self.now = kept in
    rw c.with_root.ensures (rw c.in-Begun.is at begun c.in-Some-read_root.root)

pub returns-in_ok-push-in-Whole-clause-keeps : goal.returns-in_ok-push-in-Whole-clause-keeps
returns-in_ok-push-in-Whole-clause-keeps c = λ kept.
    let whole : KeepsImageLimits c.args.self.now = kept in
    let found : pair_of c.in-Whole.image.pairs c.in-Whole.image.count c.args.line.now ≡ Some c.in-Some-read_pair.pair =
    ap (λ ps. pair_of ps c.in-Whole.image.count c.args.line.now) (sym c.as_slice.ensures) ∙ sym c.read_pair.ensures ∙ c.in-Some-read_pair.is in
    rw c.in_ok-push-in-Whole.ensures.ok (pair_keeps c.in-Whole.image c.args.line.now c.in-Some-read_pair.pair found (rw c.in-Whole.is at whole))
