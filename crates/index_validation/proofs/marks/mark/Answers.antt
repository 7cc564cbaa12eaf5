use Rattle.index_validation.proofs.Marking.{marks_line, taken_past, taken_marked}
use Rattle.index_validation.proofs.marks.mark.Goals as goal
use Rattle.index_validation.proofs.marks.mark.Goals.{then-at-marks-via-then-at-marks, then-at-marks-via-else-at-marks+then-marks-at}

pub returns-then-at-marks : goal.returns-then-at-marks
returns-then-at-marks c =
    elim c.then-at-marks.branch [
      | then-at-marks-via-then-at-marks w ↦ taken_past c.args.marks.now c.args.line w.if-at-marks.true
      | then-at-marks-via-else-at-marks+then-marks-at w ↦ taken_marked c.args.marks.now c.args.line w.if-marks-at.true
    ]

pub returns : goal.returns
returns c = (c.if-at-marks.false, marks_line c.args.marks.now c.args.line c.if-at-marks.false c.if-marks-at.false)
