use Rattle.std.proofs.Common.{arith, inl, refl}
use Rattle.recovery.specs.Crashes.{left_root}
use Rattle.c_images.proofs.Written.{headed, left_of, taken_up}
use Rattle.recovery.specs.Kept.{IsKeptBy}
use Rattle.c_images.proofs.laws.written_images_are_taken_up.Goals as goal

pub returns-clause-headed : goal.returns-clause-headed
returns-clause-headed g c = λ r kind choice words known whole written.
    let long = written.left.long in
    headed 1 kind r.callers r.lines (left_root r choice) words written.head (inl refl) known (omega (arith, long)) whole.some whole.few whole.enough whole.small

pub returns-clause-taken_up : goal.returns-clause-taken_up
returns-clause-taken_up g c = λ table seats r kind choice words answer opened leaves written answered.
    let o = table.object in
    taken_up (g.O.Object.version_number o) (g.O.Object.lawful o) (g.O.Object.old_format o) words
    (IsKeptBy g.O.Object.line_count g.O.Object.lawful g.O.Object.step table seats r choice)
    (λ image says recovered is. c.closed_tables_recover.ensures table seats r choice image recovered opened leaves (left_of kind choice r words image written says) is)
    (λ base kept. kept.again.numbers) answer answered
