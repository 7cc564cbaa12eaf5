use Rattle.c_images.proofs.Same.{answered_exactly}
use Rattle.c_images.proofs.laws.words_are_answered_exactly.Goals as goal

pub returns : goal.returns
returns g c = λ object words answer headed answered some.
    let o = g.O.Object in
    answered_exactly (o.version_number object) (o.lawful object) (o.old_format object) (c.recovering_is_exact.ensures object) words headed answer answered some
