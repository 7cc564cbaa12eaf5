use Rattle.std.proofs.Common.{Ok}
use Rattle.c_images.proofs.laws.written_images_tell_outcomes.Goals as goal

pub returns : goal.returns
returns g c = λ table seats r kind choice caller words base opened leaves written taken below.
    c.kept_bases_tell_outcomes.ensures table seats r choice caller base opened leaves
    (c.written_images_are_taken_up.ensures.taken_up table seats r kind choice words (Ok base) opened leaves written taken) below
