use Rattle.recovery.proofs.Exact.{exactly}
use Rattle.recovery.proofs.exactness.recovering_is_exact.Goals as goal

pub returns : goal.returns
returns g c = λ object image answer is some. exactly (g.O.Object.version_number object) (g.O.Object.lawful object) (g.O.Object.old_format object) image answer is some
