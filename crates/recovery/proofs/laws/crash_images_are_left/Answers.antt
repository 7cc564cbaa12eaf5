use Rattle.recovery.proofs.Leaving.{left_crash}
use Rattle.recovery.proofs.laws.crash_images_are_left.Goals as goal

pub returns : goal.returns
returns g c = λ table seats r choice image opened leaves left. left_crash g.O.Object.line_count g.O.Object.lawful g.O.Object.step g.O.Object.only_reads table seats r choice image opened leaves left
