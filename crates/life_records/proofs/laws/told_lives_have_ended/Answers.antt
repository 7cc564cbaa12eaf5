use Rattle.life_records.proofs.Endings.{life_ended}
use Rattle.life_records.proofs.laws.told_lives_have_ended.Goals as goal

pub returns : goal.returns
returns g c = life_ended
