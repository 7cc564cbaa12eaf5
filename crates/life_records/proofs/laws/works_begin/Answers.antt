use Rattle.life_records.proofs.Joining.{works_none}
use Rattle.life_records.proofs.laws.works_begin.Goals as goal

pub returns : goal.returns
returns g c = works_none
