use Rattle.life_records.proofs.Joining.{works_more}
use Rattle.life_records.proofs.laws.works_go_on.Goals as goal

pub returns : goal.returns
returns g c = works_more
