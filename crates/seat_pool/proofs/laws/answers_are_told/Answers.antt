use Rattle.seat_pool.proofs.Telling.{are_told}
use Rattle.seat_pool.proofs.laws.answers_are_told.Goals as goal

pub returns : goal.returns
returns g c = are_told c.args.service.now
