use Rattle.seat_pool.proofs.Telling.{are_shown}
use Rattle.seat_pool.proofs.laws.reads_are_shown.Goals as goal

pub returns : goal.returns
returns g c = are_shown c.args.service.now
