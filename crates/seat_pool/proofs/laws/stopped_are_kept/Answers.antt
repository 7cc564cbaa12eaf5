use Rattle.seat_pool.proofs.Telling.{are_kept}
use Rattle.seat_pool.proofs.laws.stopped_are_kept.Goals as goal

pub returns : goal.returns
returns g c = are_kept c.args.service.now
