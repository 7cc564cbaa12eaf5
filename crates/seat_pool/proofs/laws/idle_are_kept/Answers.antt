use Rattle.seat_pool.proofs.Telling.{idle_kept}
use Rattle.seat_pool.proofs.laws.idle_are_kept.Goals as goal

pub returns : goal.returns
returns g c = idle_kept c.args.service.now
