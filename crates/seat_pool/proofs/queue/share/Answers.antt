use Rattle.seat_pool.proofs.Poolings.{forks}
use Rattle.seat_pool.proofs.queue.share.Goals as goal

pub another-requires-clause-rule : goal.another-requires-clause-rule
another-requires-clause-rule g c = forks _ c.args.service.now _ c.requires.1 c.requires.2
