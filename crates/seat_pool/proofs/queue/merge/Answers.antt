use Rattle.seat_pool.proofs.Poolings.{merges}
use Rattle.seat_pool.proofs.queue.merge.Goals as goal

pub absorb-requires-clause-rule : goal.absorb-requires-clause-rule
absorb-requires-clause-rule g c = merges _ _ c.args.service.now _ _ c.requires.pass.1 c.requires.pass.2
