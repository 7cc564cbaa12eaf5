use Rattle.seat_pool.proofs.Poolings.{gives, learns}
use Rattle.seat_pool.proofs.queue.give.Goals as goal

pub push_as-requires-clause-rule : goal.push_as-requires-clause-rule
push_as-requires-clause-rule g c = (gives _ _ c.args.service.now _ _ c.requires.pass.1 c.requires.pass.2 c.requires.caller.2 c.requires.caller.0 c.requires.caller.1, learns _ c.args.service.now _ c.requires.pass.1)
