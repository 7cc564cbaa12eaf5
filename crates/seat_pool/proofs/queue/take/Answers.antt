use Rattle.seat_pool.proofs.Poolings.{learns, pops, taken}
use Rattle.seat_pool.proofs.queue.take.Goals as goal

pub pop_as-requires-clause-rule : goal.pop_as-requires-clause-rule
pop_as-requires-clause-rule g c = (pops _ c.args.service.now _ c.requires.1 c.requires.2, learns _ c.args.service.now _ c.requires.1)

pub returns-clause-caller : goal.returns-clause-caller
returns-clause-caller g c = taken c.args.service.now _ _ c.pop_as.result _ c.requires.1 c.pop_as.ensures.rule
