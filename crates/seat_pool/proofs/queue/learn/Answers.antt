use Rattle.crossbeam_queue.specs.Passes.{view}
use Rattle.seat_pool.proofs.Poolings.{learns, within}
use Rattle.seat_pool.proofs.queue.learn.Goals as goal

pub learn_as-requires-clause-rule : goal.learn_as-requires-clause-rule
learn_as-requires-clause-rule g c = learns _ c.args.service.now _ c.requires.1

pub returns-clause-room : goal.returns-clause-room
returns-clause-room g c = within c.args.service.now (view c.args.pass.now) c.learn_as.ensures.rule.0 c.requires.1 c.learn_as.ensures.rule.1
