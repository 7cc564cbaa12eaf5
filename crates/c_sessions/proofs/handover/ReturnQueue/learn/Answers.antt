use Rattle.c_sessions.proofs.Gatherings.{learns, with_others}
use Rattle.c_sessions.proofs.handover.ReturnQueue.learn.Goals as goal

pub learn_as-requires-clause-rule : goal.learn_as-requires-clause-rule
learn_as-requires-clause-rule g c = learns _ c.requires.1 _ c.requires.2

pub returns-clause-all : goal.returns-clause-all
returns-clause-all g c = with_others _ c.learn_as.ensures.rule.0 c.learn_as.ensures.rule.1
