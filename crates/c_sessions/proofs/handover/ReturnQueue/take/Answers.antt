use Rattle.std.proofs.Common.{ap, ◌∙◌}
use Rattle.c_sessions.specs.declared.rule.Knows.{Knows}
use Rattle.c_sessions.proofs.Gatherings.{takes}
use Rattle.c_sessions.proofs.handover.ReturnQueue.take.Goals as goal

pub try_pop_as-requires-clause-rule : goal.try_pop_as-requires-clause-rule
try_pop_as-requires-clause-rule g c = takes _ c.requires.1 _ (ap (λ (v : Knows _). v.home) c.loop.invariant.same ∙ c.requires.2)
