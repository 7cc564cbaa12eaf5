use Rattle.c_sessions.proofs.Gatherings.{begins, opens, starts}
use Rattle.c_sessions.proofs.handover.open_for.Goals as goal

pub ruled-requires-clause-rule : goal.ruled-requires-clause-rule
ruled-requires-clause-rule g c = begins

pub try_push_as-requires-clause-rule : goal.try_push_as-requires-clause-rule
try_push_as-requires-clause-rule g c = opens _ _ _ _ c.in-Ok.ensures.3

pub try_pop_as-requires-clause-rule : goal.try_pop_as-requires-clause-rule
try_pop_as-requires-clause-rule g c = starts _ _ _ c.in-Ok-try_push_as.ensures.rule
