use Rattle.std.proofs.Common.{rules}
use Rattle.c_sessions.proofs.Gatherings.{gives}
use Rattle.c_sessions.proofs.handover.ReturnQueue.hand_in.Goals as goal

pub try_push_as-requires-clause-rule : goal.try_push_as-requires-clause-rule
try_push_as-requires-clause-rule g c = gives _ _ _ _ (search rules) (search rules)
