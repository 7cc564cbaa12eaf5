use Rattle.std.proofs.Common.{ap}
use Rattle.c_sessions.specs.declared.rule.Knows.{Knows}
use Rattle.c_sessions.proofs.Gatherings.{parts}
use Rattle.c_sessions.proofs.handover.ReturnQueue.share.Goals as goal

pub another-requires-clause-rule : goal.another-requires-clause-rule
another-requires-clause-rule g c = parts _ c.args.service.now _ (ap (λ (v : Knows _). v.home) c.requires.is)
