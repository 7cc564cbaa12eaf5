use Rattle.std.proofs.Common.{◌↔◌, IfOk, IsTrue, subst}
use Rattle.cx_base.specs.Tally.{IsTally}
use Rattle.event_tests.proofs.full_steps.is_lawful.Goals as goal

-- the answer of the check is whether the words from 1168 on are an image of Tally
pub returns : goal.returns
returns c = subst (λ words. IfOk c.check.result (λ yes. IsTrue yes ↔ IsTally words)) c.split_at.ensures.back c.check.ensures
