use Rattle.doc_model.proofs.AfterSteps.{rise_after_step}
use Rattle.doc_model.proofs.plain.Pairs.step.Goals as goal

pub invariant_of-self : goal.invariant_of-self
invariant_of-self c = rise_after_step _ _ _ _ _ c.self.invariant c.step.ensures.next_is c.step.ensures.err
