use Rattle.core_reach.proofs.Updating.{reaches_answers}
use Rattle.core_reach.proofs.updates.linked_updates_can_be_answered.Goals as goal

-- the law's clause: some run answers each linked entry of a caller
pub returns : goal.returns
returns c = reaches_answers
