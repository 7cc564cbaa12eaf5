use Rattle.core_reach.proofs.Updating.{reaches_update}
use Rattle.core_reach.proofs.updates.updates_can_be_answered.Goals as goal

-- the law's clause: some run links an update of a caller and answers it
pub returns : goal.returns
returns c = reaches_update
