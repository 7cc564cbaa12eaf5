use Rattle.core_queue.proofs.StayLaws.{offered_stay}
use Rattle.core_queue.proofs.sets.offered_sets_stay.Goals as goal

pub returns : goal.returns
returns c = offered_stay
