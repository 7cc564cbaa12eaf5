use Rattle.core_queue.proofs.StayLaws.{kept_live}
use Rattle.core_queue.proofs.live.protected_tickets_are_live.Goals as goal

pub returns : goal.returns
returns c = kept_live
