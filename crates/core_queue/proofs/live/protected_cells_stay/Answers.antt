use Rattle.core_queue.proofs.StayLaws.{kept_stays}
use Rattle.core_queue.proofs.live.protected_cells_stay.Goals as goal

pub returns : goal.returns
returns c = kept_stays
