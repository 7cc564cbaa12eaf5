use Rattle.cx_core.proofs.HistoryLemmas.{full_stays}
use Rattle.cx_core.proofs.history.full_images_stay.Goals as goal

pub returns : goal.returns
returns c = full_stays
