use Rattle.cx_service.proofs.Seeing.{update_behind}
use Rattle.cx_service.proofs.seen.updates_stand_behind_what_was_seen.Goals as goal

pub returns : goal.returns
returns g c = λ r op place before after updated. update_behind r op before after place updated
