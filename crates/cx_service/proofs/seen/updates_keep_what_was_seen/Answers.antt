use Rattle.cx_service.proofs.Seeing.{update_sees}
use Rattle.cx_service.proofs.seen.updates_keep_what_was_seen.Goals as goal

pub returns : goal.returns
returns g c = λ r op reply place before updated caller was done. update_sees r op reply place before updated caller was done
