use Rattle.cx_service.proofs.Seeing.{answered_seen}
use Rattle.cx_service.proofs.seen.answered_updates_are_seen.Goals as goal

pub returns : goal.returns
returns g c = λ r op before after answer. answered_seen r op before after answer
