use Rattle.cx_service.proofs.Seeing.{driven_seen}
use Rattle.cx_service.proofs.seen.driven_entries_are_seen.Goals as goal

pub returns : goal.returns
returns g c = λ r place before after answer low done. driven_seen r place before after answer low done
