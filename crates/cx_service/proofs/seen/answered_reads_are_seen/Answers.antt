use Rattle.cx_service.proofs.Seeing.{answered_read_seen}
use Rattle.cx_service.proofs.seen.answered_reads_are_seen.Goals as goal

pub returns : goal.returns
returns g c = λ r op before after seen read. answered_read_seen r op before after seen read
