use Rattle.cx_service.proofs.Seeing.{read_seen}
use Rattle.cx_service.proofs.seen.reads_keep_what_was_seen.Goals as goal

pub returns : goal.returns
returns g c = λ r place before after caller was keeps. read_seen r place before after caller was keeps
