use Rattle.cx_service.proofs.Seeing.{read_behind}
use Rattle.cx_service.proofs.seen.reads_stand_behind_what_was_seen.Goals as goal

pub returns : goal.returns
returns g c = λ r op place before after read. read_behind r op before after place read
