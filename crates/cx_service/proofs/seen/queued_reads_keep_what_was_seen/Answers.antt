use Rattle.cx_service.proofs.Seeing.{read_sees}
use Rattle.cx_service.proofs.seen.queued_reads_keep_what_was_seen.Goals as goal

pub returns : goal.returns
returns g c = λ r op reply place before done caller was read. read_sees r op reply place before done caller was read
