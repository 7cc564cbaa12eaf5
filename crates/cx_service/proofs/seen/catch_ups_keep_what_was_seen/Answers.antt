use Rattle.cx_service.proofs.Seeing.{catch_up_sees}
use Rattle.cx_service.proofs.seen.catch_ups_keep_what_was_seen.Goals as goal

pub returns : goal.returns
returns g c = λ r other place before caught caller was caught_up. catch_up_sees r other place before caught caller was caught_up
