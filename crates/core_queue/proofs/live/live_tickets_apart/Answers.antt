use Rattle.core_queue.proofs.LiveLaws.{live_apart}
use Rattle.core_queue.proofs.live.live_tickets_apart.Goals as goal

pub returns : goal.returns
returns c = λ instance s law t u e f one other same. live_apart instance s law t u e f one.linked other.linked one.live other.live same
