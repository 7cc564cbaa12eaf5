use Rattle.core_queue.proofs.Keeps.{queue_event_kept}
use Rattle.core_queue.proofs.kinds.events_keep_the_queue.Goals as goal

pub returns : goal.returns
returns c = λ kind instance history before after caller law bounds made. queue_event_kept instance history _ before after law bounds made
