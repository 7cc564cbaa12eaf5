use Rattle.fifo_object.proofs.Order.{keeps}
use Rattle.fifo_object.proofs.queue_laws.queues_keep_their_order.Goals as goal

pub returns : goal.returns
returns c = keeps
