use Rattle.core_queue.proofs.LiveLaws.{few_live}
use Rattle.core_queue.proofs.live.callers_have_few_live_tickets.Goals as goal

pub returns : goal.returns
returns c = few_live
