use Rattle.core_queue.proofs.Opening.{opening_lawful}
use Rattle.core_queue.proofs.kinds.opening_has_the_queue.Goals as goal

pub returns : goal.returns
returns c = opening_lawful
