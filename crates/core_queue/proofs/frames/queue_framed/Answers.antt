use Rattle.core_queue.specs.Queue.{QueueLawful}
use Rattle.core_queue.proofs.QueueFrames.{queue_put}
use Rattle.cx_core.proofs.Putting.{stepped}
use Rattle.core_queue.proofs.frames.queue_framed.Goals as goal

pub returns : goal.returns
returns c = λ instance history before after step law.
    stepped _ _ (QueueLawful instance history) before after step
    (λ at v caller l l' there off same. queue_put instance history before.words before.locals at v caller l l' law there off same)
