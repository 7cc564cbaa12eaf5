use Rattle.cx_core.specs.LawfulRing.{Ring}
use Rattle.core_queue.proofs.RingLaws as law
use Rattle.cx_core.proofs.Putting.{stepped}
use Rattle.core_queue.proofs.frames.ring_framed.Goals as goal

pub returns : goal.returns
returns c = λ instance before after step shape ring.
    stepped _ _ (Ring instance) before after step
    (λ at v caller l l' there off same. law.ring_framed instance before.words before.locals at v caller l l' shape ring there off same)
