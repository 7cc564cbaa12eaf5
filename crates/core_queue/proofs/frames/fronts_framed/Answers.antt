use Rattle.cx_core.specs.Lawful.{Fronts}
use Rattle.core_queue.proofs.FrontLaws as law
use Rattle.cx_core.proofs.Putting.{stepped}
use Rattle.core_queue.proofs.frames.fronts_framed.Goals as goal

pub returns : goal.returns
returns c = λ instance history before after step fronts.
    stepped _ _ (Fronts instance history) before after step
    (λ at v caller l l' there off same. law.fronts_framed instance history before.words before.locals at v caller l l' fronts there off same)
