use Rattle.cx_core.specs.Lawful.{Links}
use Rattle.core_queue.proofs.LinkLaws as law
use Rattle.cx_core.proofs.Putting.{stepped}
use Rattle.core_queue.proofs.frames.links_framed.Goals as goal

pub returns : goal.returns
returns c = λ instance history before after step links.
    stepped _ _ (λ words _. Links instance history words) before after step
    (λ at v caller l l' there off same. law.links_framed instance history before.words at v links off)
