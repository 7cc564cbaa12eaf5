use Rattle.cx_core.specs.LawfulRoot.{Root}
use Rattle.cx_core.proofs.Putting.{stepped}
use Rattle.core_replica.proofs.RootLaws as law
use Rattle.core_replica.proofs.root_frames.root_framed.Goals as goal

pub returns : goal.returns
returns c = λ instance before after step some locks root.
    stepped _ _ (Root instance) before after step
    (λ at v caller l l' there off same. law.root_framed instance before.words before.locals caller l some locks root there at v l' off same)
