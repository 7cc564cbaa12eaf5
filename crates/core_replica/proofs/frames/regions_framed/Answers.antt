use Rattle.cx_core.specs.LawfulRegions.{Regions}
use Rattle.cx_core.proofs.Putting.{stepped}
use Rattle.core_replica.proofs.RegionLaws as law
use Rattle.core_replica.proofs.frames.regions_framed.Goals as goal

pub returns : goal.returns
returns c = λ instance history before after step regions.
    stepped _ _ (Regions instance history) before after step
    (λ at v caller l l' there off same. law.regions_framed instance history before.words before.locals at v caller l l' regions there off same)
