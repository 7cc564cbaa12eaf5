use Rattle.core_replica.proofs.RegionLaws.{regions_longer}
use Rattle.core_replica.proofs.frames.regions_of_a_longer_history.Goals as goal

pub returns : goal.returns
returns c = λ instance history longer s continues regions. regions_longer instance history longer s.words s.locals continues regions
