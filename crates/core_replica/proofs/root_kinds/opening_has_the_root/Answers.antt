use Rattle.core_replica.proofs.RootOpening.{opening_root}
use Rattle.core_replica.proofs.root_kinds.opening_has_the_root.Goals as goal

pub returns : goal.returns
returns c = opening_root
