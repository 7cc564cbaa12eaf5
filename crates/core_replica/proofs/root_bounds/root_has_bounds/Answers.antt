use Rattle.core_replica.proofs.RootLimits.{root_bounds}
use Rattle.core_replica.proofs.root_bounds.root_has_bounds.Goals as goal

pub returns : goal.returns
returns c = root_bounds
