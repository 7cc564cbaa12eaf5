use Rattle.core_replica.proofs.Opening.{opening_locks, opening_regions}
use Rattle.core_replica.proofs.kinds.opening_has_the_replicas.Goals as goal

pub returns : goal.returns
returns c = λ instance some placed. record { locks = opening_locks instance.callers instance.base some; regions = opening_regions instance some placed }
