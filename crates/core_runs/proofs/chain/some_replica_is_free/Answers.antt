use Rattle.core_replica.proofs.FreeLaws.{some_free}
use Rattle.core_runs.proofs.chain.some_replica_is_free.Goals as goal

pub returns : goal.returns
returns c = λ instance s caller l law at none. some_free instance s.words s.locals caller l law.shape law.locks at none
