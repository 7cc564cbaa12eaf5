use Rattle.core_replica.proofs.ChainLaws.{chain_pinned}
use Rattle.core_replica.proofs.chain.chain_is_pinned.Goals as goal

pub returns : goal.returns
returns c = λ instance s codes code shape locks root. chain_pinned instance s root shape locks codes code
