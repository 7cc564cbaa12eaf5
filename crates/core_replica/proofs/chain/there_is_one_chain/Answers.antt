use Rattle.core_replica.proofs.ChainLaws.{chain_only}
use Rattle.core_replica.proofs.chain.there_is_one_chain.Goals as goal

pub returns : goal.returns
returns c = λ instance s codes others root. chain_only s codes others root.apart
