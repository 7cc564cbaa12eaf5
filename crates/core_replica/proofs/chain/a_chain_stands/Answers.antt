use Rattle.core_replica.proofs.ChainLaws.{chain_stands}
use Rattle.core_replica.proofs.chain.a_chain_stands.Goals as goal

pub returns : goal.returns
returns c = chain_stands
