use Rattle.core_replica.proofs.ChainLaws.{chain_one}
use Rattle.core_replica.proofs.chain.chain_is_the_one_code.Goals as goal

pub returns : goal.returns
returns c = chain_one
