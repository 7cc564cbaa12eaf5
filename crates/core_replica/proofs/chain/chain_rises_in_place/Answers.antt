use Rattle.core_replica.proofs.ChainLaws.{chain_rises}
use Rattle.core_replica.proofs.chain.chain_rises_in_place.Goals as goal

pub returns : goal.returns
returns c = λ instance s first rest root. chain_rises instance s root first rest
