use Rattle.core_replica.proofs.ChainLaws.{chain_image}
use Rattle.core_replica.proofs.chain.chain_names_images.Goals as goal

pub returns : goal.returns
returns c = λ instance history s codes code shape locks regions root. chain_image instance s root shape locks history codes code regions
