use Rattle.core_replica.proofs.ChainLaws.{chain_image}
use Rattle.core_runs.proofs.chain.chains_name_images.Goals as goal

pub returns : goal.returns
returns c = λ instance s codes code law is among. chain_image instance s law.root law.shape law.locks law.history codes code law.regions is among
