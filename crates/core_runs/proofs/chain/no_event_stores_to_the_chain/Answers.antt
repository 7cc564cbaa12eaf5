use Rattle.core_replica.proofs.StoreLaws.{chain_leaves}
use Rattle.core_runs.proofs.chain.no_event_stores_to_the_chain.Goals as goal

pub returns : goal.returns
returns c = λ instance before after event codes code law. chain_leaves instance before after event codes code law.shape law.locks law.root
