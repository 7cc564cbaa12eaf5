use Rattle.core_replica.proofs.StoreLaws.{chain_left}
use Rattle.core_runs.proofs.chain.events_leave_the_chain.Goals as goal

pub returns : goal.returns
returns c = λ instance before after event codes code law. chain_left instance before after event codes code law.shape law.locks law.root
