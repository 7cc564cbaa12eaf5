use Rattle.core_runs.proofs.Ordering.{linearizable}
use Rattle.core_runs.proofs.order.lawful_states_go_on_linearizable.Goals as goal

pub returns : goal.returns
returns c = linearizable
