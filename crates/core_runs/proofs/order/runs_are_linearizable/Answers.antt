use Rattle.core_runs.proofs.Ordering.{run_linearizable}
use Rattle.core_runs.proofs.order.runs_are_linearizable.Goals as goal

pub returns : goal.returns
returns c = run_linearizable
