use Rattle.core_runs.proofs.Ordering.{keeps_real_time}
use Rattle.core_runs.proofs.order.runs_keep_real_time_order.Goals as goal

pub returns : goal.returns
returns c = keeps_real_time
