use Rattle.core_runs.proofs.Ordering.{in_order}
use Rattle.core_runs.proofs.order.moments_keep_real_time_order.Goals as goal

pub returns : goal.returns
returns c = λ instance moment to events a b p q law run answered ahead at_a at_b. in_order instance moment to events law run a b p q answered ahead at_a at_b
