use Rattle.core_runs.proofs.Counting.{counts_run}
use Rattle.core_runs.proofs.order.steps_are_counted.Goals as goal

pub returns : goal.returns
returns c = λ instance events from to caller l l' run. counts_run instance from events to caller l l' run
