use Rattle.core_runs.proofs.Keeps.{opening_lawful, run_kept}
use Rattle.core_runs.proofs.runs.runs_are_lawful.Goals as goal

pub returns : goal.returns
returns c = λ instance events to some few within placed run. run_kept instance _ events to (opening_lawful instance some few within placed) run
