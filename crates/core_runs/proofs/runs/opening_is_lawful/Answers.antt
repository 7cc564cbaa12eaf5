use Rattle.core_runs.proofs.Keeps.{opening_lawful}
use Rattle.core_runs.proofs.runs.opening_is_lawful.Goals as goal

pub returns : goal.returns
returns c = opening_lawful
