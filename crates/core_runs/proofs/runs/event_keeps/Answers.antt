use Rattle.core_runs.proofs.Keeps.{event_kept}
use Rattle.core_runs.proofs.runs.event_keeps.Goals as goal

pub returns : goal.returns
returns c = λ instance before after event law made. event_kept instance event before after law made
