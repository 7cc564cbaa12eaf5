use Rattle.table_invariant.proofs.Keeps.{event_recorded}
use Rattle.table_invariant.proofs.laws.events_are_recorded.Goals as goal

pub returns : goal.returns
returns c = event_recorded
