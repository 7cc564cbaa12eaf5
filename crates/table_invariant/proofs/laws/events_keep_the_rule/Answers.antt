use Rattle.table_invariant.proofs.Keeps.{event_held}
use Rattle.table_invariant.proofs.laws.events_keep_the_rule.Goals as goal

pub returns : goal.returns
returns c = event_held
