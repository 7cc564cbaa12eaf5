use Rattle.core_replica.proofs.RootKeeps.{root_event_kept}
use Rattle.core_replica.proofs.root_kinds.events_keep_the_root.Goals as goal

pub returns : goal.returns
returns c = root_event_kept
