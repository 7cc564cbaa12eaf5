use Rattle.core_replica.proofs.Replicas.{replicas_event_kept}
use Rattle.core_replica.proofs.kinds.events_keep_the_replicas.Goals as goal

pub returns : goal.returns
returns c = λ kind instance history before after caller shape merged law made. replicas_event_kept instance history _ before after shape merged law made
