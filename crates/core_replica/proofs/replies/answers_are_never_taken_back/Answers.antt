use Rattle.core_replica.proofs.StillLaws.{has_run}
use Rattle.core_replica.proofs.replies.answers_are_never_taken_back.Goals as goal

pub returns : goal.returns
returns c = λ instance events from to caller l run there. has_run instance events from to caller l run there
