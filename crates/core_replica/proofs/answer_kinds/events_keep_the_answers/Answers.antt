use Rattle.core_replica.proofs.AnswerKinds.{event_kept}
use Rattle.core_replica.proofs.answer_kinds.events_keep_the_answers.Goals as goal

pub returns : goal.returns
returns c = λ kind instance history before after caller grounds answers made. event_kept instance history _ before after grounds answers made
