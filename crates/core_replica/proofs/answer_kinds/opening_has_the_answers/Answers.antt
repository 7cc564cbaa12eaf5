use Rattle.core_replica.proofs.AnswerOpening.{opening_answers}
use Rattle.core_replica.proofs.answer_kinds.opening_has_the_answers.Goals as goal

pub returns : goal.returns
returns c = opening_answers
