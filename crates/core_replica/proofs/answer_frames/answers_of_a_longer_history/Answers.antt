use Rattle.std.proofs.Common.{refl}
use Rattle.core_replica.proofs.AnswerLaws.{answers_longer}
use Rattle.core_replica.proofs.answer_frames.answers_of_a_longer_history.Goals as goal

pub returns : goal.returns
returns c = λ instance history more s within answers. answers_longer instance history _ more s.words s.locals refl within answers
