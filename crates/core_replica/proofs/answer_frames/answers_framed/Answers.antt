use Rattle.cx_core.specs.LawfulAnswers.{Answers}
use Rattle.cx_core.proofs.Putting.{stepped}
use Rattle.core_replica.proofs.AnswerLaws as law
use Rattle.core_replica.proofs.answer_frames.answers_framed.Goals as goal

pub returns : goal.returns
returns c = λ instance history before after step answers.
    stepped _ _ (Answers instance history) before after step
    (λ at v caller l l' there off same. law.answers_framed instance history before.words before.locals at v caller l l' answers there off same)
