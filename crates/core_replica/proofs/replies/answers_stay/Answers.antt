use Rattle.core_replica.proofs.AnswerLaws.{reply_stays}
use Rattle.core_replica.proofs.replies.answers_stay.Goals as goal

pub returns : goal.returns
returns c = λ instance history more s caller i l x answers at there. reply_stays instance history more x.ticket x.reply ((answers.each caller l at).entries i x there).reply
