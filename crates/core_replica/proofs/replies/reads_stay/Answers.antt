use Rattle.std.proofs.Common.{arith, sym, ◌∙◌}
use Rattle.core_replica.proofs.AnswerLaws.{after_stays}
use Rattle.core_replica.proofs.replies.reads_stay.Goals as goal

pub returns : goal.returns
returns c = λ instance history more s caller i l x within answers at there.
    let read = (answers.each caller l at).reads i x there in
    read.reply ∙ sym (after_stays instance history more x.place x.op (omega (arith, read.durable)))
