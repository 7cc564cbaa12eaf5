use Rattle.core_replica.proofs.ReplyLaws.{reply_own}
use Rattle.core_replica.proofs.replies.answers_are_to_own_entries.Goals as goal

pub returns : goal.returns
returns c = λ instance history s caller i l x tickets answers at there. reply_own instance history s.words s.locals caller l answers at tickets i x there
