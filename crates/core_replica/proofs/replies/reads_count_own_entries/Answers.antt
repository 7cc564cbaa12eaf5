use Rattle.core_replica.proofs.ReplyLaws.{read_counts}
use Rattle.core_replica.proofs.replies.reads_count_own_entries.Goals as goal

pub returns : goal.returns
returns c = λ instance history s caller n i l x y answers at there own. read_counts instance history s.words s.locals caller l answers at n i x y there own
