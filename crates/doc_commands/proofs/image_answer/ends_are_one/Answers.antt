use Rattle.doc_commands.proofs.Ends.{one_end}
use Rattle.doc_commands.proofs.image_answer.ends_are_one.Goals as goal

pub returns : goal.returns
returns c = one_end
