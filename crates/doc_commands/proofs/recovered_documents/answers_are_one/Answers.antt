use Rattle.doc_commands.proofs.OneAnswer.{answers_one}
use Rattle.doc_commands.proofs.recovered_documents.answers_are_one.Goals as goal

pub returns : goal.returns
returns c = answers_one
