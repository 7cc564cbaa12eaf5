use Rattle.doc_commands.proofs.FirstRevisions.{first_documents}
use Rattle.doc_commands.proofs.recovered_documents.old_pairs_have_first_revisions.Goals as goal

pub returns : goal.returns
returns c = first_documents
