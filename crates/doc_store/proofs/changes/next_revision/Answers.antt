use Rattle.std.proofs.Common.{ap, ◌∙◌, rules}
use Rattle.cx_base.proofs.ReadLemmas.{Reads-weaker}
use Rattle.doc_model.specs.Revisions.{next_revision}
use Rattle.avl_words.proofs.Memories.{found}
use Rattle.doc_store.proofs.changes.next_revision.Goals as goal

pub returns : goal.returns
returns g c = found (Reads-weaker c.in_ok-last.ensures.done (λ ws e. c.revision_after.ensures ∙ ap next_revision e)) (search rules) (search rules) (search rules)
