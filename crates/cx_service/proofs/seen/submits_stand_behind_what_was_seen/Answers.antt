use Rattle.cx_service.proofs.Seeing.{submit_linked_behind, submit_seen}
use Rattle.cx_service.proofs.seen.submits_stand_behind_what_was_seen.Goals as goal

pub returns-clause-linked : goal.returns-clause-linked
returns-clause-linked g c = λ r op most place before after was links. submit_linked_behind r op most place before after was links

pub returns-clause-seen : goal.returns-clause-seen
returns-clause-seen g c = λ r most place before after caller was keeps. submit_seen r most place before after caller was keeps
