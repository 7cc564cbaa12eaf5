use Rattle.doc_model.proofs.AfterSteps.{reading_leaves}
use Rattle.doc_model.proofs.laws.readings_leave_stores.Goals as goal

pub returns : goal.returns
returns c = reading_leaves
