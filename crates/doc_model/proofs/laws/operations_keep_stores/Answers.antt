use Rattle.doc_model.proofs.AfterSteps.{IsRevisedStore-after}
use Rattle.doc_model.proofs.laws.operations_keep_stores.Goals as goal

pub returns : goal.returns
returns c = IsRevisedStore-after
