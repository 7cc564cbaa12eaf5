use Rattle.doc_model.proofs.OpKinds.{reads_by_kind}
use Rattle.doc_model.proofs.word_laws.kinds_tell_readings.Goals as goal

pub returns : goal.returns
returns c = reads_by_kind
