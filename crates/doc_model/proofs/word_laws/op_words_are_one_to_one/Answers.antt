use Rattle.doc_model.proofs.OpKinds.{ops_same}
use Rattle.doc_model.proofs.word_laws.op_words_are_one_to_one.Goals as goal

pub returns : goal.returns
returns c = ops_same
