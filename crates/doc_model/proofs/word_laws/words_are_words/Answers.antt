use Rattle.doc_model.proofs.OpKinds.{op_words_fit}
use Rattle.doc_model.proofs.ReplyKinds.{reply_words_fit}
use Rattle.doc_model.proofs.word_laws.words_are_words.Goals as goal

pub returns : goal.returns
returns c = record { ops = op_words_fit; replies = reply_words_fit }
