use Rattle.doc_model.proofs.ReplyKinds.{replies_same}
use Rattle.doc_model.proofs.word_laws.reply_words_are_one_to_one.Goals as goal

pub returns : goal.returns
returns c = replies_same
