use Rattle.image_text.proofs.Written.{same_word, text_read}
use Rattle.image_text.proofs.printer.image_texts_are_read.Goals as goal

pub returns-clause-read : goal.returns-clause-read
returns-clause-read c = text_read

pub returns-clause-words : goal.returns-clause-words
returns-clause-words c = λ image r at. same_word 0 image.pairs at r.rising
