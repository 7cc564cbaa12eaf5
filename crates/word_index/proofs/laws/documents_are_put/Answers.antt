use Rattle.word_index.proofs.Inserting.{inserted_is, document_revised}
use Rattle.word_index.proofs.WordChanges.{document_words}
use Rattle.word_index.proofs.laws.documents_are_put.Goals as goal

pub returns-clause-stands : goal.returns-clause-stands
returns-clause-stands c = λ key document words n i w is_key is_document. inserted_is key document words is_key is_document

pub returns-clause-words : goal.returns-clause-words
returns-clause-words c = λ key document words n i w is_key is_document. document_words key document words i is_key is_document n w

pub returns-clause-revised : goal.returns-clause-revised
returns-clause-revised c = λ key document words i is_key is_document. document_revised key document words is_key is_document i
