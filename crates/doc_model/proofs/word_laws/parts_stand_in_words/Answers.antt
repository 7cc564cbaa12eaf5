use Rattle.doc_model.proofs.PartPlaces.{kind_in, key_length_in, document_length_in, number_in, key_word_in, document_word_in}
use Rattle.doc_model.proofs.word_laws.parts_stand_in_words.Goals as goal

pub returns : goal.returns
returns c = record {
  kind = λ kind number key document. kind_in 8 128 kind key document number;
  key_length = λ kind number key document. key_length_in 8 128 kind key document number;
  document_length = λ kind number key document. document_length_in 8 128 kind key document number;
  number = λ kind number key document. number_in 8 128 kind key document number;
  key = λ kind number key document. key_word_in 8 128 kind key document number;
  document = λ kind number key document. document_word_in 8 128 kind key document number;
}
