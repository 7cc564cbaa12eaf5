use Rattle.std.proofs.Common.{◌≡◌, ◌∙◌, List, true, inl, inr, ℕ, sym, ap}
use Rattle.fifo_object.specs.Words.{kind_in}
use Rattle.fifo_object.proofs.ReadBack.{of_kind}
use Rattle.fifo_object.specs.declared.operations.FifoOp.TheVariants.{Len, Peek}
use Rattle.fifo_object.specs.Fifo.{IsReading, fifo_reads}
use Rattle.fifo_object.specs.FifoLaws.{reads_kind}
use Rattle.fifo_object.specs.MeaningLaws.{fifo_reads_of}
use Rattle.fifo_object.proofs.laws.readings_are_peek_and_len.Goals as goal

taken : (words : List ℕ) → fifo_reads words ≡ true → IsReading words
unfolding fifo_reads
taken words reads = elim (reads_kind (kind_in words) reads) [
  | inl three ↦ inl (sym (of_kind words 2 three).1)
  | inr four ↦ inr (sym (of_kind words 3 four).1)
]

reads_words : (words : List ℕ) → IsReading words → fifo_reads words ≡ true
reads_words words (inl peek) = ap fifo_reads peek ∙ fifo_reads_of Peek tt
reads_words words (inr len) = ap fifo_reads len ∙ fifo_reads_of Len tt

pub returns : goal.returns
returns c = λ words. (taken words, reads_words words)
