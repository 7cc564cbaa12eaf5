use Rattle.std.proofs.Common.{◌≡◌, ◌<◌, ℕ, get_or}
use Rattle.doc_model.proofs.packed_texts.are_zero.Given as goal

abbrev pub invariant-loop-word : goal.invariant-loop-word
invariant-loop-word l = record {
  none : l.all ≡ 0 → (k : ℕ) → k < l.word-index → get_or l.words k 0 ≡ 0;
  only : ((k : ℕ) → k < l.word-index → get_or l.words k 0 ≡ 0) → l.all ≡ 0;
}
