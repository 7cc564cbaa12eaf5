use Rattle.std.proofs.Common.{◌*◌, ◌/◌, ◌%◌, ◌^◌, ◌<◌, ℕ}
use Rattle.doc_model.specs.WordParts.{IsBetween}
use Rattle.doc_model.proofs.packed_texts.is_word_between.Given as goal

abbrev pub invariant-loop-i : goal.invariant-loop-i
invariant-loop-i g l = (k : ℕ) → k < l.i → IsBetween g.row.LEAST g.row.MOST (l.word / 2 ^ (8 * k) % 256)
