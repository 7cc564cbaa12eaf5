use Rattle.std.proofs.Common.{◌*◌, ◌<◌, ℕ}
use Rattle.cx_base.specs.Packing.{byte_at}
use Rattle.doc_model.specs.WordParts.{IsBetween}
use Rattle.doc_model.proofs.packed_texts.are_between.Given as goal

abbrev pub invariant-loop-at : goal.invariant-loop-at
invariant-loop-at g l = (k : ℕ) → k < 8 * l.at → IsBetween g.row.LEAST g.row.MOST (byte_at l.words k)

abbrev pub invariant-loop-i : goal.invariant-loop-i
invariant-loop-i g l = (k : ℕ) → k < l.i → IsBetween g.row.LEAST g.row.MOST (byte_at l.words k)
