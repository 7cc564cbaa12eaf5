use Rattle.std.proofs.Common.{◌≡◌, take, ◌*◌, ◌^◌, pos, ◌+ℤ◌, ◌≤ℤ◌}
use Rattle.doc_text.specs.Summary.{integer_sum}
use Rattle.doc_text.proofs.load_summary.sum_of.Given as goal

-- the sum so far, of which each document has 64 bits
abbrev pub invariant-loop-pair : goal.invariant-loop-pair
invariant-loop-pair l = record {
  sum : l.sum ≡ integer_sum (take l.pair-index l.pairs);
  low : pos 0 ≤ℤ (l.sum +ℤ pos (2 ^ 63 * l.pair-index));
  high : l.sum ≤ℤ pos (2 ^ 63 * l.pair-index);
}
