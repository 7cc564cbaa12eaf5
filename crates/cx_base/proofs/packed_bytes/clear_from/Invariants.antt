use Rattle.std.proofs.Common.{◌≡◌, ◌<◌, ◌≤◌, ℕ, get_or}
use Rattle.cx_base.proofs.packed_bytes.clear_from.Given as goal

abbrev pub invariant-loop-k : goal.invariant-loop-k
invariant-loop-k l = record {
  front : (k : ℕ) → k < l.from → get_or l.into k 0 ≡ get_or l.fn.into k 0;
  cleared : (k : ℕ) → l.from ≤ k → k < l.k → get_or l.into k 0 ≡ 0;
}
