use Rattle.std.proofs.Common.{◌≡◌, ◌+◌, ◌*◌, ◌<◌, ℕ, slice_index}
use Rattle.core_guards.proofs.gaps.is_same_line.Given as goal

abbrev pub invariant-loop-k : goal.invariant-loop-k
invariant-loop-k l = (k : ℕ) → k < l.k → slice_index l.after (8 * l.n + k) ≡ slice_index l.before (8 * l.n + k)
