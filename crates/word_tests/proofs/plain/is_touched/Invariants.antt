use Rattle.std.proofs.Common.{◌≡◌, ◌/◌, ◌<◌, ℕ, get_or}
use Rattle.word_tests.proofs.plain.is_touched.Given as goal

-- no address that the loop has passed lies in the line
abbrev pub invariant-loop-address : goal.invariant-loop-address
invariant-loop-address l = (k : ℕ) → k < l.address-index → get_or l.addresses k 0 / 8 ≡ l.line → ⊥
