use Rattle.std.proofs.Common.{◌*◌, ◌<◌, ℕ, get_or}
use Rattle.word_tests.proofs.lanes.scattered.Given as goal

-- each address that the loop has passed is of a word in the lines
abbrev pub invariant-loop-address : goal.invariant-loop-address
invariant-loop-address l = (k : ℕ) → k < l.address-index → get_or l.address-items k 0 < 8 * l.lines
