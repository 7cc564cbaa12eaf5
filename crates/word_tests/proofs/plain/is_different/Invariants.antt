use Rattle.std.proofs.Common.{◌≡◌, ◌*◌, ◌<◌, ◌≤◌, ℕ, get_or}
use Rattle.word_tests.proofs.plain.is_different.Given as goal

-- the two lists have the same word at each place of the line that the loop has passed
abbrev pub invariant-loop-at : goal.invariant-loop-at
invariant-loop-at l = (k : ℕ) → 8 * l.line ≤ k → k < l.at → get_or l.a k 0 ≡ get_or l.b k 0
