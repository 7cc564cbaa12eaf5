use Rattle.std.proofs.Common.{◌≡◌, length}
use Rattle.event_tests.proofs.crashes.left.Given as goal

-- after each word of the loop, the medium has as many words as the list of durable words
abbrev pub invariant-loop-at : goal.invariant-loop-at
invariant-loop-at l = length l.medium.words ≡ length l.per
