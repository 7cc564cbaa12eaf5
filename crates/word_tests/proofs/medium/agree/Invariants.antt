use Rattle.std.proofs.Common.{◌≡◌, length}
use Rattle.word_tests.proofs.medium.agree.Given as goal

-- the medium has 64 words, and a count of stores for each of 8 lines
abbrev pub invariant-loop-time : goal.invariant-loop-time
invariant-loop-time l = record { words : length l.medium.words ≡ 64; stores : length l.medium.stores ≡ 8 }
