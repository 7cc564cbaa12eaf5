use Rattle.std.proofs.Common.{◌+◌}
use Rattle.recovery.specs.Images.{Gives}
use Rattle.c_images.specs.Words.{word_from}
use Rattle.c_images.proofs.reader.pairs_from.Given as goal

-- the pairs so far put the first `at` words after the head
abbrev pub invariant-loop-at : goal.invariant-loop-at
invariant-loop-at l = Gives (word_from l.start l.words) (l.start + l.at) l.pairs.items
