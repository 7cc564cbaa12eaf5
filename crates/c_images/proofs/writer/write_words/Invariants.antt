use Rattle.recovery.specs.Images.{image_size}
use Rattle.c_images.specs.Words.{AreLeftWords}
use Rattle.c_images.proofs.writer.write_words.Given as goal

-- the words after the head are written up to `at`
abbrev pub invariant-loop-at : goal.invariant-loop-at
invariant-loop-at l = AreLeftWords l.remains l.choice l.at (image_size l.remains.callers l.remains.lines) l.words
