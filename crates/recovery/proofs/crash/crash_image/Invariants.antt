use Rattle.recovery.specs.Crashes.{left_word}
use Rattle.recovery.specs.Images.{Gives}
use Rattle.recovery.proofs.crash.crash_image.Given as goal

abbrev pub invariant-loop-at : goal.invariant-loop-at
invariant-loop-at l = Gives (left_word l.remains l.choice) l.at l.pairs.items
