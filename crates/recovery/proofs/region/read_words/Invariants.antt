use Rattle.recovery.proofs.Pairs.{HasRead}
use Rattle.recovery.proofs.region.read_words.Given as goal

abbrev pub invariant-loop-at : goal.invariant-loop-at
invariant-loop-at l = HasRead l.pairs l.from l.count l.at-index l.words.items
