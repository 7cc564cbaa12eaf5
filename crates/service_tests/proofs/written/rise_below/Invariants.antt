use Rattle.service_tests.proofs.PairsLookedThrough.{RiseTo}
use Rattle.service_tests.proofs.written.rise_below.Given as goal

abbrev pub invariant-loop-at : goal.invariant-loop-at
invariant-loop-at l = RiseTo l.pairs l.end l.from l.at-index
