use Rattle.index_validation.proofs.ChainChecks.{MarkedSoFar}
use Rattle.index_validation.proofs.marks.mark_chain.Given as goal

abbrev pub invariant-loop : goal.invariant-loop
invariant-loop l = MarkedSoFar l.words l.first l.counter l.line l.fn.marks l.marks
