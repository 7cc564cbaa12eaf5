use Rattle.index_validation.specs.Order.{AreNoted}
use Rattle.word_tests.proofs.shapes.are_walked.Given as goal

-- the walk has passed the left side of each node that it has noted; its depth says how many these are
abbrev pub invariant-loop-line : goal.invariant-loop-line
invariant-loop-line l = AreNoted l.words l.walk.nodes l.walk.depth
