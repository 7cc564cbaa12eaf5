use Rattle.line_lanes.specs.Lines.{DiffersInLine, MarksBelow}
use Rattle.word_tests.proofs.plain.differing.Given as goal

-- of the lines before this one, exactly those are marked in which the two lists differ
abbrev pub invariant-loop-line : goal.invariant-loop-line
invariant-loop-line l = MarksBelow (DiffersInLine l.a l.b) l.out l.line
