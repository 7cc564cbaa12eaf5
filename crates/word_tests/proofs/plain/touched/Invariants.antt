use Rattle.line_lanes.specs.Lines.{MarksBelow, TouchesLine}
use Rattle.word_tests.proofs.plain.touched.Given as goal

-- of the lines before this one, exactly those are marked that some address lies in
abbrev pub invariant-loop-line : goal.invariant-loop-line
invariant-loop-line l = MarksBelow (TouchesLine l.addresses) l.out l.line
