use Rattle.std.proofs.Common.{arith}
use Rattle.line_lanes.specs.Lines.{DiffersInLine}
use Rattle.line_lanes.proofs.LineMarks.{marks_more}
use Rattle.word_tests.proofs.plain.differing.Goals as goal

-- where the marks are right for the lines before this one, they are right with this line, whose mark says whether the lists differ in it
pub loop-line-preserved : goal.loop-line-preserved
loop-line-preserved c = marks_more (DiffersInLine c.args.a.now c.args.b.now) c.loop-line.out c.loop-line.line c.is_different.result (omega arith) c.loop-line.invariant c.is_different.ensures
