use Rattle.std.proofs.Common.{arith}
use Rattle.line_lanes.specs.Lines.{TouchesLine}
use Rattle.line_lanes.proofs.LineMarks.{marks_more}
use Rattle.word_tests.proofs.plain.touched.Goals as goal

-- where the marks are right for the lines before this one, they are right with this line, whose mark says whether an address lies in it
pub loop-line-preserved : goal.loop-line-preserved
loop-line-preserved c = marks_more (TouchesLine c.args.addresses.now) c.loop-line.out c.loop-line.line c.is_touched.result (omega arith) c.loop-line.invariant c.is_touched.ensures
