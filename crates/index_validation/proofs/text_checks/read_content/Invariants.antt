use Rattle.std.proofs.Common.{◌*◌, ◌≤◌, length}
use Rattle.index_validation.specs.Lawful.{HasBlocks}
use Rattle.index_validation.proofs.TextChecks.{ReadsSoFar, ClearedSoFar}
use Rattle.index_validation.proofs.text_checks.read_content.Given as goal

abbrev pub invariant-loop-i : goal.invariant-loop-i
invariant-loop-i l = record {
  reads : ReadsSoFar l.words l.first l.count l.content l.i l.line;
  blocks : HasBlocks l.words l.first l.count;
  room : 7 * l.count ≤ length l.content;
}

abbrev pub invariant-loop-i-2 : goal.invariant-loop-i-2
invariant-loop-i-2 l = ClearedSoFar l.words l.first l.count l.content l.i
