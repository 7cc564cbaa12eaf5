use Rattle.std.proofs.Common.{◌≡◌, ◌+◌, ◌≤◌, length, take}
use Rattle.avl_words.specs.Lines.{word_of}
use Rattle.index_validation.specs.Order.{AreNoted, to_come}
use Rattle.index_validation.proofs.NodeChecks.{FoundSoFar}
use Rattle.index_validation.proofs.node_checks.nodes_at.Given as goal

abbrev pub invariant-loop : goal.invariant-loop
invariant-loop l = record {
  found : FoundSoFar l.words (to_come l.words l.walk.nodes l.walk.depth) (take l.last_len l.last) l.fn.marks l.marks;
  noted : AreNoted l.words l.walk.nodes l.walk.depth;
  left : length (to_come l.words l.walk.nodes l.walk.depth) + l.counter ≡ word_of l.words 0 5;
  short : l.last_len ≤ 64;
}
