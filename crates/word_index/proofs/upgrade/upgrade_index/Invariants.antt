use Rattle.std.proofs.Common.{◌≡◌, ◌+◌, length}
use Rattle.index_validation.specs.Order.{AreNoted, to_come}
use Rattle.word_index.specs.Upgrading.{with_first_revisions, upgraded_in}
use Rattle.word_index.proofs.upgrade.upgrade_index.Given as goal

abbrev pub invariant-loop : goal.invariant-loop
invariant-loop l = record {
  exact : with_first_revisions (to_come l.words l.walk.nodes l.walk.depth) l.words ≡ upgraded_in l.fn.words;
  noted : AreNoted l.words l.walk.nodes l.walk.depth;
  left : length (to_come l.words l.walk.nodes l.walk.depth) + l.counter ≡ l.end;
}
