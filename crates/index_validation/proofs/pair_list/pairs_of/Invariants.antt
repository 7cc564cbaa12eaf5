use Rattle.std.proofs.Common.{◌≡◌, ◌+◌, length}
use Rattle.avl_words.specs.Lines.{word_of}
use Rattle.index_validation.specs.Order.{AreNoted, to_come}
use Rattle.index_validation.proofs.Listings.{ListedSoFar}
use Rattle.index_validation.proofs.pair_list.pairs_of.Given as goal

abbrev pub invariant-loop : goal.invariant-loop
invariant-loop l = record {
  listed : ListedSoFar l.words (to_come l.words l.walk.nodes l.walk.depth) l.pairs.items;
  noted : AreNoted l.words l.walk.nodes l.walk.depth;
  left : length (to_come l.words l.walk.nodes l.walk.depth) + l.counter ≡ word_of l.words 0 5;
}
