use Rattle.avl_words.proofs.Depth.{depth_law}
use Rattle.avl_words.proofs.laws.trees_are_shallow.Goals as goal

pub returns : goal.returns
returns c = depth_law
