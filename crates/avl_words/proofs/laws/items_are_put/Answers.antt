use Rattle.avl_words.proofs.Spots.{new_items, new_balanced}
use Rattle.avl_words.proofs.laws.items_are_put.Goals as goal

pub returns-clause-items : goal.returns-clause-items
returns-clause-items c = new_items

pub returns-clause-balanced : goal.returns-clause-balanced
returns-clause-balanced c = new_balanced
