use Rattle.avl_words.proofs.Removing.{out_items, out_balanced}
use Rattle.avl_words.proofs.laws.items_are_taken_out.Goals as goal

pub returns-clause-items : goal.returns-clause-items
returns-clause-items c = out_items

pub returns-clause-balanced : goal.returns-clause-balanced
returns-clause-balanced c = out_balanced
