use Rattle.std.proofs.Common.{rules}
use Rattle.cx_base.proofs.MemoryLemmas.{Becomes-then}
use Rattle.avl_words.proofs.Putting.{can_mend_leaf, puts}
use Rattle.avl_words.proofs.Memories.{changed, storable}
use Rattle.avl_words.proofs.changes.put_node.Goals as goal

pub mend-requires : goal.mend-requires
mend-requires g c =
    let w = c.args.way.now in
    storable (search rules) (search rules) (λ first now s. can_mend_leaf now w.nodes w.sides w.depth c.args.node (c.requires.all first now s))

pub returns : goal.returns
returns g c =
    let w = c.args.way.now in
    changed (Becomes-then c.in_ok-top.ensures.done c.in_ok-put_new.ensures.done (λ x y z m e. puts x y z w.nodes w.sides w.depth c.args.node c.in_ok-top.top m e)) (search rules) (search rules)
