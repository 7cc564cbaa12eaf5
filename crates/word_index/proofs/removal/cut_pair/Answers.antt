use Rattle.std.proofs.Common.{rules}
use Rattle.cx_base.proofs.MemoryLemmas.{always_after, Becomes-both}
use Rattle.word_index.proofs.Cutting.{cut_pair}
use Rattle.avl_words.proofs.Memories.{changed, storable}
use Rattle.word_index.proofs.removal.cut_pair.Goals as goal

pub give_pair-requires : goal.give_pair-requires
give_pair-requires g c =
    let w = c.args.way.now in
    storable (search rules) (search rules) (always_after c.requires.all c.in_ok-cut.ensures.done (λ x z h t. cut_pair x z w.nodes w.sides w.depth c.args.node h t))

pub returns : goal.returns
returns g c = changed (Becomes-both c.in_ok-cut.ensures.done c.in_ok-give_pair.ensures.exact) (search rules) (search rules)
