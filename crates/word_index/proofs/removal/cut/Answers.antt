use Rattle.std.proofs.Common.{◌-◌, refl, rules}
use Rattle.avl_words.specs.Lines.{with_word}
use Rattle.cx_base.proofs.MemoryLemmas.{Becomes-store, always_at_most, always_after, Becomes-loaded}
use Rattle.word_index.proofs.Cutting.{can_take, cut_count, cuts}
use Rattle.avl_words.proofs.Memories.{changed, storable}
use Rattle.word_index.proofs.removal.cut.Goals as goal

pub take_node-requires : goal.take_node-requires
take_node-requires g c =
    let w = c.args.way.now in
    storable (search rules) (search rules) (λ first now s. can_take now w.nodes w.sides w.depth c.args.node (c.requires.all first now s))

pub overflow_sub-pairs : goal.overflow_sub-pairs
overflow_sub-pairs g c =
    let w = c.args.way.now in
    let m = c.word.new.mem in
    let n = c.in_ok-pairs.pairs in
    always_at_most (g.M.Memory.stands m) (g.met.M.Memory.some_stands m) 1 n
    (always_after c.requires.all (Becomes-loaded c.in_ok-take_node.ensures.done c.in_ok-pairs.ensures.done) (λ x z h r. cut_count x z w.nodes w.sides w.depth c.args.node n h r.0 r.1))

pub returns : goal.returns
returns g c =
    let w = c.args.way.now in
    changed (Becomes-store (Becomes-loaded c.in_ok-take_node.ensures.done c.in_ok-pairs.ensures.done) c.in_ok-put.ensures.done
    (λ first x z s r. cuts x z (with_word 0 5 (c.in_ok-pairs.pairs - 1) z) w.nodes w.sides w.depth c.args.node c.in_ok-pairs.pairs r.0 r.1 refl)) (search rules) (search rules)
