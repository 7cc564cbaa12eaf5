use Rattle.std.proofs.Common.{◌+◌, ◌^◌, ◌≤◌, refl, arith, rules}
use Rattle.cx_base.specs.Packing.{unpacked}
use Rattle.cx_base.proofs.MemoryLemmas.{Becomes-store, always_at_most, always_after, Becomes-loaded, Becomes-both}
use Rattle.avl_words.specs.Lines.{with_word}
use Rattle.word_index.proofs.Adding.{can_write, can_put_node, add_few, adds}
use Rattle.avl_words.proofs.Memories.{changed, storable}
use Rattle.word_index.proofs.insertion.put_pair.Goals as goal

pub write_pair-requires-clause-memory : goal.write_pair-requires-clause-memory
write_pair-requires-clause-memory g c =
    let w = c.args.way.now in
    storable (search rules) (search rules) (λ first now s. can_write now w.nodes w.sides w.depth (unpacked c.args.key.now.len c.args.key.now.words, unpacked c.args.doc.now.len c.args.doc.now.words.now) (c.requires.memory.all first now s))

pub put_node-requires : goal.put_node-requires
put_node-requires g c =
    let w = c.args.way.now in
    storable (search rules) (search rules) (always_after c.requires.memory.all c.in_ok-node.ensures.changes.done (λ x z h p.
    can_put_node x z w.nodes w.sides w.depth c.args.revision c.in_ok-node.node (unpacked c.args.key.now.len c.args.key.now.words, unpacked c.args.doc.now.len c.args.doc.now.words.now) h p))

pub overflow_add-pairs : goal.overflow_add-pairs
overflow_add-pairs g c =
    let w = c.args.way.now in
    let m = c.word.new.mem in
    let n = c.in_ok-pairs.pairs in
    let few : n ≤ 2 ^ 32 = always_at_most (g.M.Memory.stands m) (g.met.M.Memory.some_stands m) n (2 ^ 32)
    (always_after c.requires.memory.all (Becomes-loaded (Becomes-both c.in_ok-node.ensures.changes.done c.in_ok-put_node.ensures.done) c.in_ok-pairs.ensures.done)
    (λ x y h r. add_few x r.0.0 y w.nodes w.sides w.depth c.args.revision c.in_ok-node.node n (unpacked c.args.key.now.len c.args.key.now.words, unpacked c.args.doc.now.len c.args.doc.now.words.now) h r.0.1 r.0.2 r.1)) in
    omega arith

pub returns : goal.returns
returns g c =
    let w = c.args.way.now in
    let n = c.in_ok-pairs.pairs in
    changed (Becomes-store (Becomes-loaded (Becomes-both c.in_ok-node.ensures.exact c.in_ok-put_node.ensures.done) c.in_ok-pairs.ensures.done) c.in_ok-put.ensures.done
    (λ first x y s r. adds x r.0.0 y (with_word 0 5 (n + 1) y) w.nodes w.sides w.depth c.args.revision c.in_ok-node.node n (unpacked c.args.key.now.len c.args.key.now.words, unpacked c.args.doc.now.len c.args.doc.now.words.now) r.0.1 r.0.2 r.1 refl)) (search rules) (search rules)
