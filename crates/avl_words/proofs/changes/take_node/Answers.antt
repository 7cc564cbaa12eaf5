use Rattle.std.proofs.Common.{rules}
use Rattle.cx_base.proofs.MemoryLemmas.{Becomes-then, always_after, Becomes-both}
use Rattle.avl_words.specs.Changes.{HasTwo}
use Rattle.avl_words.proofs.Leaving.{node_there, rest_there, can_mend_out, takes_from}
use Rattle.cx_base.proofs.ReadLemmas.{Becomes-read, Reads-none, Reads-load, Reads-loaded, Reads-weaker, Becomes-from-read}
use Rattle.avl_words.proofs.Memories.{always_said, changed, storable, loadable}
use Rattle.avl_words.proofs.changes.take_node.Goals as goal

pub word-requires-clause-memory : goal.word-requires-clause-memory
word-requires-clause-memory g c =
    let w = c.args.way.now in
    loadable (search rules) (λ first now s. node_there now w.nodes w.sides w.depth c.args.node (c.requires.all first now s))

pub word-requires-2-clause-memory : goal.word-requires-2-clause-memory
word-requires-2-clause-memory g c =
    let w = c.args.way.now in
    loadable (search rules) (always_said (Reads-load (Reads-none _ c.requires.all) c.in_ok-left.ensures.done (λ ws p e. node_there ws w.nodes w.sides w.depth c.args.node p)))

pub hung_up-requires : goal.hung_up-requires
hung_up-requires g c =
    let w = c.args.way.now in
    storable (search rules) (search rules) (always_said (Reads-weaker (Reads-loaded (Reads-loaded (Reads-none _ c.requires.all) c.in_ok-left.ensures.done) c.in_ok-right.ensures.done) (λ ws p. (let h : HasTwo ws w.nodes w.sides w.depth c.args.node c.in_ok-left.left c.in_ok-right.right = record { can = p.0.0; left_is = p.0.1; right_is = p.1 } in h))))

pub height_of-requires : goal.height_of-requires
height_of-requires g c =
    let w = c.args.way.now in
    let v = c.hung_up.new.way in
    let two = Reads-weaker {Q = λ ws. HasTwo ws w.nodes w.sides w.depth c.args.node c.in_ok-left.left c.in_ok-right.right} (Reads-loaded (Reads-loaded (Reads-none _ c.requires.all) c.in_ok-left.ensures.done) c.in_ok-right.ensures.done)
    (λ ws p. record { can = p.0.0; left_is = p.0.1; right_is = p.1 }) in
    loadable (search rules) (always_after (always_said two) c.in_ok-root.ensures.done (λ x y h u. rest_there x y w.nodes w.sides v.nodes v.sides w.depth c.args.node c.in_ok-left.left c.in_ok-right.right v.depth c.in_ok-root.root h u))

pub mend-requires : goal.mend-requires
mend-requires g c =
    let w = c.args.way.now in
    let v = c.hung_up.new.way in
    let two = Reads-weaker {Q = λ ws. HasTwo ws w.nodes w.sides w.depth c.args.node c.in_ok-left.left c.in_ok-right.right} (Reads-loaded (Reads-loaded (Reads-none _ c.requires.all) c.in_ok-left.ensures.done) c.in_ok-right.ensures.done)
    (λ ws p. record { can = p.0.0; left_is = p.0.1; right_is = p.1 }) in
    storable (search rules) (search rules) (always_after (always_said two) (Becomes-read c.in_ok-root.ensures.done c.in_ok-height.ensures.done)
    (λ x y h u. can_mend_out x y w.nodes w.sides v.nodes v.sides w.depth c.args.node c.in_ok-left.left c.in_ok-right.right v.depth c.in_ok-root.root c.in_ok-height.height h u.0 u.1))

pub returns : goal.returns
returns g c =
    let w = c.args.way.now in
    let v = c.hung_up.new.way in
    let two = Reads-weaker {Q = λ ws. HasTwo ws w.nodes w.sides w.depth c.args.node c.in_ok-left.left c.in_ok-right.right} (Reads-loaded (Reads-loaded (Reads-none _ c.requires.all) c.in_ok-left.ensures.done) c.in_ok-right.ensures.done)
    (λ ws p. record { can = p.0.0; left_is = p.0.1; right_is = p.1 }) in
    changed (Becomes-then (Becomes-both (Becomes-both (Becomes-from-read two) (Becomes-read c.in_ok-root.ensures.done c.in_ok-height.ensures.done)) c.in_ok-top.ensures.done) c.in_ok-put_new.ensures.done
    (λ x z u t e. takes_from x t.1.0 t.0 z u w.nodes w.sides v.nodes v.sides w.depth c.args.node c.in_ok-left.left c.in_ok-right.right v.depth c.in_ok-root.root c.in_ok-height.height c.in_ok-top.top t.1.1.0 t.1.1.1 t.1.2.0 t.1.2.1 t.2 e)) (search rules) (search rules)
