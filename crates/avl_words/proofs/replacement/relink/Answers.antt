use Rattle.std.proofs.Common.{◌-◌, ◌<◌, get_or, arith, rules}
use Rattle.cx_base.proofs.MemoryLemmas.{Becomes-weaker, always_below}
use Rattle.avl_words.proofs.Relinking.{relinks, relink_there}
use Rattle.avl_words.proofs.Memories.{changed, storable}
use Rattle.avl_words.proofs.replacement.relink.Goals as goal

pub put_new-requires-clause-memory : goal.put_new-requires-clause-memory
put_new-requires-clause-memory g c = storable (search rules) (search rules) (λ first now s. (relink_there now c.args.way.now.nodes c.args.way.now.sides c.args.depth c.args.node (c.requires.memory.all first now s) (omega (arith, c.if-depth-eq0.false))).0)

pub put_new-requires-clause-place : goal.put_new-requires-clause-place
put_new-requires-clause-place g c =
    let m = c.args.mem.now in
    let s = get_or c.args.way.now.sides (c.args.depth - 1) 0 in
    let below : s < 2 = always_below (g.M.Memory.stands m) (g.met.M.Memory.some_stands m) s 2
    (λ first now st. (relink_there now c.args.way.now.nodes c.args.way.now.sides c.args.depth c.args.node (c.requires.memory.all first now st) (omega (arith, c.if-depth-eq0.false))).1) in
    omega arith

pub returns : goal.returns
returns g c =
    changed (Becomes-weaker c.in_ok-put_new.ensures.done (λ first x y s e. relinks x y c.args.way.now.nodes c.args.way.now.sides c.args.depth c.args.node (omega (arith, c.if-depth-eq0.false)) e)) (search rules) (search rules)
