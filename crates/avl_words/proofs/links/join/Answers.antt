use Rattle.std.proofs.Common.{◌^◌, ◌≤◌, arith, rules}
use Rattle.cx_base.proofs.MemoryLemmas.{always_at_most}
use Rattle.cx_base.proofs.ReadLemmas.{Reads-none}
use Rattle.avl_words.specs.Links.{with_node, Joins}
use Rattle.avl_words.proofs.Memories.{Becomes-set, Becomes-behind, changed, storable}
use Rattle.avl_words.proofs.Joining.{join_left, join_right, can_right, can_left, can_plain, joins_right, joins_left, joins_plain}
use Rattle.avl_words.proofs.links.join.Goals as goal

pub overflow_add-left : goal.overflow_add-left
overflow_add-left g c =
    let a = c.args in
    let m = a.mem.now in
    let few : a.left.height ≤ 2 ^ 32 = always_at_most (g.M.Memory.stands m) (g.met.M.Memory.some_stands m) a.left.height (2 ^ 32)
    (λ first now s. (join_left now a.node a.left.root a.left.height a.right.root a.right.height (c.requires.all first now s)).low) in
    omega arith

pub overflow_add-right : goal.overflow_add-right
overflow_add-right g c =
    let a = c.args in
    let m = a.mem.now in
    let few : a.right.height ≤ 2 ^ 32 = always_at_most (g.M.Memory.stands m) (g.met.M.Memory.some_stands m) a.right.height (2 ^ 32)
    (λ first now s. (join_right now a.node a.left.root a.left.height a.right.root a.right.height (c.requires.all first now s)).low) in
    omega arith

pub rotate-requires-clause-memory : goal.rotate-requires-clause-memory
rotate-requires-clause-memory g c =
    let a = c.args in
    storable (search rules) (search rules) (λ first now s. can_right now a.node a.left.root a.left.height a.right.root a.right.height (c.requires.all first now s) c.if-left-right.true)

pub returns-then-left-right : goal.returns-then-left-right
returns-then-left-right g c =
    let a = c.args in
    let t = c.in_ok-top.top in
    changed (Becomes-behind (Joins a.node a.left.root a.right.root t.root t.height) (Reads-none _ c.requires.all) c.in_ok-top.ensures.done
    (λ ws now p q. joins_right ws a.node a.left.root a.left.height a.right.root a.right.height p now t.root t.height c.if-left-right.true q)) (search rules) (search rules)

pub rotate-requires-then-right-left-clause-memory : goal.rotate-requires-then-right-left-clause-memory
rotate-requires-then-right-left-clause-memory g c =
    let a = c.args in
    storable (search rules) (search rules) (λ first now s. can_left now a.node a.left.root a.left.height a.right.root a.right.height (c.requires.all first now s) c.if-right-left.true)

pub returns-then-right-left : goal.returns-then-right-left
returns-then-right-left g c =
    let a = c.args in
    let t = c.in_ok-top-2.top in
    changed (Becomes-behind (Joins a.node a.left.root a.right.root t.root t.height) (Reads-none _ c.requires.all) c.in_ok-top-2.ensures.done
    (λ ws now p q. joins_left ws a.node a.left.root a.left.height a.right.root a.right.height p now t.root t.height c.if-right-left.true q)) (search rules) (search rules)

pub set_node-requires-clause-memory : goal.set_node-requires-clause-memory
set_node-requires-clause-memory g c =
    let a = c.args in
    storable (search rules) (search rules) (λ first now s. can_plain now a.node a.left.root a.left.height a.right.root a.right.height (c.requires.all first now s))

pub returns : goal.returns
returns g c =
    let a = c.args in
    let t = c.in_ok-top-3 in
    changed (Becomes-set (with_node a.node 0 a.left.root a.right.root) (Joins a.node a.left.root a.right.root t.top.root t.top.height) (Reads-none _ c.requires.all) t.ensures.changes.done
    (λ ws p. joins_plain ws a.node a.left.root a.left.height a.right.root a.right.height p t.top.root t.top.height c.if-left-right.false c.if-right-left.false t.ensures.root t.ensures.height)) (search rules) (search rules)
