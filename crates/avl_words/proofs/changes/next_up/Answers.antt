use Rattle.std.proofs.Common.{◌≢◌, ◌+◌, ◌≤◌, ◌∙◌, ℕ, List, arith, rules}
use Rattle.std.proofs.Math.ListN.{length-set}
use Rattle.cx_base.specs.Memory.{Always}
use Rattle.cx_base.proofs.MemoryLemmas.{Becomes-then, always_at_most}
use Rattle.avl_words.specs.Changes.{HasTwo}
use Rattle.avl_words.proofs.Leaving.{two_room, two_descends, two_within, two_raises}
use Rattle.cx_base.proofs.ReadLemmas.{Reads-with, Reads-load, Reads-loaded, Reads-weaker, Becomes-from-read}
use Rattle.avl_words.proofs.Memories.{always_said, changed, loadable, storable}
use Rattle.avl_words.proofs.changes.next_up.Goals as goal

-- the way has room for the node and the least one behind it
room : {Key : Type 0} {stands : Key → List ℕ → Type 0} {nodes sides : List ℕ} {depth node left right : ℕ} → ∥ ((first : Key) × (now : List ℕ) × stands first now) ∥₁ → (left ≢ 0) × (right ≢ 0) →
    Always stands (λ ws. HasTwo ws nodes sides depth node left right) → depth + 2 ≤ 64
room {stands = stands} {nodes = nodes} {sides = sides} {depth = depth} {node = node} {left = left} {right = right} there some all =
    always_at_most stands there (depth + 2) 64 (λ first now s. two_room now nodes sides depth node left right some.0 some.1 (all first now s))

pub offset_bounds-way-at : goal.offset_bounds-way-at
offset_bounds-way-at g c = (let r = room (g.met.M.Memory.some_stands c.args.mem.now) c.requires.some c.requires.memory.all in omega arith)

pub bounds-way-at : goal.bounds-way-at
bounds-way-at g c = (let r = room (g.met.M.Memory.some_stands c.args.mem.now) c.requires.some c.requires.memory.all in omega arith)

pub offset_bounds-way-at-2 : goal.offset_bounds-way-at-2
offset_bounds-way-at-2 g c = (let r = room (g.met.M.Memory.some_stands c.args.mem.now) c.requires.some c.requires.memory.all in omega arith)

pub bounds-way-at-2 : goal.bounds-way-at-2
bounds-way-at-2 g c = (let r = room (g.met.M.Memory.some_stands c.args.mem.now) c.requires.some c.requires.memory.all in omega arith)

pub overflow_add-way : goal.overflow_add-way
overflow_add-way g c = (let r = room (g.met.M.Memory.some_stands c.args.mem.now) c.requires.some c.requires.memory.all in omega arith)

pub invariant_of-way : goal.invariant_of-way
invariant_of-way g c =
    let w = c.args.way.now in
    let r = room (g.met.M.Memory.some_stands c.args.mem.now) c.requires.some c.requires.memory.all in
    let few : w.depth + 1 ≤ 64 = omega arith in
    record { long = (length-set w.nodes w.depth c.args.node ∙ w.long.0, length-set w.sides w.depth 1 ∙ w.long.1); few = few }

pub descend-requires : goal.descend-requires
descend-requires g c =
    let a = c.args in
    let w = a.way.now in
    loadable (search rules) (λ first now s. two_descends now w.nodes w.sides w.depth a.node a.left a.right c.requires.some.0 c.requires.some.1 a.way.now.long.0 a.way.now.long.1 (c.requires.memory.all first now s))

pub offset_bounds-way-at-3 : goal.offset_bounds-way-at-3
offset_bounds-way-at-3 g c = (let r = room (g.met.M.Memory.some_stands c.args.mem.now) c.requires.some c.requires.memory.all in omega arith)

pub bounds-way-at-3 : goal.bounds-way-at-3
bounds-way-at-3 g c = (let r = room (g.met.M.Memory.some_stands c.args.mem.now) c.requires.some c.requires.memory.all in omega arith)

pub word-requires-clause-memory : goal.word-requires-clause-memory
word-requires-clause-memory g c =
    let a = c.args in
    let w = a.way.now in
    let v = c.descend.new.way in
    loadable (search rules) (always_said (Reads-weaker (Reads-with c.requires.memory.all c.in_ok-least.ensures.done)
    (λ ws p. two_within ws w.nodes w.sides v.nodes v.sides w.depth a.node a.left a.right v.depth c.in_ok-least.least c.requires.some.0 c.requires.some.1 a.way.now.long.0 a.way.now.long.1 p.0 p.1)))

pub put_new-requires-clause-memory : goal.put_new-requires-clause-memory
put_new-requires-clause-memory g c =
    let a = c.args in
    let w = a.way.now in
    let v = c.descend.new.way in
    storable (search rules) (search rules) (always_said (Reads-load (Reads-with c.requires.memory.all c.in_ok-least.ensures.done) c.in_ok-rest.ensures.done
    (λ ws p e. two_within ws w.nodes w.sides v.nodes v.sides w.depth a.node a.left a.right v.depth c.in_ok-least.least c.requires.some.0 c.requires.some.1 a.way.now.long.0 a.way.now.long.1 p.0 p.1)))

pub returns : goal.returns
returns g c =
    let a = c.args in
    let w = a.way.now in
    let v = c.descend.new.way in
    changed (Becomes-then (Becomes-from-read (Reads-loaded c.in_ok-least.ensures.done c.in_ok-rest.ensures.done)) c.in_ok-put_new.ensures.done (λ x y z p e.
    two_raises x y w.nodes w.sides v.nodes v.sides z w.depth a.node a.left a.right v.depth c.in_ok-least.least c.in_ok-rest.rest c.requires.some.0 c.requires.some.1 a.way.now.long.0 a.way.now.long.1 v.long.0 p.0 p.1.0 p.1.1 e)) (search rules) (search rules)
