use Rattle.std.proofs.Common.{arith, rules}
use Rattle.cx_base.proofs.ReadLemmas.{Reads-weaker, Reads-with}
use Rattle.avl_words.specs.Mending.{Hangs}
use Rattle.avl_words.proofs.Memories.{always_said, Becomes-behind, changed, loadable, storable}
use Rattle.avl_words.proofs.Hanging.{hang_link, can_left, can_right, hangs_left, hangs_right}
use Rattle.avl_words.proofs.replacement.hang.Goals as goal

pub below-requires-clause-memory : goal.below-requires-clause-memory
below-requires-clause-memory g c = loadable (search rules) (λ first now s. hang_link now c.args.node c.args.side c.args.child.root c.args.child.height (c.requires.memory.all first now s))

pub join-requires : goal.join-requires
join-requires g c =
    let a = c.args in
    let s = c.in_ok-sibling.sibling in
    storable (search rules) (search rules) (always_said (Reads-weaker (Reads-with c.requires.memory.all c.in_ok-sibling.ensures.done) (λ ws p. can_left ws a.node a.side a.child.root a.child.height s.root s.height p.1 p.0 c.if-side-eq0.true)))

pub join-requires-else-side-eq0 : goal.join-requires-else-side-eq0
join-requires-else-side-eq0 g c =
    let a = c.args in
    let s = c.in_ok-sibling.sibling in
    storable (search rules) (search rules) (always_said (Reads-weaker (Reads-with c.requires.memory.all c.in_ok-sibling.ensures.done) (λ ws p. can_right ws a.node a.side a.child.root a.child.height s.root s.height p.1 p.0 (omega (arith, c.if-side-eq0.false, c.requires.side)))))

pub returns-in_ok-top : goal.returns-in_ok-top
returns-in_ok-top g c =
    let a = c.args in
    let s = c.in_ok-sibling.sibling in
    let top = c.in_ok-top.top in
    changed (Becomes-behind (Hangs a.node a.side a.child.root top.root top.height) c.in_ok-sibling.ensures.done c.in_ok-top.ensures.done
    (λ ws now p q. hangs_left ws a.node a.side a.child.root a.child.height s.root s.height p now top.root top.height c.if-side-eq0.true q)) (search rules) (search rules)

pub returns-in_ok-top-2 : goal.returns-in_ok-top-2
returns-in_ok-top-2 g c =
    let a = c.args in
    let s = c.in_ok-sibling.sibling in
    let top = c.in_ok-top-2.top in
    changed (Becomes-behind (Hangs a.node a.side a.child.root top.root top.height) c.in_ok-sibling.ensures.done c.in_ok-top-2.ensures.done
    (λ ws now p q. hangs_right ws a.node a.side a.child.root a.child.height s.root s.height p now top.root top.height (omega (arith, c.if-side-eq0.false, c.requires.side)) q)) (search rules) (search rules)
