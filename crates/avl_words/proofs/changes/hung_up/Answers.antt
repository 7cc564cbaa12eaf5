use Rattle.std.proofs.Common.{rules}
use Rattle.cx_base.proofs.MemoryLemmas.{Becomes-same, Becomes-weaker}
use Rattle.avl_words.proofs.Leaving.{one_raises_left, one_raises_right}
use Rattle.avl_words.proofs.Memories.{changed}
use Rattle.avl_words.proofs.changes.hung_up.Goals as goal

pub returns-then-left-eq0 : goal.returns-then-left-eq0
returns-then-left-eq0 g c =
    let a = c.args in
    let w = a.way.now in
    changed (Becomes-weaker (Becomes-same _) (λ first x y s e. one_raises_left x y w.nodes w.sides w.depth a.node a.left a.right e c.if-left-eq0.true)) (search rules) (search rules)

pub returns-then-right-eq0 : goal.returns-then-right-eq0
returns-then-right-eq0 g c =
    let a = c.args in
    let w = a.way.now in
    changed (Becomes-weaker (Becomes-same _) (λ first x y s e. one_raises_right x y w.nodes w.sides w.depth a.node a.left a.right e c.if-left-eq0.false c.if-right-eq0.true)) (search rules) (search rules)
