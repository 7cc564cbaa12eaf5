use Rattle.std.proofs.Common.{◌≡◌, ◌^◌, ◌+◌, ◌-◌, ◌≤◌, max, ℕ, List, ap, sym, ◌∙◌, arith, rules}
use Rattle.cx_base.proofs.MemoryLemmas.{Becomes-then, always_at_most}
use Rattle.cx_base.proofs.ReadLemmas.{Reads-none, Becomes-from-read}
use Rattle.avl_words.specs.Lines.{with_word}
use Rattle.avl_words.specs.Links.{high_of, with_node, CanSet}
use Rattle.avl_words.proofs.Memories.{changed}
use Rattle.avl_words.proofs.links.set_node.Goals as goal

pub overflow_add-height : goal.overflow_add-height
overflow_add-height g c =
    let a = c.args.a.height in
    let b = c.args.b.height in
    let m = c.args.mem.now in
    let few : max a b ≤ 2 ^ 32 = always_at_most (g.M.Memory.stands m) (g.met.M.Memory.some_stands m) (max a b) (2 ^ 32)
    (λ first now s. (let i = (c.requires.memory.all first now s).first.low in let j = (c.requires.memory.all first now s).second.low in omega arith)) in
    omega (arith, c.max-height.ensures)

sets : (node side a ah b bh height : ℕ) (x y z w v : List ℕ) → (y ≡ x) × CanSet y node a ah b bh → height ≡ 1 + max ah bh →
    z ≡ with_word node side a y → w ≡ with_word node (1 - side) b z → v ≡ with_word node 2 height w → v ≡ with_node node side a b x
unfolding with_node
sets node side a ah b bh height x y z w v r h e f k =
    k ∙ ap (λ n. with_word node 2 n w) (h ∙ ap (λ n. 1 + max n bh) (sym r.1.first.high_is) ∙ ap (λ n. 1 + max (high_of a y) n) (sym r.1.second.high_is))
    ∙ ap (with_word node 2 (1 + max (high_of a y) (high_of b y))) (f ∙ ap (with_word node (1 - side) b) e)
    ∙ ap (λ u. with_word node 2 (1 + max (high_of a u) (high_of b u)) (with_word node (1 - side) b (with_word node side a u))) r.0

pub returns-clause-changes : goal.returns-clause-changes
returns-clause-changes g c =
    let a = c.args.a in
    let b = c.args.b in
    let node = c.args.node in
    let b0 = Becomes-from-read (Reads-none _ c.requires.memory.all) in
    let b1 = Becomes-then {T = λ x z. (y : List ℕ) × ((y ≡ x) × CanSet y node a.root a.height b.root b.height) × (z ≡ with_word node c.args.side a.root y)} b0 c.in_ok-put_new.ensures.done (λ x y z p q. (y, p, q)) in
    let b2 = Becomes-then {T = λ x w. (y : List ℕ) × (z : List ℕ) × ((y ≡ x) × CanSet y node a.root a.height b.root b.height) × (z ≡ with_word node c.args.side a.root y) × (w ≡ with_word node (1 - c.args.side) b.root z)}
    b1 c.in_ok-put_new-2.ensures.done (λ x z w p q. (p.0, z, p.1, p.2, q)) in
    changed (Becomes-then b2 c.in_ok-put_new-3.ensures.done
    (λ x w v p q. sets node c.args.side a.root a.height b.root b.height (1 + c.max-height.result) x p.0 p.1 w v p.2 (omega (arith, c.max-height.ensures)) p.3 p.4 q)) (search rules) (search rules)
