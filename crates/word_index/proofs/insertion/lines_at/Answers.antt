use Rattle.std.proofs.Common.{◌≡◌, ℕ, List, refl, rules}
use Rattle.cx_base.specs.Store.{pair_lines}
use Rattle.cx_base.specs.Memory.{Reads}
use Rattle.std.proofs.lemmas.Result.{IfOk-weaker}
use Rattle.cx_base.proofs.ReadLemmas.{Reads-none, Reads-weaker}
use Rattle.word_index.specs.Answers.{IsNodeOf}
use Rattle.avl_words.proofs.Memories.{found, loadable}
use Rattle.word_index.proofs.insertion.lines_at.Goals as goal

pub returns-then-node-eq0 : goal.returns-then-node-eq0
returns-then-node-eq0 g c = found (Reads-none _ (λ first now s. record { none = λ z. refl; some = λ ne pair is. absurd (ne c.if-node-eq0.true) })) (search rules) (search rules) (search rules)

pub lines_of_node-requires : goal.lines_of_node-requires
lines_of_node-requires g c = loadable (search rules) (λ first now s. c.requires.all first now s c.if-node-eq0.false)

pub returns-else-node-eq0 : goal.returns-else-node-eq0
returns-else-node-eq0 g c =
    found (IfOk-weaker c.lines_of_node.result (λ n. Reads (g.M.Memory.stands c.args.mem.now) (g.M.Memory.stands c.lines_of_node.new.mem) (λ ws. (pair : List ℕ × List ℕ) → IsNodeOf ws c.args.node pair → n ≡ pair_lines pair)) _
    (λ n r. Reads-weaker r (λ ws p. record { none = λ z. absurd (c.if-node-eq0.false z); some = λ ne pair is. p pair is }))
    c.lines_of_node.ensures.done) (search rules) (search rules) (search rules)
