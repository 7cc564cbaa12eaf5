use Rattle.cx_base.specs.Memory.{Becomes}
use Rattle.cx_base.proofs.MemoryLemmas.{Becomes-then}
use Rattle.std.proofs.lemmas.Result.{IfOk-weaker}
use Rattle.cx_base.proofs.ReadLemmas.{Reads-none, Reads-loaded, Becomes-from-read}
use Rattle.word_index.proofs.ExactRuns.{text_runs}
use Rattle.word_index.proofs.PairsGiven.{text_given}
use Rattle.word_index.specs.Changes.{ChainGiven}
use Rattle.word_index.specs.Exact.{with_chain_given}
use Rattle.std.proofs.Common.{◌≡◌, rules}
use Rattle.avl_words.proofs.Memories.{changed}
use Rattle.word_index.proofs.given_pairs.give_text.Goals as goal

pub returns-clause-changes : goal.returns-clause-changes
returns-clause-changes g c =
    let first = c.in_ok-first.first in
    let len = c.in_ok-len.len in
    let count = c.div_ceil.result in
    let r = Reads-loaded (Reads-loaded (Reads-none _ c.requires.memory.all) c.in_ok-first.ensures.done) c.in_ok-len.ensures.done in
    changed (IfOk-weaker c.give_chain.result (λ _. Becomes (g.M.Memory.stands c.word-2.new.mem) (g.M.Memory.stands c.give_chain.new.mem) (ChainGiven first count)) _
    (λ _ b. Becomes-then (Becomes-from-read r) b (λ x y z p q. text_given c.args.node c.args.at first len count x y z p.0 p.1.0.1 p.1.1 c.div_ceil.ensures q))
    c.give_chain.ensures.changes.done) (search rules) (search rules)

pub returns-clause-exact : goal.returns-clause-exact
returns-clause-exact g c =
    let first = c.in_ok-first.first in
    let len = c.in_ok-len.len in
    let count = c.div_ceil.result in
    let r = Reads-loaded (Reads-loaded (Reads-none _ c.requires.memory.all) c.in_ok-first.ensures.done) c.in_ok-len.ensures.done in
    IfOk-weaker c.give_chain.result (λ _. Becomes (g.M.Memory.stands c.word-2.new.mem) (g.M.Memory.stands c.give_chain.new.mem) (λ old now. now ≡ with_chain_given count first old)) _
    (λ _ b. Becomes-then (Becomes-from-read r) b (λ x y z p q. text_runs c.args.node c.args.at first len count x y z p.0 p.1.0.1 p.1.1 c.div_ceil.ensures q))
    c.give_chain.ensures.exact
