use Rattle.std.proofs.Common.{◌≡◌, ◌+◌, rules}
use Rattle.cx_base.specs.Memory.{Becomes}
use Rattle.cx_base.proofs.MemoryLemmas.{Becomes-then}
use Rattle.std.proofs.lemmas.Result.{IfOk-weaker}
use Rattle.cx_base.proofs.ReadLemmas.{Reads-none, Reads-loaded, Becomes-from-read}
use Rattle.avl_words.specs.Lines.{with_word, word_of}
use Rattle.word_index.proofs.ExactRuns.{new_line_runs, given_line_runs}
use Rattle.word_index.proofs.Taking.{new_line, given_line, head_there}
use Rattle.avl_words.proofs.Memories.{changed, storable}
use Rattle.word_index.proofs.taken.take_line.Goals as goal

pub returns-then-head-eq0-clause-changes : goal.returns-then-head-eq0-clause-changes
returns-then-head-eq0-clause-changes g c =
    let head = c.in_ok-head.head in
    let r = Reads-loaded (Reads-none _ c.requires.all) c.in_ok-head.ensures.done in
    changed (IfOk-weaker c.take_new.result (λ line. Becomes (g.M.Memory.stands c.word.new.mem) (g.M.Memory.stands c.take_new.new.mem) (λ before now. (word_of before 0 3 ≡ line) × (now ≡ with_word 0 3 (line + 1) before))) _
    (λ line b. Becomes-then (Becomes-from-read r) b (λ x y z p q. new_line x y z head line p.0 p.1.1 c.if-head-eq0.true q))
    c.take_new.ensures.done) (search rules) (search rules)

pub take_given-requires : goal.take_given-requires
take_given-requires g c =
    let head = c.in_ok-head.head in
    let r = Reads-loaded (Reads-none _ c.requires.all) c.in_ok-head.ensures.done in
    storable (search rules) (search rules) (λ first now s. (let p = (r.from first now s).1 in head_there now head 1 p.0 c.if-head-eq0.false p.1))

pub returns-clause-changes : goal.returns-clause-changes
returns-clause-changes g c =
    let head = c.in_ok-head.head in
    let r = Reads-loaded (Reads-none _ c.requires.all) c.in_ok-head.ensures.done in
    changed (Becomes-then (Becomes-from-read r) c.in_ok-take_given.ensures.done (λ x y z p q. given_line x y z head p.0 p.1.1 c.if-head-eq0.false q)) (search rules) (search rules)

pub returns-then-head-eq0-clause-exact : goal.returns-then-head-eq0-clause-exact
returns-then-head-eq0-clause-exact g c =
    let head = c.in_ok-head.head in
    let r = Reads-loaded (Reads-none _ c.requires.all) c.in_ok-head.ensures.done in
    IfOk-weaker c.take_new.result (λ line. Becomes (g.M.Memory.stands c.word.new.mem) (g.M.Memory.stands c.take_new.new.mem) (λ before now. (word_of before 0 3 ≡ line) × (now ≡ with_word 0 3 (line + 1) before))) _
    (λ line b. Becomes-then (Becomes-from-read r) b (λ x y z p q. new_line_runs x y z head line p.0 p.1.1 c.if-head-eq0.true q))
    c.take_new.ensures.done

pub returns-clause-exact : goal.returns-clause-exact
returns-clause-exact g c =
    let head = c.in_ok-head.head in
    let r = Reads-loaded (Reads-none _ c.requires.all) c.in_ok-head.ensures.done in
    Becomes-then (Becomes-from-read r) c.in_ok-take_given.ensures.done (λ x y z p q. given_line_runs x y z head p.0 p.1.1 c.if-head-eq0.false q)
