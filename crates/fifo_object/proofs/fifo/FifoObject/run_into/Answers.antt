use Rattle.std.proofs.Common.{◌≡◌, replicate, refl, sym, arith, rules}
use Rattle.std.proofs.lemmas.Result.{IfOk-weaker}
use Rattle.cx_base.specs.Memory.{Becomes, Reads}
use Rattle.cx_base.proofs.MemoryLemmas.{Becomes-same, Becomes-weaker}
use Rattle.cx_base.proofs.ReadLemmas.{Becomes-from-read}
use Rattle.fifo_object.specs.Words.{item_in, kind_in, number_item, words_of_item}
use Rattle.fifo_object.specs.Fifo.{count_in, front_words, pop_step, push_step}
use Rattle.fifo_object.proofs.Runs.{both, changed, len_is, none_is, peek_is, pop_is, push_is}
use Rattle.fifo_object.proofs.fifo.FifoObject.run_into.Goals as goal

pub returns-in-1 : goal.returns-in-1
returns-in-1 g c =
    let op = c.args.op.now in
    let lines = c.args.self.now.lines in
    let kind : kind_in op ≡ 1 = omega arith in
    changed (IfOk-weaker c.push.result (λ _. Becomes (g.M.Memory.stands c.args.mem.now) (g.M.Memory.stands c.push.new.mem) (λ x y. push_step lines (item_in op) x ≡ both y c.push.new.reply)) _
    (λ _ b. Becomes-weaker b (λ first x y s e. push_is lines x y op c.push.new.reply kind e)) c.push.ensures.done) (search rules) (search rules)

pub returns-in-2 : goal.returns-in-2
returns-in-2 g c =
    let op = c.args.op.now in
    let lines = c.args.self.now.lines in
    let kind : kind_in op ≡ 2 = omega arith in
    changed (IfOk-weaker c.pop.result (λ _. Becomes (g.M.Memory.stands c.args.mem.now) (g.M.Memory.stands c.pop.new.mem) (λ x y. pop_step lines x ≡ both y c.pop.new.reply)) _
    (λ _ b. Becomes-weaker b (λ first x y s e. pop_is lines x y op c.pop.new.reply kind e)) c.pop.ensures.done) (search rules) (search rules)

pub returns-in-3 : goal.returns-in-3
returns-in-3 g c =
    let op = c.args.op.now in
    let kind : kind_in op ≡ 3 = omega arith in
    changed (IfOk-weaker c.peek.result (λ _. Reads (g.M.Memory.stands c.args.mem.now) (g.M.Memory.stands c.peek.new.mem) (λ now. c.peek.new.reply ≡ front_words now)) _
    (λ _ r. Becomes-weaker (Becomes-from-read r) (λ first x y s t. peek_is c.args.self.now.lines x y op c.peek.new.reply kind t.0 t.1)) c.peek.ensures.done) (search rules) (search rules)

pub returns-in-4 : goal.returns-in-4
returns-in-4 g c =
    let op = c.args.op.now in
    let kind : kind_in op ≡ 4 = omega arith in
    changed (IfOk-weaker c.len.result (λ _. Reads (g.M.Memory.stands c.args.mem.now) (g.M.Memory.stands c.len.new.mem) (λ now. c.len.new.reply ≡ words_of_item 5 (number_item (count_in now)))) _
    (λ _ r. Becomes-weaker (Becomes-from-read r) (λ first x y s t. len_is c.args.self.now.lines x y op c.len.new.reply kind t.0 t.1)) c.len.ensures.done) (search rules) (search rules)

pub returns-in_default : goal.returns-in_default
returns-in_default g c =
    let op = c.args.op.now in
    changed (Becomes-weaker (Becomes-same _) (λ first x y s e.
    none_is c.args.self.now.lines x y op (replicate 144 0) (λ k. omega (arith, k)) (λ k. omega (arith, k)) (λ k. omega (arith, k)) (λ k. omega (arith, k)) (sym e) refl)) (search rules) (search rules)
