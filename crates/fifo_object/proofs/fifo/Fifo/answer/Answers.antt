use Rattle.std.proofs.Common.{◌≡◌, refl, arith, rules}
use Rattle.std.proofs.lemmas.Result.{IfOk-weaker}
use Rattle.cx_base.specs.Memory.{Reads}
use Rattle.cx_base.proofs.ReadLemmas.{Reads-weaker}
use Rattle.fifo_object.specs.Words.{kind_in, number_item, words_of_item}
use Rattle.fifo_object.specs.Fifo.{count_in, front_words}
use Rattle.fifo_object.proofs.Runs.{found, len_is, other_reading, peek_is}
use Rattle.fifo_object.proofs.fifo.Fifo.answer.Goals as goal

pub returns-in-3 : goal.returns-in-3
returns-in-3 g c =
    let op = c.args.op.now in
    let kind : kind_in op ≡ 3 = omega arith in
    found (IfOk-weaker c.peek.result (λ _. Reads (g.M.Memory.stands c.args.mem.now) (g.M.Memory.stands c.peek.new.mem) (λ now. c.peek.new.reply ≡ front_words now)) _
    (λ _ r. Reads-weaker r (λ ws reply_is. peek_is c.args.self.now.lines ws ws op c.peek.new.reply kind refl reply_is)) c.peek.ensures.done) (search rules) (search rules) (search rules)

pub returns-in_default : goal.returns-in_default
returns-in_default g c =
    let op = c.args.op.now in
    let kind = other_reading op c.requires.reads (λ three. omega (arith, three)) in
    found (IfOk-weaker c.len.result (λ _. Reads (g.M.Memory.stands c.args.mem.now) (g.M.Memory.stands c.len.new.mem) (λ now. c.len.new.reply ≡ words_of_item 5 (number_item (count_in now)))) _
    (λ _ r. Reads-weaker r (λ ws reply_is. len_is c.args.self.now.lines ws ws op c.len.new.reply kind refl reply_is)) c.len.ensures.done) (search rules) (search rules) (search rules)
