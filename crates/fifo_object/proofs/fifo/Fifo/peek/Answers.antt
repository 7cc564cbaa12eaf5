use Rattle.std.proofs.Common.{◌≡◌, rules}
use Rattle.std.proofs.lemmas.Result.{IfOk-weaker}
use Rattle.cx_base.specs.Memory.{Reads}
use Rattle.cx_base.proofs.ReadLemmas.{Reads-then, Reads-weaker}
use Rattle.fifo_object.specs.Words.{words_of_item}
use Rattle.fifo_object.specs.Fifo.{item_at}
use Rattle.fifo_object.proofs.Runs.{found, none_front, some_front}
use Rattle.fifo_object.proofs.fifo.Fifo.peek.Goals as goal

pub returns-then-ends-eq0 : goal.returns-then-ends-eq0
returns-then-ends-eq0 g c =
    let ends = c.in_ok-ends.ends in
    found (Reads-weaker c.in_ok-ends.ensures.finds.done (λ ws r. none_front ws c.put_words.new.reply ends.count r.1 c.if-ends-eq0.true c.put_words.ensures)) (search rules) (search rules) (search rules)

pub returns : goal.returns
returns g c =
    let ends = c.in_ok-ends.ends in
    found (IfOk-weaker c.item_reply.result (λ _. Reads (g.M.Memory.stands c.ends.new.mem) (g.M.Memory.stands c.item_reply.new.mem) (λ now. c.item_reply.new.reply ≡ words_of_item 3 (item_at now ends.head))) _
    (λ _ f. Reads-then c.in_ok-ends.ensures.finds.done f (λ ws r reply_is. some_front ws c.item_reply.new.reply ends.head ends.count r.0 r.1 c.if-ends-eq0.false reply_is)) c.item_reply.ensures.done) (search rules) (search rules) (search rules)
