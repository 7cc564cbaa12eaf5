use Rattle.std.proofs.Common.{◌≡◌, ◌+◌, ◌-◌, ◌%◌, slice_set, sym, ap, ◌∙◌, refl, rules}
use Rattle.cx_base.specs.Memory.{Becomes, Reads}
use Rattle.cx_base.proofs.MemoryLemmas.{Becomes-store, Becomes-weaker}
use Rattle.cx_base.proofs.ReadLemmas.{Becomes-from-read, Reads-then}
use Rattle.fifo_object.specs.Words.{words_of_item}
use Rattle.fifo_object.specs.Fifo.{count_in, queue_head, item_at}
use Rattle.fifo_object.proofs.Runs.{both, changed, none_runs, take_runs}
use Rattle.fifo_object.proofs.fifo.Fifo.pop.Goals as goal

pub returns-then-ends-eq0 : goal.returns-then-ends-eq0
returns-then-ends-eq0 g c =
    let ends = c.in_ok-ends.ends in
    changed (Becomes-weaker (Becomes-from-read c.in_ok-ends.ensures.finds.done) (λ first x y s r. none_runs c.args.self.now.lines x y c.put_words.new.reply ends.count r.0 r.1.1 c.if-ends-eq0.true c.put_words.ensures)) (search rules) (search rules)

pub returns : goal.returns
returns g c =
    let ends = c.in_ok-ends.ends in
    let lines = c.args.self.now.lines in
    let reply = c.item_reply.new.reply in
    let next = (ends.head + 1) % (lines - 1) in
    let read : Reads (g.M.Memory.stands c.args.mem.now) (g.M.Memory.stands c.item_reply.new.mem) (λ ws. ((queue_head ws ≡ ends.head) × (count_in ws ≡ ends.count)) × (reply ≡ words_of_item 3 (item_at ws ends.head))) =
    Reads-then c.in_ok-ends.ensures.finds.done c.in_ok-item_reply.ensures.done (λ ws r reply_is. (r, reply_is)) in
    let headed : Becomes (g.M.Memory.stands c.args.mem.now) (g.M.Memory.stands c.store.new.self) (λ x z. (z ≡ slice_set x 1 next) × (queue_head x ≡ ends.head) × (count_in x ≡ ends.count) × (reply ≡ words_of_item 3 (item_at x ends.head))) =
    Becomes-store (Becomes-from-read read) c.in_ok-store.ensures.stands
    (λ first x y s r. (
      ap (λ w. slice_set w 1 next) r.0,
      ap queue_head (sym r.0) ∙ r.1.0.0,
      ap count_in (sym r.0) ∙ r.1.0.1,
      r.1.1 ∙ ap (λ w. words_of_item 3 (item_at w ends.head)) r.0,
    )) in
    changed (Becomes-store headed c.in_ok-store-2.ensures.stands (λ first x y s r.
    take_runs lines x reply ends.head ends.count next (ends.count - 1) r.1 r.2 c.if-ends-eq0.false refl refl r.3 ∙ ap (λ w. both (slice_set w 2 (ends.count - 1)) reply) (sym r.0))) (search rules) (search rules)
