use Rattle.std.proofs.Common.{◌≡◌, ◌+◌, ◌-◌, ◌*◌, ◌%◌, ◌<◌, sym, ap, ◌∙◌, refl, arith, rules}
use Rattle.cx_base.specs.Memory.{Becomes, overwritten}
use Rattle.cx_base.proofs.MemoryLemmas.{Becomes-store, Becomes-then, Becomes-weaker}
use Rattle.cx_base.proofs.ReadLemmas.{Becomes-from-read}
use Rattle.fifo_object.specs.Fifo.{count_in, queue_head}
use Rattle.fifo_object.proofs.Runs.{changed, full_runs, put_runs}
use Rattle.fifo_object.proofs.fifo.Fifo.push.Goals as goal

pub returns-then-self-ends : goal.returns-then-self-ends
returns-then-self-ends g c =
    let ends = c.in_ok-ends.ends in
    changed (Becomes-weaker (Becomes-from-read c.in_ok-ends.ensures.finds.done)
    (λ first x y s r. full_runs c.args.self.now.lines c.args.item.now x y c.put_words.new.reply ends.count r.0 r.1.1 c.if-self-ends.true c.put_words.ensures)) (search rules) (search rules)

pub returns : goal.returns
returns g c =
    let ends = c.in_ok-ends.ends in
    let lines = c.args.self.now.lines in
    let item = c.args.item.now in
    let place = (ends.head + ends.count) % (lines - 1) in
    let room : ends.count < lines - 1 = omega arith in
    let put : Becomes (g.M.Memory.stands c.args.mem.now) (g.M.Memory.stands c.store_words.new.mem) (λ x z. (z ≡ overwritten (8 * (place + 1)) item x) × (queue_head x ≡ ends.head) × (count_in x ≡ ends.count)) =
    Becomes-then (Becomes-from-read c.in_ok-ends.ensures.finds.done) c.in_ok-store_words.ensures.done (λ x y z r d. (d ∙ ap (overwritten (8 * (place + 1)) item) r.0, ap queue_head (sym r.0) ∙ r.1.0, ap count_in (sym r.0) ∙ r.1.1)) in
    changed (Becomes-store put c.in_ok-store.ensures.stands (λ first x y s r.
    put_runs lines item x y c.put_words-2.new.reply ends.head ends.count place r.1 r.2 room refl r.0 c.put_words-2.ensures)) (search rules) (search rules)
