use Rattle.std.proofs.Common.{◌≡◌, ◌<◌, ◌^◌, slice_set, IfOk, subst, sym, arith}
use Rattle.std.proofs.lemmas.Result.{IfOk-weaker}
use Rattle.cx_base.specs.Memory.{Stored}
use Rattle.write_buffer.specs.Buffering.{Shows}
use Rattle.write_buffer.proofs.Buffered.{found_there, shows_put, shows_store}
use Rattle.write_buffer.proofs.buffer.WriteBufferMemory.store.Goals as goal

pub returns-then-i-self-clause-stands : goal.returns-then-i-self-clause-stands
returns-then-i-self-clause-stands g c =
    let b = c.args.self.now in
    let h = b.held.now in
    let size = g.M.Memory.size b.inner.now in
    let here = c.find-i.ensures.there c.if-i-self.true in
    let stands = g.M.Memory.stands c.load.new.self in
    let fits : c.args.v < 2 ^ 64 = omega arith in
    let same = found_there size h.count c.find-i.result c.args.at c.in_ok-load.field-0 h.places h.found h.values c.if-i-self.true here (g.met.M.Memory.some_stands c.load.new.self) b.is c.in_ok-load.ensures.stands in
    subst (λ n. Stored c.args.at c.args.v (Shows (g.M.Memory.stands b.inner.now) size h.count h.places h.values) (Shows stands n h.count h.places (slice_set h.values c.find-i.result c.args.v))) (sym c.in_ok-load.ensures.access.size_kept)
    (shows_put size h.count c.find-i.result c.args.at c.in_ok-load.field-0 c.args.v h.places h.found h.values c.if-i-self.true fits here same b.is c.in_ok-load.ensures.stands)

pub returns-clause-stands : goal.returns-clause-stands
returns-clause-stands g c =
    let b = c.args.self.now in
    let h = b.held.now in
    let size = g.M.Memory.size b.inner.now in
    let stands = g.M.Memory.stands c.store.new.self in
    let within = c.find-i.ensures.within in
    let ge = c.if-i-self.false in
    let all : c.find-i.result ≡ h.count = omega (arith, within, ge) in
    let free = c.find-i.ensures.free all in
    let fits : c.args.v < 2 ^ 64 = omega arith in
    subst (λ n. IfOk c.store.result (λ _. Stored c.args.at c.args.v (Shows (g.M.Memory.stands b.inner.now) size h.count h.places h.values) (Shows stands n h.count h.places h.values))) (sym c.store.ensures.access.size_kept)
    (IfOk-weaker c.store.result (λ _. Stored c.args.at c.args.v (g.M.Memory.stands b.inner.now) stands) _
    (λ _ d. shows_store size h.count c.args.at c.args.v h.places h.values c.requires.at fits (g.met.M.Memory.words b.inner.now) free d)
    c.store.ensures.stands)
