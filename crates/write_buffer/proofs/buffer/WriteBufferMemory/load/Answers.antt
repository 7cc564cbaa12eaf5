use Rattle.std.proofs.Common.{◌≡◌, ◌≢◌, ◌<◌, ◌+◌, slice_index, slice_set, subst, sym, arith}
use Rattle.cx_base.specs.Memory.{Loaded}
use Rattle.write_buffer.specs.Buffering.{Shows}
use Rattle.write_buffer.proofs.Buffered.{found_there, shows_held, shows_push}
use Rattle.write_buffer.proofs.buffer.WriteBufferMemory.load.Goals as goal

pub returns-then-i-self-clause-stands : goal.returns-then-i-self-clause-stands
returns-then-i-self-clause-stands g c =
    let b = c.args.self.now in
    let h = b.held.now in
    let size = g.M.Memory.size b.inner.now in
    let here = c.find-i.ensures.there c.if-i-self.true in
    let stands = g.M.Memory.stands c.load.new.self in
    let same = found_there size h.count c.find-i.result c.args.at c.in_ok-word.word h.places h.found h.values c.if-i-self.true here (g.met.M.Memory.some_stands c.load.new.self) b.is c.in_ok-word.ensures.stands in
    subst (λ n. Loaded c.args.at (slice_index h.values c.find-i.result) (Shows (g.M.Memory.stands b.inner.now) size h.count h.places h.values) (Shows stands n h.count h.places h.values)) (sym c.in_ok-word.ensures.access.size_kept)
    (shows_held size h.count c.find-i.result c.args.at c.in_ok-word.word h.places h.found h.values c.if-i-self.true here same b.is c.in_ok-word.ensures.stands)

pub returns-clause-stands : goal.returns-clause-stands
returns-clause-stands g c =
    let b = c.args.self.now in
    let h = b.held.now in
    let size = g.M.Memory.size b.inner.now in
    let stands = g.M.Memory.stands c.load.new.self in
    let within = c.find-i.ensures.within in
    let ge = c.if-i-self.false in
    let all : c.find-i.result ≡ h.count = omega (arith, within, ge) in
    let few = b.is.few in
    let other : h.count ≢ 192 = c.if-self-eq192.false in
    let room : h.count < 192 = omega (arith, few, other) in
    let x = c.in_ok-word.word in
    rw (c.push.ensures.count, c.push.ensures.places, c.push.ensures.values) (
    subst (λ n. Loaded c.args.at x (Shows (g.M.Memory.stands b.inner.now) size h.count h.places h.values) (Shows stands n (h.count + 1) (slice_set h.places h.count c.args.at) (slice_set h.values h.count x))) (sym c.in_ok-word.ensures.access.size_kept)
    (shows_push size h.count c.args.at x h.places h.found h.values room b.is (c.find-i.ensures.free all) c.in_ok-word.ensures.stands))
