use Rattle.std.proofs.Common.{ap, ◌∙◌}
use Rattle.table_invariant.specs.Fitting.{has_of}
use Rattle.table_invariant.specs.Seats.{Seated, place_noted}
use Rattle.cx_attempts.proofs.Kept.{shows_same}
use Rattle.cx_attempts.proofs.replay.settle.Goals as goal

pub returns-clause-settled : goal.returns-clause-settled
returns-clause-settled g c =
    let t = c.args.shared.now in
    let held = c.args.held.now in
    let mid = c.own_reply.new.seat in
    let last = c.flush.new.seat in
    let e = c.in_ok-own_reply.ensures in
    let f = c.in_ok-flush.ensures in
    let kept = f.persists in
    record {
      ready = record { is_held = kept.still; image = f.image e.ready.image; place = ap (place_noted 0) kept.accesses ∙ e.ready.place };
      clean = f.clean;
      reply_is = shows_same g.O.Object t mid last held (ap (λ (s : Seated). has_of s.known) kept.rest) kept.accesses (ap (λ (s : Seated). s.known.local.number) kept.rest) c.own_reply.new.reply e.reply;
    }
