use Rattle.std.proofs.Common.{◌+◌, ◌∙◌, ap}
use Rattle.cx_core.specs.QueueEvents.{cell_of}
use Rattle.redo_replay.specs.Own.{HasApplied}
use Rattle.redo_replay.proofs.Ready.{applied_kept, applied_offered, leaves_held, leaves_kept, leaves_set}
use Rattle.redo_replay.proofs.set_replay.step_and_offer.Goals as goal

pub returns-clause-applied : goal.returns-clause-applied
returns-clause-applied g c =
    let t = c.args.shared.now in
    let mid = c.apply_noting.new.seat in
    let reply = c.apply_noting.new.reply in
    let caller = c.args.entry.now.caller in
    let e = c.in_ok-whole.ensures.ready in
    let applied : HasApplied g.O.Object t c.args.held.now (c.args.ticket + 1) caller reply mid = record {
      ready = record { is_held = e.0.is_held; image = e.0.image; place = e.0.place ∙ ap (λ n. n + 1) c.requires.ready.place };
      replied = e.1;
    } in
    let offered = c.in_ok-offer.ensures.offered in
    applied_offered g.O.Object t c.args.held.now (c.args.ticket + 1) caller reply mid c.offer.new.seat c.in-Some.cell offered.offers.set (c.args.ticket + 1) c.offer.new.seat.known.local.steps c.offer.ensures.leaves.of offered.offers.seat c.offer.ensures.leaves.has offered.fits applied

pub returns-in_err-offer-clause-leaves : goal.returns-in_err-offer-clause-leaves
returns-in_err-offer-clause-leaves g c =
    let mid = c.apply_noting.new.seat in
    let e = c.apply_noting.ensures.leaves in
    let cell = c.in-Some.cell in
    let left = c.offer.ensures.leaves in
    let written = c.in_err-offer.ensures.halts.0 in
    leaves_set c.args.shared.now c.args.held.now.replica c.args.seat.now mid c.offer.new.seat cell written.set (cell_of mid.known.local cell).offer c.offer.new.seat.known.local.steps
    (leaves_held c.args.shared.now c.args.held.now.replica c.args.seat.now mid e.still.of e.rest e.since) left.of written.seat left.since

pub returns-clause-leaves : goal.returns-clause-leaves
returns-clause-leaves g c =
    let mid = c.apply_noting.new.seat in
    let e = c.apply_noting.ensures.leaves in
    let left = c.offer.ensures.leaves in
    let offers = c.in_ok-offer.ensures.offered.offers in
    leaves_set c.args.shared.now c.args.held.now.replica c.args.seat.now mid c.offer.new.seat c.in-Some.cell offers.set (c.args.ticket + 1) c.offer.new.seat.known.local.steps
    (leaves_held c.args.shared.now c.args.held.now.replica c.args.seat.now mid e.still.of e.rest e.since) left.of offers.seat left.since

-- the only caller keeps the set
pub returns-then-callers-eq1 : goal.returns-then-callers-eq1
returns-then-callers-eq1 g c =
    let t = c.args.shared.now in
    let mid = c.apply_noting.new.seat in
    let reply = c.apply_noting.new.reply in
    let caller = c.args.entry.now.caller in
    let e = c.in_ok-whole.ensures.ready in
    let l = c.apply_noting.ensures.leaves in
    let left = c.keep.ensures.leaves in
    let kept = c.keep.ensures.kept in
    let applied : HasApplied g.O.Object t c.args.held.now (c.args.ticket + 1) caller reply mid = record {
      ready = record { is_held = e.0.is_held; image = e.0.image; place = e.0.place ∙ ap (λ n. n + 1) c.requires.ready.place };
      replied = e.1;
    } in
    record {
      applied = applied_kept g.O.Object t c.args.held.now (c.args.ticket + 1) caller reply mid c.keep.new.seat c.args.ticket _ kept.keeps left.has kept.fits applied;
      leaves = leaves_kept t c.args.held.now.replica c.args.seat.now mid c.keep.new.seat c.args.ticket _ (leaves_held t c.args.held.now.replica c.args.seat.now mid l.still.of l.rest l.since) kept.keeps left.since;
    }
