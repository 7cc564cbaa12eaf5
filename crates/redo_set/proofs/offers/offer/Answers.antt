use Rattle.std.proofs.Common.{◌≡◌, ◌+◌, ◌*◌, ◌≤◌, inl, inr, ℕ, List, slice_index, ap, sym, subst, arith}
use Rattle.std.proofs.lemmas.Option.{slice_get-get_or}
use Rattle.cx_core.specs.QueueEvents.{cell_of}
use Rattle.table_invariant.specs.Running.{IsSeatOf, instance_at}
use Rattle.table_invariant.specs.Seats.{Seated}
use Rattle.table_invariant.proofs.Stepping.{on_same, on_then, on_then_one}
use Rattle.redo_set.specs.Offering.{OffersSet}
use Rattle.redo_set.proofs.Offerings.{HasWritten, no_cell, offered_now, offers_still, put_can, tells_written, writes_of, writes_still, written_kept, written_more, written_none}
use Rattle.redo_set.proofs.offers.offer.Goals as goal

pub loop-i-init : goal.loop-i-init
loop-i-init g c =
    let s = c.args.seat.now in
    let cells = c.number.ensures.cells in
    let small = c.requires.may.can.0 in
    let shape = cells.each c.args.cell (cell_of s.known.local c.args.cell) (slice_get-get_or s.known.local.cells c.args.cell no_cell (omega (arith, small, cells.count))) in
    record { written = written_none s c.args.cell c.requires.may.can cells c.args.set.now shape.set; of = c.requires.may.of; since = omega arith }

pub write_differing-requires : goal.write_differing-requires
write_differing-requires g c =
    let s = c.args.seat.now in
    let w = c.loop-i.invariant.written in
    record {
      seat = c.loop-i.invariant.of;
      guard = (put_can s c.args.cell c.requires.may.can c.number.ensures.cells w.words c.loop-i.seat.known.local.steps c.loop-i.seat w.is, omega (arith, c.loop-i-test.true, c.len.ensures.few), c.word.type_inv);
    }

pub loop-i-preserved : goal.loop-i-preserved
loop-i-preserved g c =
    let s = c.args.seat.now in
    let can = c.requires.may.can in
    let cells = c.number.ensures.cells in
    let i = c.loop-i.i in
    let instance = instance_at c.args.shared.now g.O.Object.step g.O.Object.only_reads in
    record {
      written = elim c.in_ok-write_differing.ensures.made [
        | inl same ↦ written_kept s c.args.cell can cells c.args.set.now i c.word.result c.loop-i.seat c.write_differing.new.seat c.word.ensures c.loop-i.invariant.written same.0 same.1
        | inr made ↦ written_more s c.args.cell can cells instance c.args.set.now i c.word.result c.loop-i.seat c.write_differing.new.seat (omega (arith, c.loop-i-test.true, c.len.ensures.few)) c.word.ensures c.loop-i.invariant.written made.made
      ];
      of = elim c.in_ok-write_differing.ensures.made [ inl same ↦ subst (IsSeatOf c.args.shared.now) (sym same.1) c.loop-i.invariant.of | inr made ↦ made.seat ];
      since = elim c.in_ok-write_differing.ensures.made [
        | inl same ↦ on_then s c.loop-i.seat c.write_differing.new.seat c.loop-i.invariant.since (on_same c.loop-i.seat c.write_differing.new.seat same.1)
        | inr made ↦ on_then_one s c.loop-i.seat c.write_differing.new.seat c.loop-i.invariant.since (ap (λ (x : Seated). x.known.local.steps) made.made)
      ];
    }

-- all words were written
all_written : (i len first : ℕ) (cell : ℕ) (pairs : List ℕ) (s t : Seated) → 2 * len + 1 ≤ i → i ≤ 2 * len + 1 → len ≡ first → HasWritten cell pairs i s t → HasWritten cell pairs (2 * first + 1) s t
all_written i len first cell pairs s t past most count was = subst (λ n. HasWritten cell pairs n s t) (let same : i ≡ 2 * first + 1 = omega (arith, past, most, count) in same) was

pub offer-requires-clause-may : goal.offer-requires-clause-may
offer-requires-clause-may g c =
    let w = c.loop-i.invariant.written in
    record { seat = c.loop-i.invariant.of; guard = put_can c.args.seat.now c.args.cell c.requires.may.can c.number.ensures.cells w.words c.loop-i.seat.known.local.steps c.loop-i.seat w.is }

pub offer-requires-clause-of_ticket : goal.offer-requires-clause-of_ticket
offer-requires-clause-of_ticket g c =
    let r = c.args.shared.now in
    tells_written c.args.seat.now c.args.cell c.requires.may.can c.number.ensures.cells r.lines (g.O.Object.lawful r.object) r.base (g.O.Object.step r.object) c.args.ticket c.args.set.now c.loop-i.seat c.requires.may.named
    (all_written c.loop-i.i c.len.result (slice_index c.args.set.now 0) c.args.cell c.args.set.now c.args.seat.now c.loop-i.seat c.loop-i-test.false c.loop-i.auto.i-end c.len.ensures.count c.loop-i.invariant.written) c.requires.write_set

pub returns-in_err-write_differing-clause-leaves : goal.returns-in_err-write_differing-clause-leaves
returns-in_err-write_differing-clause-leaves g c =
    let s = c.args.seat.now in
    let cells = c.number.ensures.cells in
    let t = c.write_differing.new.seat in
    let halted = c.in_err-write_differing.ensures.halted in
    record {
      has = writes_still s c.args.cell c.requires.may.can cells t (writes_of s c.args.cell c.requires.may.can cells c.args.set.now c.loop-i.i c.loop-i.seat t c.loop-i.invariant.written halted.same);
      of = halted.seat;
      since = on_then s c.loop-i.seat t c.loop-i.invariant.since (on_same c.loop-i.seat t halted.same);
    }

pub returns-in_err-offer-clause-leaves : goal.returns-in_err-offer-clause-leaves
returns-in_err-offer-clause-leaves g c =
    let s = c.args.seat.now in
    let cells = c.number.ensures.cells in
    let t = c.offer.new.seat in
    let halted = c.in_err-offer.ensures.halted in
    record {
      has = writes_still s c.args.cell c.requires.may.can cells t (writes_of s c.args.cell c.requires.may.can cells c.args.set.now c.loop-i.i c.loop-i.seat t c.loop-i.invariant.written halted.same);
      of = halted.seat;
      since = on_then s c.loop-i.seat t c.loop-i.invariant.since (on_same c.loop-i.seat t halted.same);
    }

-- what was offered
offers : (g : _) (c : goal.In_ok-offer g) → OffersSet c.args.cell c.args.ticket c.args.set.now c.args.seat.now c.offer.new.seat
offers g c =
    offered_now c.args.seat.now c.args.cell c.requires.may.can c.number.ensures.cells (instance_at c.args.shared.now g.O.Object.step g.O.Object.only_reads) c.args.ticket c.args.set.now c.loop-i.seat c.offer.new.seat c.requires.may.named
    (all_written c.loop-i.i c.len.result (slice_index c.args.set.now 0) c.args.cell c.args.set.now c.args.seat.now c.loop-i.seat c.loop-i-test.false c.loop-i.auto.i-end c.len.ensures.count c.loop-i.invariant.written) c.in_ok-offer.ensures.made.made

pub returns-clause-offered : goal.returns-clause-offered
returns-clause-offered g c = record { offers = offers g c; fits = c.in_ok-offer.ensures.fits }

pub returns-clause-leaves : goal.returns-clause-leaves
returns-clause-leaves g c =
    let made = c.in_ok-offer.ensures.made in
    record {
      has = offers_still c.args.seat.now c.args.cell c.requires.may.can c.number.ensures.cells c.args.ticket c.args.set.now c.offer.new.seat (offers g c);
      of = made.seat;
      since = on_then_one c.args.seat.now c.loop-i.seat c.offer.new.seat c.loop-i.invariant.since (ap (λ (x : Seated). x.known.local.steps) made.made);
    }
