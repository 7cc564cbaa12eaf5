use Rattle.std.proofs.Common.{◌+◌, ap, subst, sym, arith}
use Rattle.table_invariant.specs.Seats.{Seated}
use Rattle.replica.specs.Copies.{HoldsBothIn}
use Rattle.replica.specs.Replays.{noted_place}
use Rattle.replica.proofs.Listing.{both_loaded, listed_marks}
use Rattle.replica.proofs.copy.mark_listed.Goals as goal

pub returns-clause-listed : goal.returns-clause-listed
returns-clause-listed g c = λ is.
    listed_marks g.O.Object c.args.shared.now c.args.to (146 + c.lines.result) c.noted_place-from.result c.mark_changed.new.marks c.args.seat.now c.some_dirty.new.self c.mark_changed.new.seat
    c.some_dirty.ensures.same c.mark_changed.ensures.leaves c.in-None.ensures.none (ap (λ n. 146 + n) c.lines.ensures.value) c.noted_place-from.ensures c.if-to-from.false (c.mark_changed.ensures.marks is)

pub returns-clause-both : goal.returns-clause-both
returns-clause-both g c =
    let t = c.args.shared.now in
    both_loaded g.O.Object t c.args.held.now c.args.source.now c.some_dirty.new.self c.mark_changed.new.seat c.mark_changed.ensures.leaves
    (subst (λ (s : Seated). HoldsBothIn g.O.Object t s c.args.held.now c.args.source.now) (sym c.some_dirty.ensures.same) c.requires)

pub returns-clause-steps : goal.returns-clause-steps
returns-clause-steps g c =
    let same = ap (λ (s : Seated). s.known.local.steps) c.some_dirty.ensures.same in
    let place = ap (λ (s : Seated). noted_place s) c.some_dirty.ensures.same in
    let most = c.mark_changed.ensures.steps in
    omega (arith, same, place, most, c.noted_place-from.ensures, c.callers.ensures.value, c.if-to-from.false)
