use Rattle.std.proofs.Common.{◌≡◌, sym, subst, ◌∙◌, []}
use Rattle.cx_core.specs.Region.{region_words}
use Rattle.cx_core.specs.Rights.{held_dirty}
use Rattle.table_invariant.specs.Seats.{Seated}
use Rattle.replica.proofs.Persisting.{none_left, persisted_image}
use Rattle.replica.specs.Flushes.{Persists}
use Rattle.replica.specs.Replays.{IsHeldImage}
use Rattle.replica.proofs.flushes.flush.Goals as goal

pub returns-clause-clean : goal.returns-clause-clean
returns-clause-clean g c =
    let seat = c.loop-at.seat in
    let held = c.loop-at.invariant.still in
    subst (λ (s : Seated). held_dirty s.known.local.exclusive ≡ []) (sym c.in_default.ensures.same)
    (none_left seat.region (region_words (g.O.Object.line_count c.args.shared.now.object)) (held_dirty seat.known.local.exclusive) (held.of.region ∙ held.sized.region) held.dirty c.in_default.ensures.none)

pub returns-in_err-persist_dirty-clause-image : goal.returns-in_err-persist_dirty-clause-image
returns-in_err-persist_dirty-clause-image g c image =
    let t = c.args.shared.now in
    let held = c.args.held.now in
    let mid = c.loop-at.seat in
    persisted_image g.O.Object t held mid c.persist_dirty.new.seat (subst (λ (s : Seated). Persists g.O.Object t held s c.persist_dirty.new.seat) c.some_dirty.ensures.same c.persist_dirty.ensures.persists) (persisted_image g.O.Object t held c.args.seat.now mid c.loop-at.invariant image)

pub returns-clause-image : goal.returns-clause-image
returns-clause-image g c image =
    let t = c.args.shared.now in
    let mid = c.loop-at.seat in
    subst (λ (s : Seated). IsHeldImage (g.O.Object.line_count t.object) (g.O.Object.lawful t.object) t.base (g.O.Object.step t.object) s.known) (sym c.in_default.ensures.same)
    (persisted_image g.O.Object t c.args.held.now c.args.seat.now mid c.loop-at.invariant image)
