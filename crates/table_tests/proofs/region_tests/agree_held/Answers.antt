use Rattle.std.proofs.Common.{true, subst, sym}
use Rattle.cx_core.specs.Region.{region_words}
use Rattle.table_invariant.specs.Fitting.{FitsKnown}
use Rattle.table_invariant.specs.Running.{Running}
use Rattle.table_invariant.specs.Seats.{Seated}
use Rattle.replica.specs.Stepping.{IsSteppable}
use Rattle.replica.proofs.Stepping.{image_steppable}
use Rattle.table_tests.proofs.region_tests.agree_held.Goals as goal

-- the place of the replica leaves room for `count` entries, so as many full steps can be done on its region
pub agree-requires-clause-mem : goal.agree-requires-clause-mem
agree-requires-clause-mem g c =
    let Can : Running g.row.O.Denot → g.row.O.Denot → Seated → Type 0 = λ r o s. IsSteppable (g.O.Object.line_count o) (g.O.Object.lawful o) (region_words (g.O.Object.line_count r.object)) true (FitsKnown (g.O.Object.line_count r.object) (g.O.Object.lawful r.object) r.base (g.O.Object.step r.object) s.known) c.args.count in
    let shared = c.args.shared.now in
    let here : Can shared shared.object c.args.seat.now = image_steppable (g.O.Object.line_count shared.object) (g.O.Object.lawful shared.object) shared.base (g.O.Object.step shared.object) c.args.seat.now.known c.args.count c.requires.image c.requires.place in
    subst (λ o. Can c.of-region.result.table.now o c.of-region.result.seat.now) (sym c.object-object.ensures)
    (subst (λ r. Can r shared.object c.of-region.result.seat.now) (sym c.of-region.ensures.table) (subst (λ s. Can shared shared.object s) (sym c.of-region.ensures.seat) here))
