use Rattle.std.proofs.Common.{IfSome, subst, sym}
use Rattle.replica.specs.Copies.{HoldsBoth}
use Rattle.replica.proofs.CopySteps.{both_tried}
use Rattle.table_tests.proofs.copy_tests.share_beside.Goals as goal

-- where the shared try handed a hold out, the caller holds both replicas
pub returns-clause-both : goal.returns-clause-both
returns-clause-both g c =
    let shared = c.args.shared.now in
    let lines = g.O.Object.line_count shared.object in
    let lawful = g.O.Object.lawful shared.object in
    let e = c.in_ok-right.ensures in
    subst (λ o. IfSome o (HoldsBoth lines shared lawful (g.O.Object.step shared.object) c.try_shared.new.seat c.args.held.now)) (sym c.ok.ensures.value)
    (both_tried lines shared g.O.Object.step g.O.Object.only_reads lawful c.args.r c.in_ok-right.field-0-0 c.args.seat.now c.try_shared.new.seat c.args.held.now c.in_ok-right.right c.requires.held e.step.made e.token e.step.fits)
