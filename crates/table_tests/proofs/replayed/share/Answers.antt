use Rattle.std.proofs.Common.{IfSome, subst, sym}
use Rattle.replica.specs.Held.{IsHeldShared}
use Rattle.table_tests.proofs.Tried.{shared_tried}
use Rattle.table_tests.proofs.replayed.share.Goals as goal

-- where the try handed a hold out, the caller holds the replica shared
pub returns : goal.returns
returns g c =
    let shared = c.args.shared.now in
    let e = c.in_ok-right.ensures in
    subst (λ o. IfSome o (IsHeldShared (g.O.Object.line_count shared.object) shared (g.O.Object.lawful shared.object) c.try_shared.new.seat)) (sym c.ok.ensures.value)
    (shared_tried (g.O.Object.line_count shared.object) shared g.O.Object.step g.O.Object.only_reads (g.O.Object.lawful shared.object) c.args.r c.in_ok-right.field-0-0 c.try_shared.new.seat c.in_ok-right.right c.requires.sized e.step.made.seat e.token e.step.fits)
