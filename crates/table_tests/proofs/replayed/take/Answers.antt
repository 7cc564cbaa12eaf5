use Rattle.table_tests.proofs.Tried.{taken_tried}
use Rattle.table_tests.proofs.replayed.take.Goals as goal

-- where the try handed a right out, the replica was just taken by it
pub returns-clause-taken : goal.returns-clause-taken
returns-clause-taken g c =
    let shared = c.args.shared.now in
    let e = c.in_ok-right.ensures in
    taken_tried (g.O.Object.line_count shared.object) shared g.O.Object.step g.O.Object.only_reads (g.O.Object.lawful shared.object) c.args.r c.in_ok-right.field-0-0 c.args.seat.now c.try_exclusive.new.seat c.in_ok-right.right c.requires.sized e.step.made e.token e.step.fits
