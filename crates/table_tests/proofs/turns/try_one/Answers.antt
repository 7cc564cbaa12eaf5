use Rattle.table_tests.proofs.Rights.{took_it}
use Rattle.table_tests.proofs.turns.try_one.Goals as goal

-- the try that answered a right just took the replica, and the caller has no other right
pub returns-in-Got-clause-taken : goal.returns-in-Got-clause-taken
returns-in-Got-clause-taken g c =
    let e = c.in_ok-held.ensures in
    took_it g.O.Object.line_count g.O.Object.lawful c.args.shared.now g.O.Object.step g.O.Object.only_reads c.args.r c.args.seat.now c.try_exclusive.new.seat c.in_ok-held.field-0 c.in-Got.held c.lines-lines.ensures.running c.requires.free e.made c.in-Got.is e.fits
