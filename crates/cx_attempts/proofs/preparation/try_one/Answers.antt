use Rattle.cx_attempts.proofs.Taken.{took_one}
use Rattle.cx_attempts.proofs.preparation.try_one.Goals as goal

pub returns-in-Got-clause-tried : goal.returns-in-Got-clause-tried
returns-in-Got-clause-tried g c =
    let e = c.in_ok-held.ensures in
    took_one g.O.Object c.args.shared.now c.args.r c.args.seat.now c.try_exclusive.new.seat c.in_ok-held.field-0 c.in-Got.held c.table_is_running.ensures c.requires.may.free e.made c.in-Got.is e.fits
