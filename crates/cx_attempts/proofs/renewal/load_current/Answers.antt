use Rattle.cx_attempts.proofs.Kept.{seen_current}
use Rattle.cx_attempts.proofs.renewal.load_current.Goals as goal

pub returns-clause-seen : goal.returns-clause-seen
returns-clause-seen g c =
    let t = c.args.shared.now in
    seen_current g.O.Object t c.args.seat.now c.load_cur.new.seat c.args.held.now c.in_ok-load_cur.field-0 c.in_ok-load_cur.ensures.made c.requires.held
