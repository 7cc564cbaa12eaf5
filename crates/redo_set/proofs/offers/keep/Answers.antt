use Rattle.redo_set.proofs.Keeping.{leaves_keeping}
use Rattle.redo_set.proofs.offers.keep.Goals as goal

pub returns-clause-leaves : goal.returns-clause-leaves
returns-clause-leaves g c = leaves_keeping c.args.shared.now c.args.ticket _ c.args.seat.now c.keep_set.new.seat c.keep_set.ensures.kept
