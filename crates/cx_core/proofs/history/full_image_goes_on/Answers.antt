use Rattle.cx_core.proofs.HistoryLemmas.{goes_on}
use Rattle.cx_core.proofs.history.full_image_goes_on.Goals as goal

pub returns : goal.returns
returns g c = goes_on (g.O.Object.step c.args.object.now) c.args.base.now c.args.history.now c.args.ticket c.requires
