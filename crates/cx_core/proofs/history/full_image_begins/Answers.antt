use Rattle.cx_core.proofs.HistoryLemmas.{begins}
use Rattle.cx_core.proofs.history.full_image_begins.Goals as goal

pub returns : goal.returns
returns g c = begins (g.O.Object.step c.args.object.now) c.args.base.now c.args.history.now
