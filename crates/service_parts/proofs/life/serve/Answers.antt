use Rattle.cx_service.specs.Closes.{seats_of}
use Rattle.service_parts.proofs.OpenLemmas.{served_by, served_of}
use Rattle.service_parts.proofs.life.serve.Goals as goal

pub returns-clause-served : goal.returns-clause-served
returns-clause-served g c =
    served_of g.O.Object c.args.object c.args.callers c.args.base.now c.in_ok-service.service c.in_ok-remains.remains c.in_ok-service.ensures.service c.in_ok-remains.ensures.left

pub returns-clause-tells : goal.returns-clause-tells
returns-clause-tells g c =
    served_by g.O.Object c.args.object c.args.callers c.args.base.now (g.W.Worker.tells c.args.worker.now) c.in_ok-service.service c.in_ok-service.callers.items (seats_of c.in_ok-handed.handed.items) c.in_ok-handed.outputs.items c.in_ok-remains.remains
    c.in_ok-service.ensures.service c.in_ok-service.ensures.new c.in_ok-remains.ensures.leaves c.in_ok-handed.ensures.tells
