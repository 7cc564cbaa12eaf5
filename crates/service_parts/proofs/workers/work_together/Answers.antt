use Rattle.std.proofs.Common.{map, subst, sym}
use Rattle.cx_service.specs.Closes.{seats_of}
use Rattle.service_parts.specs.Callers.{HaveWorked}
use Rattle.service_parts.proofs.workers.work_together.Goals as goal

pub returns : goal.returns
returns g c =
    let r = c.args.service.now in
    let tells = g.W.Worker.tells c.args.worker.now r in
    let olds = c.args.callers.items in
    let all = c.in_ok-all.all.items in
    subst (λ hs. HaveWorked r tells olds (seats_of hs) c.in_ok-handed.outputs.items) (sym c.in_ok-handed.ensures.callers)
    (subst (λ ts. HaveWorked r tells olds (seats_of (map (λ w. w.caller) all)) ts) (sym c.in_ok-handed.ensures.outputs) c.in_ok-all.ensures)
