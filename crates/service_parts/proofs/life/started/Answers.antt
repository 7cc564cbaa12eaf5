use Rattle.service_parts.proofs.OpenLemmas.{count_of, new_of, open_of}
use Rattle.service_parts.proofs.life.started.Goals as goal

pub returns-in-Ok : goal.returns-in-Ok
returns-in-Ok g c = record {
  service = open_of g.O.Object c.args.object _ _ c.args.base.now c.in-Ok.service c.in-Ok.callers.items c.requires.may c.in-Ok.ensures;
  callers = record { each = c.in-Ok.ensures.each; all = c.in-Ok.ensures.all };
  count = count_of c.args.object _ _ _ c.args.base.now c.in-Ok.service c.in-Ok.callers.items c.in-Ok.ensures;
  new = new_of c.args.object _ _ _ c.args.base.now c.in-Ok.service c.in-Ok.callers.items c.in-Ok.ensures;
}
