use Rattle.std.proofs.Common.{refl}
use Rattle.cx_service.specs.Closes.{seats_of}
use Rattle.service_parts.proofs.life.closed.Goals as goal

pub returns-in-Ok-clause-left : goal.returns-in-Ok-clause-left
returns-in-Ok-clause-left g c = record {
  left = record { table = c.args.service; seats = seats_of c.args.callers.items; object_is = refl; opened = c.requires.service; leaves = c.in-Ok.ensures.remains.leaves; order = c.in-Ok.ensures.remains.order };
  callers_are = refl;
  base_is = refl;
}
