use Rattle.std.proofs.Common.{arith, refl}
use Rattle.cx_lives.proofs.CommandOutcomes.{first_served}
use Rattle.cx_lives.proofs.work.serve.Goals as goal

pub serve_on-requires-clause-left : goal.serve_on-requires-clause-left
serve_on-requires-clause-left g c = λ κs lives. record {
  served = first_served (g.O.TypedObject.meaning c.args.service.now.object) c.args.life.now c.args.service.now (record { caller = c.args.caller; lines = c.new-lines.result }) c.requires.new c.new-lines.ensures.entries c.new-lines.ensures.reads;
  count = refl;
  few = omega arith;
}
