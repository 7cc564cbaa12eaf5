use Rattle.std.proofs.Common.{arith, subst}
use Rattle.cx_service.specs.Lookups.{Looks, seen_with}
use Rattle.cx_service.proofs.Attempting.{looks_done, looks_halted}
use Rattle.cx_service.proofs.service.Service.try_read.Goals as goal

pub returns-in-Read : goal.returns-in-Read
returns-in-Read g c =
    let reply = c.read_once.new.reply in
    looks_done c.args.self.now c.args.op.now c.loop-attempt._attempt c.args.caller c.loop-attempt.caller c.loop-attempt.invariant c.args.tries c.in-Read.back (seen_with c.in-Read.place reply) (omega (arith, c.loop-attempt-test.true))
    (subst (Looks c.args.self.now c.args.op.now 1 reply c.loop-attempt.caller) c.in-Read.is c.read_once.ensures)

pub returns-in-Halted : goal.returns-in-Halted
returns-in-Halted g c =
    looks_halted c.args.self.now c.args.op.now c.loop-attempt._attempt c.args.caller c.loop-attempt.caller c.loop-attempt.invariant c.args.tries c.in-Halted.stopped (omega (arith, c.loop-attempt-test.true))
    (subst (Looks c.args.self.now c.args.op.now 1 c.read_once.new.reply c.loop-attempt.caller) c.in-Halted.is c.read_once.ensures)
