use Rattle.std.proofs.Common.{arith, subst}
use Rattle.cx_service.specs.Drives.{Drives, answer_with}
use Rattle.cx_service.proofs.Attempting.{drives_done, drives_halted}
use Rattle.cx_service.proofs.service.Service.drive.Goals as goal

pub returns-in-Done : goal.returns-in-Done
returns-in-Done g c =
    drives_done c.args.self.now c.loop-attempt._attempt c.args.linked c.loop-attempt.linked c.loop-attempt.invariant c.args.tries c.in-Done.caller (answer_with c.in-Done.ticket c.drive_once.new.reply) (omega (arith, c.loop-attempt-test.true))
    (subst (Drives c.args.self.now 1 c.drive_once.new.reply c.loop-attempt.linked) c.in-Done.is c.drive_once.ensures)

pub returns-in-Halted : goal.returns-in-Halted
returns-in-Halted g c =
    drives_halted c.args.self.now c.loop-attempt._attempt c.args.linked c.loop-attempt.linked c.loop-attempt.invariant c.args.tries c.in-Halted.stopped (omega (arith, c.loop-attempt-test.true))
    (subst (Drives c.args.self.now 1 c.drive_once.new.reply c.loop-attempt.linked) c.in-Halted.is c.drive_once.ensures)
