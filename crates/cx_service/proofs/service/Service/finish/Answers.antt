use Rattle.std.proofs.Common.{subst}
use Rattle.cx_service.specs.Drives.{Drives, answer_with}
use Rattle.cx_service.proofs.Attempting.{again_done, again_halted, again_more}
use Rattle.cx_service.proofs.service.Service.finish.Goals as goal

pub returns-in-Done : goal.returns-in-Done
returns-in-Done g c =
    let d = subst (Drives c.args.self.now 16 c.drive.new.reply c.loop.linked) c.in-Done.is c.drive.ensures in
    again_done c.args.self.now c.args.linked c.loop.linked c.in-Done.caller (answer_with c.in-Done.ticket c.drive.new.reply) c.loop.invariant d.0

pub returns-in-Halted : goal.returns-in-Halted
returns-in-Halted g c =
    again_halted c.args.self.now c.args.linked c.loop.linked c.in-Halted.stopped c.loop.invariant (let h = subst (Drives c.args.self.now 16 c.drive.new.reply c.loop.linked) c.in-Halted.is c.drive.ensures in h.0)

pub loop-preserved : goal.loop-preserved
loop-preserved g c =
    again_more c.args.self.now 16 c.args.linked c.loop.linked c.in-Pending.back c.loop.invariant (subst (Drives c.args.self.now 16 c.drive.new.reply c.loop.linked) c.in-Pending.is c.drive.ensures)
