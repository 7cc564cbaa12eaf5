use Rattle.cx_service.specs.Drives.{answer_with}
use Rattle.cx_service.proofs.Seeing.{driven_front}
use Rattle.c_sessions.proofs.steps.drive.Goals as goal

pub place_behind-place-requires : goal.place_behind-place-requires
place_behind-place-requires g c = driven_front c.args.service.now c.args.linked c.in-Done.back (answer_with c.in-Done.ticket c.drive.new.reply) c.in-Done.ensures.0
