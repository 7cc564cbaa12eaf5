use Rattle.cx_service.specs.Drives.{answer_with}
use Rattle.cx_service.proofs.Seeing.{done_front}
use Rattle.service_parts.proofs.AskedLemmas.{done_asked, done_sees, worn_sees}
use Rattle.service_parts.proofs.call.update_once.Goals as goal

pub place_behind-place-requires : goal.place_behind-place-requires
place_behind-place-requires g c = done_front c.args.service.now c.args.op.now c.loop.caller c.in-Done.back (answer_with c.in-Done.ticket c.update.new.reply) c.in-Done.ensures

pub returns-in-Done-clause-asked : goal.returns-in-Done-clause-asked
returns-in-Done-clause-asked g c =
    done_asked c.args.service.now c.args.op.now c.args.caller c.loop.caller c.loop.invariant.keeps c.loop.invariant.idle c.in-Done.back (answer_with c.in-Done.ticket c.update.new.reply) c.place_behind-place.result c.in-Done.ensures c.place_behind-place.ensures

pub returns-in-Done-clause-sees : goal.returns-in-Done-clause-sees
returns-in-Done-clause-sees g c =
    done_sees c.args.service.now c.args.op.now c.args.caller c.loop.caller c.requires c.loop.invariant.caller c.loop.invariant.keeps c.in-Done.back (answer_with c.in-Done.ticket c.update.new.reply) c.place_behind-place.result c.in-Done.ensures c.place_behind-place.ensures

pub returns-in-Worn-clause-sees : goal.returns-in-Worn-clause-sees
returns-in-Worn-clause-sees g c = worn_sees c.args.service.now c.args.op.now c.args.caller c.loop.caller c.requires c.loop.invariant.caller c.loop.invariant.keeps c.in-Worn.back c.in-Worn.ensures
