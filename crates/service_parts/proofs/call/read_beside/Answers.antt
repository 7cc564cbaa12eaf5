use Rattle.cx_service.specs.Drives.{answer_with}
use Rattle.cx_service.specs.Lookups.{seen_with}
use Rattle.cx_service.proofs.Seeing.{done_front}
use Rattle.service_parts.proofs.AskedLemmas.{queued_asked, queued_done_sees, queued_worn_sees, read_sees}
use Rattle.service_parts.proofs.call.read_beside.Goals as goal

pub place_behind-place-requires : goal.place_behind-place-requires
place_behind-place-requires g c = done_front c.args.service.now c.args.op.now c.in-Queued.ensures.refused c.in-Queued.back (answer_with c.in-Queued.ticket c.read.new.reply) c.in-Queued.ensures.entered

pub returns-in-Read-clause-sees : goal.returns-in-Read-clause-sees
returns-in-Read-clause-sees g c =
    read_sees c.args.service.now c.args.op.now c.args.caller c.loop.caller c.requires.caller c.loop.invariant.caller c.loop.invariant.keeps c.in-Read.back (seen_with c.in-Read.place c.read.new.reply) c.in-Read.ensures.0

pub returns-in-Queued-clause-asked : goal.returns-in-Queued-clause-asked
returns-in-Queued-clause-asked g c =
    queued_asked c.args.service.now c.args.op.now c.args.caller c.loop.caller c.loop.invariant.keeps c.loop.invariant.idle c.read.new.reply c.in-Queued.back c.in-Queued.ticket c.place_behind-place.result c.in-Queued.ensures c.place_behind-place.ensures

pub returns-in-Queued-clause-sees : goal.returns-in-Queued-clause-sees
returns-in-Queued-clause-sees g c =
    queued_done_sees c.args.service.now c.args.op.now c.args.caller c.loop.caller c.requires.caller c.loop.invariant.caller c.loop.invariant.keeps c.read.new.reply c.in-Queued.back c.in-Queued.ticket c.place_behind-place.result c.in-Queued.ensures c.place_behind-place.ensures

pub returns-in-Worn-clause-sees : goal.returns-in-Worn-clause-sees
returns-in-Worn-clause-sees g c =
    queued_worn_sees c.args.service.now c.args.op.now c.args.caller c.loop.caller c.requires.caller c.loop.invariant.caller c.loop.invariant.keeps c.read.new.reply c.in-Worn.back c.in-Worn.ensures
