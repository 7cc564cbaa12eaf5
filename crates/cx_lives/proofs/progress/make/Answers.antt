use Rattle.std.proofs.Common.{◌-◌, arith, sym, subst}
use Rattle.cx_service.specs.Drives.{answer_with}
use Rattle.cx_service.specs.Lookups.{seen_with}
use Rattle.cx_lives.specs.Ends.{IsCommandOutcome}
use Rattle.cx_lives.specs.Lines.{AddsClientEntry, AddsClientRead}
use Rattle.cx_lives.specs.declared.progress.CommandOutcome.TheVariants.{Over}
use Rattle.cx_lives.proofs.CommandOutcomes.{entry_turned, full_turned, read_turned, stop_turned, worn_turned}
use Rattle.cx_lives.proofs.progress.make.Goals as goal

pub returns-in_ok-is_reply-in-Queued : goal.returns-in_ok-is_reply-in-Queued
returns-in_ok-is_reply-in-Queued g c =
    let r = c.args.service.now in
    let m = g.O.TypedObject.meaning r.object in
    let client = c.args.command.now.client in
    let n = c.args.number in
    let noted = subst (λ o. AddsClientEntry (g.O.TypedObject.meaning o) client n (answer_with c.in-Queued.ticket c.ask.new.reply) c.args.progress.lines c.note_entry.new.lines c.in_ok-is_reply-in-Queued.is_reply) c.object-object.ensures c.in_ok-is_reply-in-Queued.ensures in
    subst (IsCommandOutcome m c.args.life.now r client n) (sym c.after_answer.ensures)
    (entry_turned m c.args.life.now r client (n - 1) n c.args.progress.caller c.args.progress.lines c.requires.served.lists (omega (arith, c.requires.number)) c.args.command.now.op c.service_words-reads_only.result.0
    c.service_words-reads_only.ensures.words c.requires.named c.requires.op c.service_words-reads_only.ensures.value c.in-Queued.caller c.note_entry.new.lines (answer_with c.in-Queued.ticket c.ask.new.reply) c.in_ok-is_reply-in-Queued.is_reply c.in-Queued.ensures noted)

pub returns-in_ok-is_reply-in-Read : goal.returns-in_ok-is_reply-in-Read
returns-in_ok-is_reply-in-Read g c =
    let r = c.args.service.now in
    let m = g.O.TypedObject.meaning r.object in
    let client = c.args.command.now.client in
    let n = c.args.number in
    let noted = subst (λ o. AddsClientRead (g.O.TypedObject.meaning o) client n (seen_with c.in-Read.place c.ask.new.reply) c.args.progress.lines c.note_read.new.lines c.in_ok-is_reply-in-Read.is_reply) c.object-object.ensures c.in_ok-is_reply-in-Read.ensures in
    subst (IsCommandOutcome m c.args.life.now r client n) (sym c.after_answer-in-Read.ensures)
    (read_turned m c.args.life.now r client (n - 1) n c.args.progress.caller c.args.progress.lines c.requires.served.lists (omega (arith, c.requires.number)) c.args.command.now.op c.service_words-reads_only.result.0
    c.service_words-reads_only.ensures.words c.requires.named c.requires.op c.service_words-reads_only.ensures.value (omega (arith, c.requires.served.caller.count)) c.in-Read.caller c.note_read.new.lines (seen_with c.in-Read.place c.ask.new.reply) c.in_ok-is_reply-in-Read.is_reply c.in-Read.ensures noted)

pub returns-in-Full : goal.returns-in-Full
returns-in-Full g c =
    let r = c.args.service.now in
    let m = g.O.TypedObject.meaning r.object in
    let client = c.args.command.now.client in
    let n = c.args.number in
    full_turned m c.args.life.now r client (n - 1) n c.args.progress.caller c.args.progress.lines c.requires.served.lists (omega (arith, c.requires.number)) c.args.command.now.op c.service_words-reads_only.result.0
    c.service_words-reads_only.ensures.words c.requires.named c.requires.op c.service_words-reads_only.ensures.value c.args.most c.in-Full.caller c.in-Full.note c.in-Full.ensures

pub returns-in-Worn : goal.returns-in-Worn
returns-in-Worn g c =
    let r = c.args.service.now in
    let m = g.O.TypedObject.meaning r.object in
    let client = c.args.command.now.client in
    let n = c.args.number in
    subst (λ work. IsCommandOutcome m c.args.life.now r client n (Over work)) (sym c.over.ensures)
    (worn_turned m c.args.life.now r client (n - 1) n c.args.progress.caller c.args.progress.lines c.requires.served.lists (omega (arith, c.requires.number)) c.args.command.now.op c.service_words-reads_only.result.0
    c.service_words-reads_only.ensures.words c.requires.named c.requires.op c.service_words-reads_only.ensures.value c.in-Worn.caller c.in-Worn.ensures)

pub returns-in_ok-work-in-Halted : goal.returns-in_ok-work-in-Halted
returns-in_ok-work-in-Halted g c =
    let r = c.args.service.now in
    let m = g.O.TypedObject.meaning r.object in
    let client = c.args.command.now.client in
    let n = c.args.number in
    stop_turned m c.args.life.now r client (n - 1) n c.args.progress.caller c.args.progress.lines c.requires.served.lists (omega (arith, c.requires.number)) c.args.command.now.op c.service_words-reads_only.result.0
    c.service_words-reads_only.ensures.words c.requires.named c.requires.op c.service_words-reads_only.ensures.value (omega (arith, c.requires.served.caller.count)) c.in-Halted.stopped c.in_ok-work-in-Halted.work c.in-Halted.ensures c.in_ok-work-in-Halted.ensures
