use Rattle.std.proofs.Common.{◌≡◌, ◌+◌, ◌-◌, arith, subst}
use Rattle.cx_service.specs.Drives.{answer_with}
use Rattle.cx_service.specs.Lookups.{seen_with}
use Rattle.pool_lives.proofs.Making.{entry_makes, read_makes, worn_over}
use Rattle.pool_lives.specs.Asking.{ClientRequestEnds}
use Rattle.pool_lives.proofs.progress.make.Goals as goal

pub returns-in_ok-is_reply-in-Done : goal.returns-in_ok-is_reply-in-Done
returns-in_ok-is_reply-in-Done g c =
    let r = c.args.pool.now.service in
    let table = c.args.pool.now.line.table.shared.table_id in
    let n = c.args.number in
    let next : n ≡ n - 1 + 1 = (let some = c.requires.at_work.0 in omega (arith, some)) in
    let ends = subst (ClientRequestEnds r table c.words_of-reads.result.0 c.ask.new.reply c.args.client.now c.ask.new.client) c.in-Done.is c.in_ok-asked.ensures in
    entry_makes (g.O.TypedObject.meaning c.args.object.now) c.args.life.now r table c.args.clients c.args.command.now.client (n - 1) n c.args.client.now c.ask.new.client c.args.lines.now c.note_entry.new.lines c.requires.at_work.1 next
    c.args.command.now.op c.words_of-reads.result.0 c.words_of-reads.ensures.words c.requires.named c.requires.op c.words_of-reads.ensures.value (answer_with c.in-Done.ticket c.ask.new.reply) ends c.in_ok-is_reply-in-Done.is_reply c.in_ok-is_reply-in-Done.ensures

pub returns-in_ok-is_reply-in-Read : goal.returns-in_ok-is_reply-in-Read
returns-in_ok-is_reply-in-Read g c =
    let r = c.args.pool.now.service in
    let table = c.args.pool.now.line.table.shared.table_id in
    let n = c.args.number in
    let next : n ≡ n - 1 + 1 = (let some = c.requires.at_work.0 in omega (arith, some)) in
    let ends = subst (ClientRequestEnds r table c.words_of-reads.result.0 c.ask.new.reply c.args.client.now c.ask.new.client) c.in-Read.is c.in_ok-asked.ensures in
    read_makes (g.O.TypedObject.meaning c.args.object.now) c.args.life.now r table c.args.clients c.args.command.now.client (n - 1) n c.args.client.now c.ask.new.client c.args.lines.now c.note_read.new.lines c.requires.at_work.1 next
    c.args.command.now.op c.words_of-reads.result.0 c.words_of-reads.ensures.words c.requires.named c.requires.op c.words_of-reads.ensures.value (seen_with c.in-Read.place c.ask.new.reply) ends c.in_ok-is_reply-in-Read.is_reply c.in_ok-is_reply-in-Read.ensures

pub returns-in-Worn : goal.returns-in-Worn
returns-in-Worn g c =
    let r = c.args.pool.now.service in
    let table = c.args.pool.now.line.table.shared.table_id in
    let n = c.args.number in
    let next : n ≡ n - 1 + 1 = (let some = c.requires.at_work.0 in omega (arith, some)) in
    let ends = subst (ClientRequestEnds r table c.words_of-reads.result.0 c.ask.new.reply c.args.client.now c.ask.new.client) c.in-Worn.is c.in_ok-asked.ensures in
    worn_over (g.O.TypedObject.meaning c.args.object.now) c.args.life.now r table c.args.clients c.args.command.now.client (n - 1) n c.args.client.now c.ask.new.client c.args.lines.now c.args.lines.now c.requires.at_work.1 next
    c.args.command.now.op c.words_of-reads.result.0 c.words_of-reads.ensures.words c.requires.named c.requires.op c.words_of-reads.ensures.value ends.0 ends.1
