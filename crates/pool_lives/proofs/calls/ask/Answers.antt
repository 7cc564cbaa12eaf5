use Rattle.std.proofs.Common.{subst}
use Rattle.pool_lives.proofs.Asking.{again, asked_since, begun}
use Rattle.pool_lives.specs.Asking.{ClientAsksOnce}
use Rattle.pool_lives.proofs.calls.ask.Goals as goal

pub loop-init : goal.loop-init
loop-init g c = (begun c.args.pool.now.service c.args.pool.now.line.table.shared.table_id c.args.client.now c.requires.client, c.requires.client)

pub loop-preserved : goal.loop-preserved
loop-preserved g c =
    let r = c.args.pool.now.service in
    let table = c.args.pool.now.line.table.shared.table_id in
    let once = subst (ClientAsksOnce r table c.args.op.now c.ask_once.new.reply c.loop.client c.ask_once.new.client) c.in-None-2.is c.in_ok-asked.ensures in
    (again r table c.args.client.now c.loop.client c.ask_once.new.client c.loop.invariant.0 once.0, once.1)

pub returns-in-Some-2 : goal.returns-in-Some-2
returns-in-Some-2 g c =
    let r = c.args.pool.now.service in
    let table = c.args.pool.now.line.table.shared.table_id in
    let once = subst (ClientAsksOnce r table c.args.op.now c.ask_once.new.reply c.loop.client c.ask_once.new.client) c.in-Some-2.is c.in_ok-asked.ensures in
    asked_since r table c.args.client.now c.loop.client c.ask_once.new.client c.loop.invariant.0 c.args.op.now c.ask_once.new.reply c.in-Some-2.asked once
