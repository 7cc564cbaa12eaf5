use Rattle.std.proofs.Common.{◌∙◌, arith, sym}
use Rattle.cx_service.specs.Drives.{answer_with}
use Rattle.cx_service.specs.Lookups.{seen_with}
use Rattle.cx_lives.proofs.Calling.{done_on, enough_asked, halts_on, keeps_on, one_full, read_on, scanned, worn_on}
use Rattle.cx_lives.proofs.calls.ask.Goals as goal

pub returns-then-are_enough : goal.returns-then-are_enough
returns-then-are_enough g c =
    let i = c.loop.invariant in
    let f = c.in-Full.ensures in
    let r = c.args.service.now in
    let before = c.loop.caller in
    let after = c.in-Full.back in
    let enough = enough_asked c.args.most c.saturating_add-fulls.result (sym c.are_enough.ensures ∙ c.if-are_enough.true) in
    record {
      asked = enough.0;
      most_is = enough.1;
      scans = scanned c.args.caller.known.local.scans c.loop.fulls enough.0 before.known.local.scans after.known.local.scans i.scans (omega (arith, c.saturating_add-fulls.ensures, enough.2)) (one_full r before after c.in-Full.note f);
      caller = f.caller;
      keeps = keeps_on r c.args.op.now c.args.caller before i.keeps after f.keeps;
      names = f.names;
    }

pub returns-in-Queued : goal.returns-in-Queued
returns-in-Queued g c = done_on c.args.service.now c.args.op.now c.args.caller c.loop.caller c.loop.invariant.keeps c.in-Queued.back (answer_with c.in-Queued.ticket c.ask_once.new.reply) c.in-Queued.ensures

pub returns-in-Read : goal.returns-in-Read
returns-in-Read g c = read_on c.args.service.now c.args.op.now c.args.caller c.loop.caller c.loop.invariant.keeps c.in-Read.back (seen_with c.in-Read.place c.ask_once.new.reply) c.in-Read.ensures

pub returns-in-Worn : goal.returns-in-Worn
returns-in-Worn g c = worn_on c.args.service.now c.args.op.now c.args.caller c.loop.caller c.loop.invariant.keeps c.in-Worn.back c.in-Worn.ensures

pub returns-in-Halted : goal.returns-in-Halted
returns-in-Halted g c = halts_on c.args.service.now c.args.op.now c.args.caller c.loop.caller c.loop.invariant.keeps c.in-Halted.stopped.seat c.in-Halted.stopped.linked c.in-Halted.ensures
