use Rattle.cx_service.specs.Lookups.{seen_with}
use Rattle.client_pool.proofs.Lends.{comes_first, comes_reading, comes_refused}
use Rattle.client_pool.proofs.lend.catch_up.Goals as goal

pub loop-init : goal.loop-init
loop-init g c = comes_first c.args.service.now c.args.caller c.requires.caller

pub loop-preserved-in-Read : goal.loop-preserved-in-Read
loop-preserved-in-Read g c = comes_reading c.args.service.now c.args.probe.now c.args.caller c.loop.caller c.in-Read.back (seen_with c.in-Read.field-1 c.try_read.new.reply) c.loop.invariant c.in-Read.ensures.0

pub loop-preserved : goal.loop-preserved
loop-preserved g c = comes_refused c.args.service.now 8 c.args.caller c.loop.caller c.in-Pending.back c.loop.invariant c.in-Pending.ensures
