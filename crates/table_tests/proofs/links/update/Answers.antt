use Rattle.std.proofs.lemmas.Result.{IfOk-weaker}
use Rattle.table_tests.proofs.Updates.{has_tried}
use Rattle.table_tests.proofs.links.update.Goals as goal

-- the caller has the entry where a try linked it, and else no entry
pub returns-clause-tried : goal.returns-clause-tried
returns-clause-tried c =
    IfOk-weaker c.link-tried.result _ _
    (has_tried c.args.shared.now c.args.op.now c.args.seat c.announce.new.seat c.link-tried.new.seat c.requires.seat c.requires.new.own c.told-op c.in_default.ensures.announced.announces c.args.shared.now.callers c.args.tries)
    c.link-tried.ensures.tried
