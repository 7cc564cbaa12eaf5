use Rattle.service_tests.proofs.PairsLookedThrough.{rise_all, rise_more, rise_none}
use Rattle.service_tests.proofs.written.rise_below.Goals as goal

pub loop-at-init : goal.loop-at-init
loop-at-init c = rise_none c.args.pairs.now c.args.end

pub loop-at-preserved : goal.loop-at-preserved
loop-at-preserved c = rise_more c.args.pairs.now c.args.end c.loop-at.from c.loop-at.at-index c.loop-at-test.true c.loop-at.invariant c.if-at-from.false c.if-at-end.false

pub returns : goal.returns
returns c = λ _. rise_all c.args.pairs.now c.args.end c.loop-at.from c.loop-at.at-index c.loop-at-test.false c.loop-at.invariant
