use Rattle.index_validation.specs.Order.{to_come}
use Rattle.index_validation.proofs.Orders.{descend_more, descend_ends}
use Rattle.index_validation.proofs.in_order.descend.Goals as goal

pub loop-node-preserved : goal.loop-node-preserved
loop-node-preserved c =
    let l = c.loop-node in
    let ws = c.args.words.now in
    descend_more ws l.nodes l.depth l.node c.word_at-node.result c.args.from (to_come ws c.args.nodes.now c.args.depth) l.invariant c.loop-node-test.true c.word_at-node.ensures

pub returns-clause-next : goal.returns-clause-next
returns-clause-next c =
    let l = c.loop-node in
    let ws = c.args.words.now in
    descend_ends ws l.nodes l.depth l.node c.args.from (to_come ws c.args.nodes.now c.args.depth) l.invariant c.loop-node-test.false
