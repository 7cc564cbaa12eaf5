use Rattle.std.proofs.Common.{◌-◌}
use Rattle.index_validation.specs.Order.{to_come}
use Rattle.index_validation.proofs.Orders.{IsDescending}
use Rattle.index_validation.proofs.in_order.descend.Given as goal

abbrev pub invariant-loop-node : goal.invariant-loop-node
invariant-loop-node l = IsDescending l.words l.nodes l.depth l.node l.from (to_come l.words l.initial.nodes l.initial.depth)

abbrev pub decreases-loop-node : goal.decreases-loop-node
decreases-loop-node l = 64 - l.depth
