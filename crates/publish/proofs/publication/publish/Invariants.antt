use Rattle.std.proofs.Common.{◌-◌, ◌*◌}
use Rattle.publish.specs.Publishing.{LosesAll}
use Rattle.publish.proofs.publication.publish.Given as goal

abbrev pub invariant-loop-seat : goal.invariant-loop-seat
invariant-loop-seat g l = LosesAll l.shared l.fn.seat l.seat l.held

abbrev pub decreases-loop-seat : goal.decreases-loop-seat
decreases-loop-seat g l = l.place * (2 * l.callers) - l.seat.known.local.seen_cur
