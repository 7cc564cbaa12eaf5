use Rattle.std.proofs.Common.{length}
use Rattle.cx_core.specs.Rights.{held_dirty}
use Rattle.replica.specs.Flushes.{Persists}
use Rattle.replica.proofs.flushes.flush.Given as goal

abbrev pub invariant-loop-at : goal.invariant-loop-at
invariant-loop-at g l = Persists g.O.Object l.shared l.held l.fn.seat l.seat

abbrev pub decreases-loop-at : goal.decreases-loop-at
decreases-loop-at g l = length (held_dirty l.seat.known.local.exclusive)
