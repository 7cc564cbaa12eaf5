use Rattle.std.proofs.Common.{ℕ, ◌<◌}
use Rattle.mutation_queue.specs.Cells.{IsInUse}
use Rattle.mutation_queue.proofs.announcement.idle_cell.Given as goal

abbrev pub invariant-loop-j : goal.invariant-loop-j
invariant-loop-j l = (k : ℕ) → k < l.j → IsInUse l.seat.known.local k
