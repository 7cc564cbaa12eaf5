use Rattle.std.proofs.Common.{◌≢◌, ◌+◌, ◌-◌, ◌<◌, ◌≤◌, ◌∷◌, slice_index}
use Rattle.cx_core.specs.QueueEvents.{cell_of, next_number}
use Rattle.mutation_queue.proofs.Writes.{HasTo}
use Rattle.mutation_queue.proofs.announcement.announce.Given as goal

-- the number and the first words of the operation are in the cell, and the next word differs
abbrev pub invariant-loop-at : goal.invariant-loop-at
invariant-loop-at g l = record {
  most : l.at ≤ 144;
  to : HasTo l.cell (next_number l.shared.base l.fn.seat.known.local ∷ l.op) l.at l.fn.seat l.seat;
  apart : l.at < 144 → slice_index (cell_of l.seat.known.local l.cell).words (l.at + 1) ≢ slice_index l.op l.at;
}

abbrev pub decreases-loop-at : goal.decreases-loop-at
decreases-loop-at g l = 144 - l.at
