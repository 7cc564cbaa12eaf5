use Rattle.std.proofs.Common.{◌+◌, ◌*◌, ◌<◌, ℕ, slice_index}
use Rattle.cx_core.specs.QueueEvents.{cell_of}
use Rattle.redo_replay.proofs.set_replay.is_within.Given as goal

-- those before are addresses of the region
abbrev pub invariant-loop-m : goal.invariant-loop-m
invariant-loop-m g l = (k : ℕ) → k < l.m → slice_index (cell_of l.seat.known.local l.cell).set (2 * k + 1) < l.region
