use Rattle.std.proofs.Common.{◌≡◌, ◌<◌, ℕ, length, slice_index, Some}
use Rattle.cx_core.specs.QueueEvents.{cell_of}
use Rattle.cx_service.proofs.submit.cell_tickets.Given as goal

-- the tickets of the first cells are there
abbrev pub invariant-loop-j : goal.invariant-loop-j
invariant-loop-j l = record {
  long : length l.tickets ≡ 16;
  held : (k : ℕ) → k < l.j → (cell_of l.seat.known.local k).ticket ≡ Some (slice_index l.tickets k);
}
