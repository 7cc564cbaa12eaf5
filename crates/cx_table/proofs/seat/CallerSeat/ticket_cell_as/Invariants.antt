use Rattle.std.proofs.Common.{◌<◌, ℕ}
use Rattle.cx_table.specs.OwnCells.{HasTicketAs}
use Rattle.cx_table.proofs.seat.CallerSeat.ticket_cell_as.Given as goal

-- no cell passed over is one that is asked for
abbrev pub invariant-loop-j : goal.invariant-loop-j
invariant-loop-j l = (j : ℕ) → j < l.j → ¬ HasTicketAs l.self.known.local j l.ticket l.offered
