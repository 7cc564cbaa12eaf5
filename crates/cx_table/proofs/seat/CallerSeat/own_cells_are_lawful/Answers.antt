use Rattle.std.proofs.Common.{subst}
use Rattle.table_invariant.specs.Seats.{Seated}
use Rattle.caller_cache.specs.Summaries.{OwnCells}
use Rattle.cx_table.proofs.seat.CallerSeat.own_cells_are_lawful.Goals as goal

pub returns-clause-own : goal.returns-clause-own
returns-clause-own c = subst (λ (s : Seated). OwnCells s.known.local) c.self.view_is c.self.invariant.0.own
