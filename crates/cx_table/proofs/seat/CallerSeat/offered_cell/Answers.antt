use Rattle.cx_table.proofs.SetOffers.{no_own_set}
use Rattle.cx_table.proofs.seat.CallerSeat.offered_cell.Goals as goal

pub returns-clause-none : goal.returns-clause-none
returns-clause-none c = no_own_set c.args.self.now.known.local c.args.ticket c.ticket_cell_as.result c.own_cells_are_lawful.ensures.cells.count c.ticket_cell_as.ensures.none
