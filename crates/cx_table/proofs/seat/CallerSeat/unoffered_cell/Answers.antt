use Rattle.cx_table.proofs.SetOffers.{cell_to_write, no_cell_to_write}
use Rattle.cx_table.proofs.seat.CallerSeat.unoffered_cell.Goals as goal

pub returns-clause-some : goal.returns-clause-some
returns-clause-some c = cell_to_write c.args.self.now.known.local c.args.ticket c.ticket_cell_as.result c.own_cells_are_lawful.ensures.own c.ticket_cell_as.ensures.some

pub returns-clause-none : goal.returns-clause-none
returns-clause-none c = no_cell_to_write c.args.self.now.known.local c.args.ticket c.ticket_cell_as.result c.ticket_cell_as.ensures.none
