-- A cell of a caller that has a ticket, by whether it is offered with it.
use Rattle.std.specs.Prelude.{◌≡◌, ◌+◌, ◌↔◌, ℕ, Bool, Some, IsTrue}
use Rattle.cx_core.specs.declared.local.Local.{Local}
use Rattle.cx_core.specs.QueueEvents.{cell_of}

-- a cell has the ticket, and its offer word is the one for that ticket exactly where it is to be
pub record HasTicketAs (l : Local) (j ticket : ℕ) (offered : Bool) : Type 0 where
  pub named : (cell_of l j).ticket ≡ Some ticket
  pub offers : IsTrue offered ↔ ((cell_of l j).offer ≡ ticket + 1)
