-- The codes that name a replica at a place (root codes) and a cell with a ticket (link codes). There are two
-- replicas and sixteen cells for each caller. The link code 0 is 'never linked'.
use Rattle.std.specs.Prelude.{ℕ, ◌+◌, ◌-◌, ◌*◌, ◌/◌, ◌%◌}

-- the root code that names a replica at a place, for this number of callers
abbrev pub root_code_of : ℕ → ℕ → ℕ → ℕ
root_code_of callers place replica = place * (2 * callers) + replica

-- the place that a root code names
abbrev pub root_place_of : ℕ → ℕ → ℕ
root_place_of callers code = code / (2 * callers)

-- the replica that a root code names
abbrev pub root_replica_of : ℕ → ℕ → ℕ
root_replica_of callers code = code % (2 * callers)

-- the link code that names a cell with a ticket, for this number of callers; it is above 0
abbrev pub link_code_of : ℕ → ℕ → ℕ → ℕ
link_code_of callers ticket cell = ticket * (16 * callers) + cell + 1

-- the ticket that a link code above 0 names
abbrev pub link_ticket_of : ℕ → ℕ → ℕ
link_ticket_of callers code = (code - 1) / (16 * callers)

-- the cell that a link code above 0 names
abbrev pub link_cell_of : ℕ → ℕ → ℕ
link_cell_of callers code = (code - 1) % (16 * callers)
