-- The callers that are handed to the closing of a service.
use Rattle.std.specs.Prelude.{List, map}
use Rattle.table_invariant.specs.Seats.{Seated}
use Rattle.cx_service.specs.declared.close.Handed.{Handed}
use Rattle.cx_service.specs.declared.close.Handed.TheVariants.{Idle, Linked, Stopped}

-- the seat of a caller, in whatever state it is
abbrev pub seat_of : Handed → Seated
seat_of (Idle seat) = seat
seat_of (Linked seat) = seat
seat_of (Stopped stopped) = stopped.seat

-- the seats of callers
abbrev pub seats_of : List Handed → List Seated
seats_of callers = map seat_of callers
