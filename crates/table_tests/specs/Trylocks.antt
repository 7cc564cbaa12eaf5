-- Callers in the tests of try-locks.
use Rattle.std.specs.Prelude.{◌≡◌}
use Rattle.cx_table.specs.Running.{IsSeatOf, Running}
use Rattle.cx_table.specs.Seats.{Seated}
use Rattle.strong_trylock.specs.Held.{all_rights, no_rights}

-- a seat is of a caller of the table `r` that has no right on a replica
pub record IsFreeIn {O : Type 0} (r : Running O) (seat : Seated) : Type 0 where
  pub seat_of : IsSeatOf r seat
  pub rights : all_rights seat ≡ no_rights

-- a table has two callers, and both seats are of callers of it without rights
pub record ArePair {O : Type 0} (r : Running O) (first second : Seated) : Type 0 where
  pub callers : r.callers ≡ 2
  pub one : IsFreeIn r first
  pub other : IsFreeIn r second
