-- What a call leaves of its caller's seat.
use Rattle.std.specs.Prelude.{◌≡◌, ◌+◌, ◌≤◌, ℕ}
use Rattle.cx_table.specs.Running.{IsSeatOf, Running}
use Rattle.cx_table.specs.Seats.{Seated}

-- a part of the seat is as it was, and at most this number of steps was made
pub record KeepsSeatPart {O A : Type 0} (r : Running O) (part : Seated → A) (n : ℕ) (before after : Seated) : Type 0 where
  pub of : IsSeatOf r after
  pub rest : part after ≡ part before
  pub steps : after.known.local.steps ≤ before.known.local.steps + n

-- the number of the seat's caller
abbrev pub seat_number : Seated → ℕ
seat_number s = s.known.local.number
