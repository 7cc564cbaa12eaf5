-- The result of starting a service.
use Rattle.std.specs.Prelude.{◌≡◌, ◌≤◌, ℕ, List, [], All, map}
use Rattle.std.specs.List.{range_with_len}
use Rattle.cx_core.specs.declared.entry.Base.{Base}
use Rattle.table_invariant.specs.Running.{Running}
use Rattle.table_invariant.specs.Seats.{Seated}
use Rattle.cx_table.specs.Remains.{AreSeats, opening_seat}
use Rattle.cx_service.specs.declared.start.StartFault.{StartFault}
use Rattle.cx_service.specs.declared.start.StartFault.TheVariants.{Callers, Lines, Memory}
use Rattle.cx_service.specs.Callers.{IsCallerOf}

-- the callers that a service may have
abbrev pub AreFewCallers : ℕ → Type 0
AreFewCallers callers = (1 ≤ callers) × (callers ≤ 8)

-- the lines that an object may have
abbrev pub AreFewLines : ℕ → Type 0
AreFewLines lines = (64 ≤ lines) × (lines ≤ 16384)

-- the cause of a fault: the first number that is not right, or out of memory where both are
abbrev pub IsStartFault : ℕ → ℕ → StartFault → Type 0
IsStartFault callers lines (Callers found) = (found ≡ callers) × (¬ AreFewCallers callers)
IsStartFault callers lines (Lines found) = (found ≡ lines) × AreFewCallers callers × (¬ AreFewLines lines)
IsStartFault callers lines Memory = AreFewCallers callers × AreFewLines lines

-- the seat of a caller that read no write sets
abbrev pub HasNoSets : Seated → Type 0
HasNoSets seat = seat.known.sets ≡ []

-- The service of this object with this many callers, which opens from this base, and its callers, of caller 0 first. None has made a
-- step. The limit of caller c is item c of the limits.
pub record Starts {O : Type 0} (object : O) (lines callers : ℕ) (limits : List ℕ) (base : Base) (service : Running O) (seats : List Seated) : Type 0 where
  pub right : AreFewCallers callers × AreFewLines lines
  pub is : service ≡ record { table = service.table; callers = callers; lines = lines; base = base; object = object }
  pub opened : seats ≡ map (opening_seat service limits) (range_with_len 0 callers)
  pub each : All (IsCallerOf service) seats
  pub all : AreSeats service seats
