-- Callers as the calls of a service hand them back.
use Rattle.std.specs.Prelude.{◌≡◌}
use Rattle.table_invariant.specs.Running.{IsSeatOf, Running}
use Rattle.table_invariant.specs.Seats.{Seated}
use Rattle.cx_service.specs.Callers.{IsCallerOf, IsLinkedOf}
use Rattle.cx_service.specs.Closes.{seat_of}
use Rattle.cx_service.specs.declared.close.Handed.{Handed}
use Rattle.cx_service.specs.declared.close.Handed.TheVariants.{Idle, Linked, Stopped}

-- one of the three states in which a call hands a caller of this service back: idle, linked or stopped
abbrev pub IsHandedState : {O : Type 0} → Running O → Handed → Type 0
IsHandedState r (Idle seat) = IsCallerOf r seat
IsHandedState r (Linked seat) = IsLinkedOf r seat
IsHandedState r (Stopped stopped) = IsSeatOf r stopped.seat

-- what a call handed back is a caller of this service, in one of the three states, at a seat of the service
pub record IsHandedCaller {O : Type 0} (r : Running O) (handed : Handed) : Type 0 where
  pub seat : IsSeatOf r (seat_of handed)
  pub left : IsHandedState r handed

-- what a call handed back is a caller of this service, with the number that the caller had before the call
pub record IsHandedBack {O : Type 0} (r : Running O) (before : Seated) (after : Handed) : Type 0 where
  pub of : IsHandedCaller r after
  pub number : (seat_of after).known.local.number ≡ before.known.local.number
