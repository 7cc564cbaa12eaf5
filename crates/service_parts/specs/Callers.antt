-- Callers that are lent to workers and handed back.
use Rattle.std.specs.Prelude.{◌≡◌, ℕ, List, [], ◌∷◌, All, length, map}
use Rattle.std.specs.List.{range_with_len}
use Rattle.table_invariant.specs.Running.{IsSeatOf, Running}
use Rattle.table_invariant.specs.Seats.{Seated}
use Rattle.cx_service.specs.Callers.{IsCallerOf}
use Rattle.cx_service.specs.Closes.{seat_of}
use Rattle.cx_service.specs.declared.close.Handed.{Handed}
use Rattle.cx_service.specs.declared.close.Handed.TheVariants.{Idle, Linked, Stopped}
use Rattle.cx_table.specs.Remains.{AreSeats, opening_seat}

-- a caller that comes back is the same caller of the service, in no call
pub record IsBack {O : Type 0} (r : Running O) (before after : Seated) : Type 0 where
  pub caller : IsCallerOf r after
  pub number : after.known.local.number ≡ before.known.local.number

-- two states are of the same caller of a service
pub record IsSameCaller {O : Type 0} (r : Running O) (before after : Seated) : Type 0 where
  pub of : IsSeatOf r after
  pub number : after.known.local.number ≡ before.known.local.number

-- the states in which a caller is handed back: in no call, with a linked entry, or stopped
abbrev pub IsHanded : {O : Type 0} → Running O → Handed → Type 0
IsHanded r (Idle after) = IsCallerOf r after
IsHanded r (Linked after) = IsSeatOf r after
IsHanded r (Stopped after) = IsSeatOf r after.seat

-- what is handed back is the same caller of the service, in one of the states in which a caller is handed back
pub record IsHandedBy {O : Type 0} (r : Running O) (before : Seated) (handed : Handed) : Type 0 where
  pub same : IsSameCaller r before (seat_of handed)
  pub stands : IsHanded r handed

-- all the callers of a service, of caller 0 first, none in a call
pub record AreAllCallers {O : Type 0} (r : Running O) (seats : List Seated) : Type 0 where
  pub each : All (IsCallerOf r) seats
  pub all : AreSeats r seats

-- The result of a worker that was lent a caller: the caller is handed back, and what the worker says of its output is so of it.
pub record IsWorked {O T : Type 0} (r : Running O) (tells : Running O → Seated → Seated → T → Type 0) (before : Seated) (handed : Handed) (output : T) : Type 0 where
  pub back : IsHandedBy r before handed
  pub tells_so : tells r before (seat_of handed) output

-- what is said of an output is so of each caller in turn, by its seat as it was lent and as it was handed back
abbrev pub TellsEach : {T : Type 0} → (Seated → Seated → T → Type 0) → List Seated → List Seated → List T → Type 0
TellsEach tells [] [] [] = Unit {0}
TellsEach tells (before ∷ befores) (after ∷ afters) (output ∷ outputs) = tells before after output × TellsEach tells befores afters outputs
TellsEach tells befores afters outputs = ⊥

-- each caller that was lent is handed back, of caller 0 first, and what is said of its worker's output is so of it
pub record HaveWorked {O T : Type 0} (r : Running O) (tells_of : Seated → Seated → T → Type 0) (lent handed_back : List Seated) (outputs : List T) : Type 0 where
  pub handed : AreSeats r handed_back
  pub count : length outputs ≡ length lent
  pub tells : TellsEach tells_of lent handed_back outputs

-- all the callers of a service, of caller 0 first, none of which has made a step
abbrev pub AreNew : {O : Type 0} → Running O → ℕ → List Seated → Type 0
AreNew r callers seats = (limits : List ℕ) × (seats ≡ map (opening_seat r limits) (range_with_len 0 callers))
