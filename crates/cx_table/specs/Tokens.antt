-- Whose a token is: the seat whose caller it was handed to still has that right on that replica.
use Rattle.std.specs.Prelude.{◌≡◌, ◌≢◌, ◌*◌, ◌≤◌, ◌<◌, ℕ, List, Option, Some, None, Result, Ok, Err}
use Rattle.cx_base.specs.Codes.{root_replica_of}
use Rattle.cx_core.specs.LockEvents.{exclusive_mark}
use Rattle.cx_core.specs.RootEvents.{code_in}
use Rattle.cx_core.specs.Rights.{downgraded_on, exclusive_on, shared_on}
use Rattle.table_invariant.specs.Fitting.{AgreeTo, TellsWords}
use Rattle.table_invariant.specs.Seats.{Seated}
use Rattle.cx_table.specs.Right.{Right, WonRight}
use Rattle.cx_table.specs.declared.tokens.SharedRight.{SharedRight}
use Rattle.cx_table.specs.declared.tokens.SharedRight.TheVariants.{Hold, Passer, Downgraded}

-- the caller of this seat holds the replica of this token exclusively
pub record IsExclusiveOf (callers : ℕ) (seat : Seated) (held : Right) : Type 0 where
  pub few : held.replica < 2 * callers
  pub caller : held.caller ≡ seat.known.local.number
  pub holds : exclusive_on seat.known.local ≡ Some held.replica

-- the caller of this seat holds the replica of this token shared
pub record IsSharedOf (callers : ℕ) (seat : Seated) (held : Right) : Type 0 where
  pub few : held.replica < 2 * callers
  pub caller : held.caller ≡ seat.known.local.number
  pub holds : shared_on seat.known.local ≡ Some held.replica

-- each word loaded of the replica held shared is the one noted last of the replica held exclusively
pub record IsCopiedFrom (callers : ℕ) (seat : Seated) (mine other : Right) : Type 0 where
  pub held : IsExclusiveOf callers seat mine
  pub source : IsSharedOf callers seat other
  pub agree : AgreeTo seat.known seat.region

-- all words were loaded of the replica held shared, and these are they
pub record IsTakenFrom (callers : ℕ) (seat : Seated) (other : Right) (image : List ℕ) : Type 0 where
  pub source : IsSharedOf callers seat other
  pub tells : TellsWords seat.known seat.region image

-- the caller of this seat has the passer's mark on the replica of this token
pub record IsPasserOf (callers : ℕ) (seat : Seated) (mark : Right) : Type 0 where
  pub few : mark.replica < 2 * callers
  pub caller : mark.caller ≡ seat.known.local.number
  pub holds : seat.known.local.passer ≡ Some mark.replica

-- the caller of this seat has a downgraded right on the replica of this token
pub record IsDowngradedOf (callers : ℕ) (seat : Seated) (held : Right) : Type 0 where
  pub few : held.replica < 2 * callers
  pub caller : held.caller ≡ seat.known.local.number
  pub holds : downgraded_on seat.known.local ≡ Some held.replica

-- the seat whose caller won still has the win, which is a right on the replica of the code before
pub record IsWonOf (callers : ℕ) (seat : Seated) (won : WonRight) : Type 0 where
  pub few : root_replica_of callers won.before < 2 * callers
  pub caller : won.caller ≡ seat.known.local.number
  pub holds : seat.known.local.won ≡ Some (record { code = won.code; before = won.before })

-- the token that a caller's try to hold a replica exclusively hands out, if any, by the word found
abbrev pub HandsExclusive : ℕ → ℕ → ℕ → Option Right → Type 0
HandsExclusive replica caller found (Some held) = (found ≡ 0) × (held ≡ record { replica = replica; caller = caller })
HandsExclusive replica caller found None = found ≢ 0

-- the token that a caller's try to hold a replica shared hands out, by the word found: a shared right, or the passer's mark
abbrev pub HandsShared : ℕ → ℕ → ℕ → Result Right Right → Type 0
HandsShared replica caller found (Ok held) = (found < exclusive_mark) × (held ≡ record { replica = replica; caller = caller })
HandsShared replica caller found (Err mark) = (exclusive_mark ≤ found) × (mark ≡ record { replica = replica; caller = caller })

-- an exclusive try hands a token out exactly where it found 0
abbrev pub TriedExclusive : ℕ → ℕ → Seated → ℕ → Option Right → Type 0
TriedExclusive callers replica seat found (Some held) = (found ≡ 0) × (held.replica ≡ replica) × IsExclusiveOf callers seat held
TriedExclusive callers replica seat found None = found ≢ 0

-- the token of a publication of a code over the one last seen, by the code found: the win, or the right that is given back
abbrev pub HandsWon : ℕ → ℕ → Right → ℕ → Result WonRight Right → Type 0
HandsWon code seen held found (Ok won) = (found ≡ seen) × (won ≡ record { code = code; before = seen; caller = held.caller })
HandsWon code seen held found (Err given) = (found ≢ seen) × (given ≡ held)

-- a publication hands a win out exactly where it found the code last seen, and else gives the downgraded right back
abbrev pub TriedPublish : ℕ → Seated → Right → Seated → ℕ → Result WonRight Right → Type 0
TriedPublish callers before held after found (Ok won) =
    (found ≡ before.known.local.seen_cur) × (won.before ≡ found) × (won.code ≡ code_in callers before.known.local.downgraded) × IsWonOf callers after won
TriedPublish callers before held after found (Err given) = (found ≢ before.known.local.seen_cur) × (given ≡ held) × IsDowngradedOf callers after given

-- a shared try hands out a hold exactly where it found no exclusive mark, and else a passer
abbrev pub TriedShared : ℕ → ℕ → Seated → ℕ → Result Right Right → Type 0
TriedShared callers replica seat found (Ok held) = (found < exclusive_mark) × (held.replica ≡ replica) × IsSharedOf callers seat held
TriedShared callers replica seat found (Err mark) = (exclusive_mark ≤ found) × (mark.replica ≡ replica) × IsPasserOf callers seat mark

-- the replica of a right that one step takes back
abbrev pub replica_of : SharedRight → ℕ
replica_of (Hold held) = held.replica
replica_of (Passer mark) = mark.replica
replica_of (Downgraded held) = held.replica

-- whose it is
abbrev pub IsRightOf : ℕ → Seated → SharedRight → Type 0
IsRightOf callers seat (Hold held) = IsSharedOf callers seat held
IsRightOf callers seat (Passer mark) = IsPasserOf callers seat mark
IsRightOf callers seat (Downgraded held) = IsDowngradedOf callers seat held
