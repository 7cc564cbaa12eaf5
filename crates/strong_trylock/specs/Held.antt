-- The rights that a seat's caller has, and the lock word that it last found.
use Rattle.std.specs.Prelude.{◌≡◌, ℕ, Option, Some, None}
use Rattle.cx_core.specs.declared.local.Local.{Local}
use Rattle.cx_core.specs.declared.local.WonCode.{WonCode}
use Rattle.cx_core.specs.Rights.{downgraded_on, exclusive_on, shared_on}
use Rattle.cx_table.specs.Right.{Right}
use Rattle.cx_table.specs.Running.{IsSeatOf, Running}
use Rattle.cx_table.specs.Seats.{Seated}

-- the replicas that a caller's rights are on, and its win that is not retired
pub record AllRights : Type 0 where
  pub exclusive : Option ℕ
  pub shared : Option ℕ
  pub passer : Option ℕ
  pub downgraded : Option ℕ
  pub won : Option WonCode

abbrev pub rights_in : Local → AllRights
rights_in l = record {
  exclusive = exclusive_on l;
  shared = shared_on l;
  passer = l.passer;
  downgraded = downgraded_on l;
  won = l.won;
}

abbrev pub all_rights : Seated → AllRights
all_rights s = rights_in s.known.local

-- a caller without rights
abbrev pub no_rights : AllRights
no_rights = record { exclusive = None; shared = None; passer = None; downgraded = None; won = None }

-- this word is the one that was last found by a try, of this replica
abbrev pub SawWord : ℕ → ℕ → Seated → Type 0
SawWord replica found seat = seat.known.local.seen_lock ≡ Some (record { replica = replica; word = found })

-- the seat is of the table, and its caller has this right
pub record HasRight {O : Type 0} (right : ℕ → Seated → Right → Type 0) (r : Running O) (seat : Seated) (held : Right) : Type 0 where
  pub of : IsSeatOf r seat
  pub token : right r.callers seat held
