-- A replica held exclusively whose stored words are persisted.
use Rattle.std.specs.Prelude.{◌≡◌, ◌<◌, [], length, Result, Ok, Err}
use Rattle.cx_base.specs.declared.object.Object.{Ghosts}
use Rattle.cx_core.specs.Rights.{held_dirty}
use Rattle.table_invariant.specs.Running.{Running}
use Rattle.table_invariant.specs.Seats.{IsAtLimit, Seated}
use Rattle.cx_table.specs.Right.{Right}
use Rattle.cx_table.specs.Seats.{StepsOn}
use Rattle.replica.specs.Held.{IsHeldIn, unchanged_by_access}

-- no word is dirty
abbrev pub IsFlushed : Seated → Type 0
IsFlushed seat = held_dirty seat.known.local.exclusive ≡ []

-- the limit came while a word was dirty
pub record HaltsFlushing (seat : Seated) : Type 0 where
  pub dirty : 0 < length (held_dirty seat.known.local.exclusive)
  pub limit : IsAtLimit seat.known.local

-- what a flush leaves: no word is dirty, or the limit came while one was
abbrev pub EndsFlushing : {A E : Type 0} → Seated → Result A E → Type 0
EndsFlushing seat (Ok x) = IsFlushed seat
EndsFlushing seat (Err e) = HaltsFlushing seat

-- words of a replica held exclusively were persisted: beside what is dirty and the steps, of which none is taken back, nothing is changed
pub record Persists {O : Type 0} (o : Ghosts O) (r : Running O) (held : Right) (before after : Seated) : Type 0 where
  pub still : IsHeldIn o r after held
  pub accesses : after.known.accesses ≡ before.known.accesses
  pub since : StepsOn before after
  pub rest : unchanged_by_access held.replica after ≡ unchanged_by_access held.replica before
