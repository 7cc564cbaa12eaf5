-- A replica held exclusively that can be released.
use Rattle.std.specs.Prelude.{◌≡◌, ℕ, List, Some}
use Rattle.table_invariant.specs.Running.{Running}
use Rattle.table_invariant.specs.Seats.{Seated}
use Rattle.cx_table.specs.Right.{Right}
use Rattle.replica.specs.Flushes.{IsFlushed}
use Rattle.replica.specs.Held.{IsHeld}
use Rattle.replica.specs.Laws.{IsTaken}
use Rattle.replica.specs.Replays.{IsHeldImage}
use Rattle.strong_trylock.specs.Held.{all_rights, no_rights}

-- the caller of `seat` just took the replica of `held` exclusively, and has no other right
pub record TakesIt {O : Type 0} (lines : ℕ) (r : Running O) (lawful : List ℕ → Type 0) (step : List ℕ → List ℕ → List ℕ × List ℕ) (seat : Seated) (held : Right) : Type 0 where
  pub taken : IsTaken lines r lawful step seat held
  pub rights : all_rights seat ≡ record no_rights { exclusive = Some held.replica }

-- the caller of `seat` holds the replica of `held` exclusively, which is the image after its place, and no word of it is dirty
pub record IsFlushedImage {O : Type 0} (lines : ℕ) (r : Running O) (lawful : List ℕ → Type 0) (step : List ℕ → List ℕ → List ℕ × List ℕ) (seat : Seated) (held : Right) : Type 0 where
  pub is_held : IsHeld lines r lawful step seat held
  pub image : IsHeldImage lines lawful r.base step seat.known
  pub clean : IsFlushed seat
