-- A write set that leads a replica held exclusively on from the image after its place.
use Rattle.std.specs.Prelude.{true, ◌≡◌, ◌+◌, ◌*◌, ◌<◌, ℕ, zero, suc, List, [], ◌∷◌, ◌++◌, slice_index}
use Rattle.cx_base.specs.declared.object.Object.{Ghosts}
use Rattle.cx_base.specs.Memory.{Becomes, Stored}
use Rattle.cx_base.specs.Noted.{Note}
use Rattle.cx_core.specs.QueueEvents.{cell_of}
use Rattle.table_invariant.specs.Fitting.{IsSetWithin, has_of}
use Rattle.table_invariant.specs.Running.{Running}
use Rattle.table_invariant.specs.Seats.{Seated}
use Rattle.table_invariant.specs.Stores.{FitsIn}
use Rattle.cx_table.specs.Right.{Right}
use Rattle.redo_set.specs.Sets.{put_over}
use Rattle.replica.specs.Replays.{IsReady, noted_place}

-- the caller has a write set with the place of the replica held exclusively as its ticket, and its addresses are those of a region's words
pub record SetComesNext (region : ℕ) (set : List ℕ) (seat : Seated) : Type 0 where
  pub had : (has_of seat.known).set (noted_place seat) set
  pub within : IsSetWithin region set

-- the set in a cell of the caller is one with the place of the replica held exclusively as its ticket, and its addresses are those of a region's words
pub record OwnSetComesNext (region cell : ℕ) (seat : Seated) : Type 0 where
  pub few : cell < 16
  pub comes : SetComesNext region (cell_of seat.known.local cell).set seat

-- the stores of this number of pairs of a set, from the first one on, as accesses
unfoldable pub stores_to : ℕ → List ℕ → List Note
stores_to zero set = []
stores_to (suc m) set = stores_to m set ++ (true, slice_index set (2 * m + 1), slice_index set (2 * m + 2)) ∷ []

-- the stores of all pairs of a set, as accesses
unfoldable pub set_stores : List ℕ → List Note
set_stores set = stores_to (slice_index set 0) set

-- A word was stored over the replica held exclusively, by one access.
pub record IsPairStored {O : Type 0} (o : Ghosts O) (r : Running O) (at v : ℕ) (before after : Seated) : Type 0 where
  pub done : Stored at v (FitsIn o r before.known) (FitsIn o r after.known)
  pub stores : after.known.accesses ≡ before.known.accesses ++ (true, at, v) ∷ []

-- The pairs of a set were stored over the replica held exclusively, in order and nothing else: it is the image after the next place.
pub record IsSetStored {O : Type 0} (o : Ghosts O) (r : Running O) (held : Right) (set : List ℕ) (before after : Seated) : Type 0 where
  pub ready : IsReady o r held (noted_place before + 1) after
  pub done : Becomes (FitsIn o r before.known) (FitsIn o r after.known) (λ was now. now ≡ put_over set was)
  pub stores : after.known.accesses ≡ before.known.accesses ++ set_stores set
