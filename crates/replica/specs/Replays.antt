-- A replica held exclusively that is the image after its place, by entries and write sets that its caller has.
use Rattle.std.specs.Prelude.{false, ◌≡◌, ◌<◌, ◌^◌, ℕ, All, List}
use Rattle.cx_base.specs.declared.object.Object.{Ghosts}
use Rattle.cx_base.specs.Memory.{Always}
use Rattle.cx_base.specs.Noted.{Note}
use Rattle.cx_core.specs.declared.entry.Base.{Base}
use Rattle.cx_core.specs.declared.entry.Entry.{Entry}
use Rattle.cx_core.specs.History.{IsLawfulEntry}
use Rattle.cx_core.specs.Region.{object_part, place_of, slot_reply}
use Rattle.table_invariant.specs.declared.rule.Known.{Known}
use Rattle.table_invariant.specs.Fitting.{FitsKnown, HasEntry, IsReplayedToPlace, entries_of}
use Rattle.table_invariant.specs.Running.{Running}
use Rattle.table_invariant.specs.Seats.{IsWithinLimit, Seated, place_noted}
use Rattle.table_invariant.specs.Stores.{FitsIn}
use Rattle.cx_table.specs.Right.{Right}
use Rattle.cx_table.specs.Seats.{StepsOn}
use Rattle.replica.specs.Held.{IsHeldIn, unchanged_by_access}
use Rattle.replica.specs.Regions.{HasPlace}

-- no access is a store
abbrev pub StoresNone : List Note → Type 0
StoresNone accesses = All (λ (note : Note). note.0 ≡ false) accesses

-- the place of the replica held exclusively that was loaded or stored last
abbrev pub noted_place : Seated → ℕ
noted_place seat = place_noted 0 seat.known.accesses

-- The place was loaded. For every pair that fits what was noted, entries and write sets that the caller has lead from the first words to the
-- words now, up to the place that was loaded or stored last. The table asks this of a replica that is released.
pub record IsHeldImage (lines : ℕ) (lawful : List ℕ → Type 0) (base : Base) (step : List ℕ → List ℕ → List ℕ × List ℕ) (known : Known) : Type 0 where
  pub begun : HasPlace known.accesses
  pub replayed : IsReplayedToPlace lines lawful base step known

-- `IsHeldImage` with the lines, the lawful words, the base and the step of a store
abbrev pub IsHeldImageIn : {O : Type 0} → Ghosts O → Running O → Known → Type 0
IsHeldImageIn o r = IsHeldImage (o.line_count r.object) (o.lawful r.object) r.base (o.step r.object)

-- a replica is held exclusively that is the image after this place
pub record IsReady {O : Type 0} (o : Ghosts O) (r : Running O) (held : Right) (at : ℕ) (seat : Seated) : Type 0 where
  pub is_held : IsHeldIn o r seat held
  pub image : IsHeldImageIn o r seat.known
  pub place : noted_place seat ≡ at

-- whatever fits the accesses of a replica, the last entry of this caller there has this reply
abbrev pub ShowsReply : ℕ → (List ℕ → Type 0) → Base → (List ℕ → List ℕ → List ℕ × List ℕ) → Known → ℕ → List ℕ → Type 0
ShowsReply lines lawful base step known number reply = (first now : List ℕ) → FitsKnown lines lawful base step known first now → slot_reply number now ≡ reply

-- `ShowsReply` with the lines, the lawful words, the base and the step of a store
abbrev pub ShowsReplyIn : {O : Type 0} → Ghosts O → Running O → Known → ℕ → List ℕ → Type 0
ShowsReplyIn o r = ShowsReply (o.line_count r.object) (o.lawful r.object) r.base (o.step r.object)

-- the caller has an entry with the place of the replica held exclusively as its ticket, and it is one that may come there
pub record ComesNext (entry : Entry) (seat : Seated) : Type 0 where
  pub had : HasEntry (entries_of seat.known) (noted_place seat) entry
  pub lawful : IsLawfulEntry (noted_place seat) entry
  pub small : noted_place seat < 2 ^ 40

-- whatever fits the accesses of the replica held exclusively, a full step can be done on it
pub record CanStep {O : Type 0} (o : Ghosts O) (r : Running O) (seat : Seated) : Type 0 where
  pub place : Always (FitsIn o r seat.known) (λ region. place_of region < 2 ^ 40)
  pub object : Always (FitsIn o r seat.known) (λ region. o.lawful r.object (object_part region))
  pub begun : HasPlace seat.known.accesses

-- what a full step leaves, whether it was done or not
pub record IsAfterFullStep {O : Type 0} (o : Ghosts O) (r : Running O) (held : Right) (before after : Seated) : Type 0 where
  pub still : IsHeldIn o r after held
  pub begun : HasPlace after.known.accesses
  pub within : IsWithinLimit after.known.local
  pub since : StepsOn before after
  pub rest : unchanged_by_access held.replica after ≡ unchanged_by_access held.replica before
