-- A replica held shared that is copied over one held exclusively.
use Rattle.std.specs.Prelude.{true, false, ◌≡◌, ◌≢◌, ◌+◌, ◌/◌, ◌%◌, ◌<◌, ◌≤◌, ◌⊎◌, ◌==◌, ℕ, if◌then◌else◌, Bool, List, [], ◌∷◌, length, slice_index, slice_index_or, Some, None, Result, Ok, Err, OnErr}
use Rattle.std.specs.List.{Contains}
use Rattle.std.specs.Option.{option_map}
use Rattle.cx_base.specs.declared.object.Object.{Ghosts}
use Rattle.cx_base.specs.Noted.{Note, NotesLead}
use Rattle.cx_core.specs.Region.{region_words}
use Rattle.cx_core.specs.Rights.{held_dirty}
use Rattle.table_invariant.specs.declared.rule.Known.{Known}
use Rattle.cx_core.specs.declared.local.HeldShared.{HeldShared}
use Rattle.table_invariant.specs.Fitting.{AgreeTo, AreEqual, loaded_of, loads_of, word_noted}
use Rattle.table_invariant.specs.Running.{Running, instance_at}
use Rattle.table_invariant.specs.Seats.{IsAtLimit, Seated, StepsBy}
use Rattle.caller_cache.specs.Copies.{IsCopiedWord}
use Rattle.cx_table.specs.Right.{Right}
use Rattle.cx_table.specs.GapMarks.{MarksChanged}
use Rattle.cx_table.specs.Seats.{StepsOn}
use Rattle.replica.specs.Held.{IsHeld, IsHeldShared, except_words}
use Rattle.replica.specs.Regions.{HasPlace}
use Rattle.replica.specs.Replays.{IsReady, StoresNone, noted_place}

-- a seat holds one replica exclusively and another shared
pub record HoldsBoth {O : Type 0} (lines : ℕ) (r : Running O) (lawful : List ℕ → Type 0) (step : List ℕ → List ℕ → List ℕ × List ℕ) (seat : Seated) (held source : Right) : Type 0 where
  pub exclusive : IsHeld lines r lawful step seat held
  pub shared : IsHeldShared lines r lawful seat source

-- `HoldsBoth` with the lines, the lawful words and the step of a store
abbrev pub HoldsBothIn : {O : Type 0} → Ghosts O → Running O → Seated → Right → Right → Type 0
HoldsBothIn o r = HoldsBoth (o.line_count r.object) r (o.lawful r.object) (o.step r.object)

-- a replica held shared but for the words loaded
abbrev pub except_loads : HeldShared → HeldShared
except_loads h = record { replica = h.replica; loaded = [] }

-- what a copy does not change: the seat but for the steps, the accesses, which words are dirty, and what is loaded of the
-- replica held shared
abbrev pub unchanged_by_copy : Seated → Seated
unchanged_by_copy s = record s {
  known = record s.known {
    local = record s.known.local { exclusive = option_map except_words s.known.local.exclusive; shared = option_map except_loads s.known.local.shared; steps = 0 };
    accesses = [];
  };
}

-- whatever was copied, both are held still, no step is taken back, and what a copy does not change is as it was
pub record KeepsCopied {O : Type 0} (o : Ghosts O) (r : Running O) (held source : Right) (before after : Seated) : Type 0 where
  pub both : HoldsBothIn o r after held source
  pub since : StepsOn before after
  pub rest : unchanged_by_copy after ≡ unchanged_by_copy before

-- the limit ended a call, and what `beside` shows of the seat is unchanged
pub record HaltsUnchanged (beside : Seated → Seated) (before after : Seated) : Type 0 where
  pub rest : beside after ≡ beside before
  pub limit : IsAtLimit after.known.local

-- the seat, with no replica held shared
abbrev pub without_shared : Seated → Seated
without_shared s = record s { known = record s.known { local = record s.known.local { shared = None } } }

-- each word that was loaded of the replica held shared is among those loaded still
abbrev pub KeepsLoaded : Seated → Seated → Type 0
KeepsLoaded before after = (x : ℕ × ℕ) → Contains (loaded_of before.known.local.shared) x → Contains (loaded_of after.known.local.shared) x

-- the loads noted of the replica held shared
abbrev pub read_notes : Known → List Note
read_notes known = loads_of (loaded_of known.local.shared)

-- Each word that became dirty differed. Whatever words the notes lead to from the same first words, the replica held
-- exclusively had another word there before than the replica held shared has.
abbrev pub DirtiesDiffering : ℕ → Known → Known → Type 0
DirtiesDiffering region before after =
    (at : ℕ) → Contains (held_dirty after.local.exclusive) at →
    Contains (held_dirty before.local.exclusive) at
    ⊎ ((first was now read : List ℕ) → length read ≡ region → NotesLead before.accesses first was → NotesLead after.accesses first now → NotesLead (read_notes after) read read → slice_index was at ≢ slice_index read at)

-- a word was loaded of both: it is u in the replica held exclusively and v in the one held shared
pub record IsSeen (at u v : ℕ) (known : Known) : Type 0 where
  pub source : word_noted None at (read_notes known) ≡ Some v
  pub same : u ≡ v → word_noted None at known.accesses ≡ Some v
  pub was : (first now : List ℕ) → NotesLead known.accesses first now → slice_index now at ≡ u

-- the words of these lists, from one on up to below another, were loaded: the first list's of the replica held exclusively, the second's of the one held
-- shared
abbrev pub AreSeen : ℕ → ℕ → ℕ → List ℕ → List ℕ → Known → Type 0
AreSeen from least n us vs known = (i : ℕ) → least ≤ i → i < n → IsSeen (from + i) (slice_index us i) (slice_index vs i) known

-- Of a copy that began with what was known before, the words below n are copied, but for those that it skips. These, and the words from n on, are
-- as they were.
pub record IsCopiedTo (skips : ℕ → Bool) (n region : ℕ) (before now : Known) : Type 0 where
  pub agree : (i : ℕ) → i < n → skips i ≡ false → IsCopiedWord now i
  pub rest : (first was is : List ℕ) → NotesLead before.accesses first was → NotesLead now.accesses first is → (i : ℕ) → (n ≤ i) ⊎ (skips i ≡ true) → slice_index is i ≡ slice_index was i
  pub began : (first is : List ℕ) → NotesLead now.accesses first is → (was : List ℕ) × NotesLead before.accesses first was
  pub dirty : DirtiesDiffering region before now
  pub stored : (at : ℕ) → Contains (held_dirty now.local.exclusive) at → Contains (held_dirty before.local.exclusive) at ⊎ ((at < n) × (skips at ≡ false))
  pub loaded : (x : ℕ × ℕ) → Contains (loaded_of before.local.shared) x → Contains (loaded_of now.local.shared) x

-- a copy goes on from one word to another, whenever it began, and skips none of these words
abbrev pub CopiesOn : ℕ → ℕ → Known → Known → Type 0
CopiesOn n m before after =
    (skips : ℕ → Bool) (region : ℕ) (first : Known) → m ≤ region → ((i : ℕ) → n ≤ i → i < m → skips i ≡ false) → IsCopiedTo skips n region first before → IsCopiedTo skips m region first after

-- the words of a region from one on, loaded of both
pub record ArePiece (lines from : ℕ) (us vs : List ℕ) : Type 0 where
  pub within : from + length us ≤ region_words lines
  pub lengths : length vs ≡ length us

-- the words of up to 8 lines
pub record AreLines (lines from : ℕ) (us vs : List ℕ) : Type 0 where
  pub piece : ArePiece lines from us vs
  pub few : length us ≤ 64
  pub whole : length us % 8 ≡ 0

-- the words of a piece from a line on were loaded, and what was loaded stands
pub record SeesLine (lines from first : ℕ) (us vs : List ℕ) (known : Known) : Type 0 where
  pub piece : ArePiece lines from us vs
  pub line : first + 8 ≤ length us
  pub seen : AreSeen from first (length us) us vs known

-- a copy went on from one word to another, and the words of a piece from one on are as they were loaded
pub record CopiesPiece (from n m least : ℕ) (us vs : List ℕ) (before after : Known) : Type 0 where
  pub seen : AreSeen from least (length us) us vs after
  pub copied : CopiesOn n m before after

-- A replica held shared was copied over one held exclusively, which then has its words and this place.
pub record CopiesReplica {O : Type 0} (o : Ghosts O) (r : Running O) (at : ℕ) (before after : Seated) : Type 0 where
  pub agree : AgreeTo after.known (region_words (o.line_count r.object))
  pub equal : AreEqual (o.line_count r.object) (o.lawful r.object) r.base (o.step r.object) after.known
  pub differed : DirtiesDiffering (region_words (o.line_count r.object)) before.known after.known
  pub place : noted_place after ≡ at
  pub loaded : KeepsLoaded before after

-- the piece of 8 lines that a word is in, where line 0 is one by itself
abbrev pub piece_at : ℕ → ℕ
piece_at i = (i / 8 + 7) / 8

-- whether a copy skips a piece: where it is not one of all, the first is copied, and the others that are marked
abbrev pub skips_piece : Bool → List Bool → ℕ → Bool
skips_piece all marks piece = if all then false else (if piece == 0 then false else (if slice_index_or marks piece false then false else true))

-- whether a copy skips a word: whether it skips the piece that the word is in
abbrev pub skips_by : Bool → List Bool → ℕ → Bool
skips_by all marks i = skips_piece all marks (piece_at i)

-- a copy by marks goes on from one word to another, whenever it began
abbrev pub CopiesOver : (ℕ → Bool) → ℕ → ℕ → Known → Known → Type 0
CopiesOver skips n m before after = (region : ℕ) (first : Known) → m ≤ region → IsCopiedTo skips n region first before → IsCopiedTo skips m region first after

-- the words of a list from one on are all of this piece
abbrev pub AreOfPiece : ℕ → ℕ → ℕ → Type 0
AreOfPiece piece from n = (i : ℕ) → from ≤ i → i < from + n → piece_at i ≡ piece

-- The pieces that are not skipped were copied of a replica held shared over one held exclusively, which then has this place.
pub record CopiesMarked {O : Type 0} (o : Ghosts O) (r : Running O) (skips : ℕ → Bool) (at : ℕ) (before after : Seated) : Type 0 where
  pub copied : IsCopiedTo skips (region_words (o.line_count r.object)) (region_words (o.line_count r.object)) before.known after.known
  pub place : noted_place after ≡ at

-- A replica held shared was copied over one held exclusively, and the shared right was released: the replica is the image after this place, which is the
-- one that was loaded before, if it was.
pub record Renews {O : Type 0} (o : Ghosts O) (r : Running O) (held : Right) (at : ℕ) (before after : Seated) : Type 0 where
  pub ready : IsReady o r held at after
  pub placed : (p : ℕ) → Contains (loaded_of before.known.local.shared) (0, p) → noted_place after ≡ p
  pub rest : unchanged_by_copy after ≡ without_shared (unchanged_by_copy before)

-- what a copy by listed lines does not change: what no copy does, but for the gaps that are noted
abbrev pub unchanged_by_listed_copy : Seated → Seated
unchanged_by_listed_copy s = record (unchanged_by_copy s) { known = record (unchanged_by_copy s).known { noted = [] } }

-- A replica held shared was copied by listed lines over one held exclusively, and the shared right was released: the replica is the image after this place,
-- which is the one that was loaded before, if it was.
pub record RenewsListed {O : Type 0} (o : Ghosts O) (r : Running O) (held : Right) (at : ℕ) (before after : Seated) : Type 0 where
  pub ready : IsReady o r held at after
  pub placed : (p : ℕ) → Contains (loaded_of before.known.local.shared) (0, p) → noted_place after ≡ p
  pub rest : unchanged_by_listed_copy after ≡ without_shared (unchanged_by_listed_copy before)

-- A replica was begun into which nothing was stored, and the place was loaded of another, which is held shared.
pub record MayList (to : ℕ) (seat : Seated) : Type 0 where
  pub unstored : StoresNone seat.known.accesses
  pub begun : HasPlace seat.known.accesses
  pub source : Contains (loaded_of seat.known.local.shared) (0, to)

-- The lines that changed from the place of the replica held exclusively to another are marked, and nothing is dirty.
pub record IsListed {O : Type 0} (o : Ghosts O) (r : Running O) (to : ℕ) (marks : List Bool) (seat : Seated) : Type 0 where
  pub clean : (at : ℕ) → at < seat.region → Contains (held_dirty seat.known.local.exclusive) at → ⊥
  pub order : noted_place seat ≤ to
  pub changed : MarksChanged (instance_at r o.step o.only_reads) (146 + r.lines) (noted_place seat) to marks seat.known

-- ---- the steps of a copy

-- how many of the accesses noted are stores
abbrev pub stores_in : List Note → ℕ
stores_in [] = 0
stores_in ((stores, at, word) ∷ accesses) = (if stores then 1 else 0) + stores_in accesses

-- no word was stored
abbrev pub StoresAsMany : Known → Known → Type 0
StoresAsMany before after = stores_in after.accesses ≡ stores_in before.accesses

-- Words are loaded in at most this number of steps, and where the limit ends it, in fewer.
abbrev pub EndsLoads : {A E : Type 0} → ℕ → Known → Known → Result A E → Type 0
EndsLoads n before after (Ok x) = (after.local.steps ≤ before.local.steps + n) × StoresAsMany before after
EndsLoads n before after (Err e) = (after.local.steps < before.local.steps + n) × StoresAsMany before after

-- some word of the region was loaded of both, and differs
pub record SomeDiffers (region : ℕ) (known : Known) : Type 0 where
  pub at : ℕ
  pub within : at < region
  pub held : ℕ
  pub source : ℕ
  pub apart : held ≢ source
  pub seen : IsSeen at held source known

-- beside one for each word stored, at most this number of steps was made
abbrev pub LoadsAtMost : ℕ → Known → Known → Type 0
LoadsAtMost n before after = after.local.steps + stores_in before.accesses ≤ before.local.steps + n + stores_in after.accesses

-- beside one for each word stored, fewer than this number of steps were made
abbrev pub LoadsFewer : ℕ → Known → Known → Type 0
LoadsFewer n before after = after.local.steps + stores_in before.accesses < before.local.steps + n + stores_in after.accesses

-- A copy makes at most this number of loads. Where the limit ends it, it made fewer, or a word that differs is left to store.
abbrev pub EndsCopy : {A E : Type 0} → ℕ → ℕ → Known → Known → Result A E → Type 0
EndsCopy n region before after (Ok x) = LoadsAtMost n before after
EndsCopy n region before after (Err e) = LoadsFewer n before after ⊎ SomeDiffers region after

-- A part of a copy makes at most this number of loads, and with its stores at most this number of steps, and no error comes but at the limit.
pub record EndsPart {A E : Type 0} (loads steps region : ℕ) (before after : Seated) (result : Result A E) : Type 0 where
  pub counts : EndsCopy loads region before.known after.known result
  pub bound : StepsBy steps before after
  pub limit : OnErr result (IsAtLimit after.known.local)
