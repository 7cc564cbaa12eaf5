-- A replica that a caller holds: whose it is, and what an access of it changes.
use Rattle.std.specs.Prelude.{false, ◌≡◌, ◌+◌, ◌-◌, ◌<◌, ◌≤◌, ◌==◌, if◌then◌else◌, nat_lt, ℕ, All, List, [], ◌∷◌, ◌++◌, length, take, Option, Some, None}
use Rattle.std.specs.Option.{option_map}
use Rattle.cx_base.specs.declared.object.Object.{Ghosts}
use Rattle.cx_base.specs.Noted.{Note}
use Rattle.cx_core.specs.declared.kinds.Kind.{Kind}
use Rattle.cx_core.specs.declared.local.HeldExclusive.{HeldExclusive}
use Rattle.cx_core.specs.declared.local.HeldShared.{HeldShared}
use Rattle.cx_core.specs.declared.local.Local.{Local}
use Rattle.cx_core.specs.Layout.{max_word}
use Rattle.cx_core.specs.Region.{region_words}
use Rattle.cx_core.specs.Rights.{exclusive_on, held_dirty, is_at}
use Rattle.cx_core.specs.State.{one_more}
use Rattle.table_invariant.specs.Fitting.{SomeFits, SomeReadFits, loaded_of}
use Rattle.table_invariant.specs.Running.{IsSeatOf, Running}
use Rattle.table_invariant.specs.Seats.{IsAtLimit, IsWithinLimit, Seated}
use Rattle.cx_table.specs.Right.{Right}
use Rattle.cx_table.specs.Runs.{Runs}
use Rattle.cx_table.specs.Tokens.{IsExclusiveOf, IsSharedOf}
use Rattle.cx_table.specs.Seats.{StepsOn}

-- the steps that the limit leaves, where 2^64 - 1 is none
abbrev pub left_of : Local → Option ℕ
left_of l = if nat_lt l.limit max_word then Some (l.limit - l.steps) else None

-- a table is of an object of this number of lines, within the limits, and opens from a region of such an object
pub record IsSized {O : Type 0} (lines : ℕ) (r : Running O) : Type 0 where
  pub lines_are : r.lines ≡ lines
  pub small : lines ≤ 16384
  pub region : length r.base.words ≡ region_words lines

-- The token is of this seat, which holds the replica exclusively. Some pair fits what is noted of it, and each dirty word is
-- one of the region.
pub record IsHeld {O : Type 0} (lines : ℕ) (r : Running O) (lawful : List ℕ → Type 0) (step : List ℕ → List ℕ → List ℕ × List ℕ) (seat : Seated) (held : Right) : Type 0 where
  pub sized : IsSized lines r
  pub of : IsSeatOf r seat
  pub right : IsExclusiveOf r.callers seat held
  pub some : SomeFits lines lawful r.base step seat.known
  pub dirty : All (λ i. i < region_words lines) (held_dirty seat.known.local.exclusive)

-- `IsHeld` with the lines, the lawful words and the step of a store
abbrev pub IsHeldIn : {O : Type 0} → Ghosts O → Running O → Seated → Right → Type 0
IsHeldIn o r = IsHeld (o.line_count r.object) r (o.lawful r.object) (o.step r.object)

-- The token is of this seat, which holds the replica shared, and some pair fits the words loaded of it.
pub record IsHeldShared {O : Type 0} (lines : ℕ) (r : Running O) (lawful : List ℕ → Type 0) (seat : Seated) (held : Right) : Type 0 where
  pub sized : IsSized lines r
  pub of : IsSeatOf r seat
  pub right : IsSharedOf r.callers seat held
  pub some : SomeReadFits lines lawful r.base (loaded_of seat.known.local.shared)

-- `IsHeldShared` with the lines and the lawful words of a store
abbrev pub IsHeldSharedIn : {O : Type 0} → Ghosts O → Running O → Seated → Right → Type 0
IsHeldSharedIn o r = IsHeldShared (o.line_count r.object) r (o.lawful r.object)

-- a replica held exclusively but for its words, and which of them are dirty
abbrev pub except_words : HeldExclusive → HeldExclusive
except_words h = record { replica = h.replica; words = []; dirty = [] }

-- one held shared, but for the words loaded of this replica
abbrev pub except_loaded : ℕ → HeldShared → HeldShared
except_loaded r h = record { replica = h.replica; loaded = if h.replica == r then [] else h.loaded }

-- what no access of a replica held exclusively changes: the seat but for the steps, the accesses, which words are dirty, and
-- what is loaded of the same replica held shared
abbrev pub unchanged_by_access : ℕ → Seated → Seated
unchanged_by_access r s = record s {
  known = record s.known {
    local = record s.known.local { exclusive = option_map except_words s.known.local.exclusive; shared = option_map (except_loaded r) s.known.local.shared; steps = 0 };
    accesses = [];
  };
}

-- what no access of a replica held shared changes: the seat but for the steps, what is loaded of it, and the accesses of the same replica held exclusively
abbrev pub unchanged_by_shared_access : ℕ → Seated → Seated
unchanged_by_shared_access r s = record s {
  known = record s.known {
    local = record s.known.local { shared = option_map (except_loaded r) s.known.local.shared; steps = 0 };
    accesses = if is_at r (exclusive_on s.known.local) then [] else s.known.accesses;
  };
}

-- whatever accesses of a replica held exclusively were made, it is held still, no step is taken back, and what no access changes is as it was
pub record KeepsHeld {O : Type 0} (o : Ghosts O) (r : Running O) (held : Right) (before after : Seated) : Type 0 where
  pub still : IsHeldIn o r after held
  pub since : StepsOn before after
  pub rest : unchanged_by_access held.replica after ≡ unchanged_by_access held.replica before

-- an access of a replica held exclusively was made: it is noted, and nothing else is changed
pub record Accesses {O : Type 0} (lines : ℕ) (r : Running O) (lawful : List ℕ → Type 0) (step : List ℕ → List ℕ → List ℕ × List ℕ) (held : Right) (note : Note) (before after : Seated) : Type 0 where
  pub allowed : ¬ IsAtLimit before.known.local
  pub accesses : after.known.accesses ≡ before.known.accesses ++ note ∷ []
  pub steps : after.known.local.steps ≡ one_more before.known.local.steps
  pub rest : unchanged_by_access held.replica after ≡ unchanged_by_access held.replica before
  pub within : IsWithinLimit after.known.local
  pub still : IsHeld lines r lawful step after held

-- a word of a replica held shared was loaded: it is noted, and nothing else is changed
pub record LoadsShared {O : Type 0} (lines : ℕ) (r : Running O) (lawful : List ℕ → Type 0) (held : Right) (at word : ℕ) (before after : Seated) : Type 0 where
  pub allowed : ¬ IsAtLimit before.known.local
  pub loaded : loaded_of after.known.local.shared ≡ loaded_of before.known.local.shared ++ (at, word) ∷ []
  pub steps : after.known.local.steps ≡ one_more before.known.local.steps
  pub rest : unchanged_by_shared_access held.replica after ≡ unchanged_by_shared_access held.replica before
  pub within : IsWithinLimit after.known.local
  pub still : IsHeldShared lines r lawful after held

-- a load of a replica held exclusively, by the place and the word
abbrev pub LoadsHeld : {O : Type 0} → ℕ → Running O → (List ℕ → Type 0) → (List ℕ → List ℕ → List ℕ × List ℕ) → Right → ℕ → ℕ → Seated → Seated → Type 0
LoadsHeld lines r lawful step held at word = Accesses lines r lawful step held (false, at, word)

-- The limit ended a run of loads: the first of these words were loaded.
pub record EndsRun {O : Type 0} (o : Ghosts O) (r : Running O) (kinds : ℕ → Kind) (words : List ℕ) (before after : Seated) : Type 0 where
  pub n : ℕ
  pub fewer : n < length words
  pub run : Runs r o.step o.only_reads (o.lawful r.object) kinds (take n words) before after
  pub limit : IsAtLimit after.known.local

-- words from a place on were loaded, in order, each as one load says of its place, its word, and the seat before and after it
pub data LoadsRun (load : ℕ → ℕ → Seated → Seated → Type 0) (from : ℕ) : List ℕ → Seated → Seated → Type 0 where
  no_load : (words : List ℕ) (before after : Seated) → words ≡ [] → after ≡ before → LoadsRun load from words before after
  one_more_load : (words : List ℕ) (before after : Seated) (first : List ℕ) (word : ℕ) (mid : Seated) → words ≡ first ++ word ∷ [] → LoadsRun load from first before mid → load (from + length first) word mid after → LoadsRun load from words before after

-- The limit ended loads of words from a place on, of which the first were made.
pub record HaltsLoading (load : ℕ → ℕ → Seated → Seated → Type 0) (from : ℕ) (words : List ℕ) (before after : Seated) : Type 0 where
  pub limit : IsAtLimit after.known.local
  pub some : (n : ℕ) × LoadsRun load from (take n words) before after
