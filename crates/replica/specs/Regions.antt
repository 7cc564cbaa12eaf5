-- A held replica as a memory.
use Rattle.std.specs.Prelude.{◌≡◌, ◌==◌, ◌&&◌, ℕ, Bool, true, List, Option, Some, None}
use Rattle.std.specs.List.{list_any}
use Rattle.cx_base.specs.Memory.{Words}
use Rattle.cx_base.specs.Noted.{Note, NotesShow, shown_words}
use Rattle.cx_core.specs.declared.entry.Base.{Base}
use Rattle.cx_core.specs.Region.{region_words}
use Rattle.table_invariant.specs.declared.rule.Known.{Known}
use Rattle.table_invariant.specs.Fitting.{IsConsistentWith, FitsKnown, ReadFits, loads_of}
use Rattle.table_invariant.specs.Seats.{Seated, place_noted}
use Rattle.cx_table.specs.Right.{Right}
use Rattle.replica.specs.Held.{unchanged_by_access}

-- what no access of a region changes: the reference to the seat, the table, the token, whether the place was accessed before, the steps made
-- before, and the seat but for what an access changes
pub record RegionFixed (Name Table : Type 0) : Type 0 where
  pub name : Name
  pub table : Table
  pub held : Right
  pub placed : Bool
  pub began : ℕ
  pub rest : Seated

-- what no access of a region changes, of a region over this seat
abbrev pub region_fixed : {Name Table : Type 0} → Name → Table → Right → Bool → ℕ → Seated → RegionFixed Name Table
region_fixed name table held placed began seat = record { name = name; table = table; held = held; placed = placed; began = began; rest = unchanged_by_access held.replica seat }

-- what no access of a region changes is as before
pub record SameRegion {Name Table : Type 0} (before after : RegionFixed Name Table) : Type 0 where
  pub name : after.name ≡ before.name
  pub table : after.table ≡ before.table
  pub held : after.held ≡ before.held
  pub placed : after.placed ≡ before.placed
  pub began : after.began ≡ before.began
  pub rest : after.rest ≡ before.rest

-- what no access of a region for loads changes: the reference to the seat, the table, the token, the place where it was loaded before, the steps made
-- before, and the seat but for what an access changes
pub record ReadFixed (Name Table : Type 0) : Type 0 where
  pub name : Name
  pub table : Table
  pub held : Right
  pub placed : Option ℕ
  pub began : ℕ
  pub rest : Seated

-- A region is over this table, seat and right, and it is known of its place whether, or as what, it was accessed before, and how many steps were
-- made before.
pub record IsRegionOf {Name Table Placed : Type 0} (n n' : Name) (t t' : Table) (s s' : Seated) (h h' : Right) (p p' : Placed) (began : ℕ) : Type 0 where
  pub name : n' ≡ n
  pub table : t' ≡ t
  pub seat : s' ≡ s
  pub held : h' ≡ h
  pub placed : p' ≡ p
  pub steps : began ≡ s.known.local.steps

-- the place is among the words loaded or stored
abbrev pub HasPlace : List Note → Type 0
HasPlace accesses = (place : ℕ) → place_noted place accesses ≡ place_noted 0 accesses

-- whether two addresses are equal, and the words with them
abbrev pub is_same : ℕ × ℕ → ℕ × ℕ → Bool
is_same x y = (x.0 == y.0) && (x.1 == y.1)

-- where a place is known to have been loaded, whether it is among the words loaded
abbrev pub has_loaded : Option ℕ → List (ℕ × ℕ) → Bool
has_loaded None loaded = true
has_loaded (Some place) loaded = list_any (is_same (0, place)) loaded

-- a pair that fits the accesses of a region fits them as notes of a memory
pub fits_shows : (lines : ℕ) (lawful : List ℕ → Type 0) (base : Base) (accesses : List Note) (first now : List ℕ) → IsConsistentWith lines lawful base accesses first now → NotesShow (region_words lines) accesses first now
fits_shows lines lawful base accesses first now f = record { words = f.origin.size; leads = f.leads }

-- the words now of a pair that fits are a region
pub fits_words : (lines : ℕ) (lawful : List ℕ → Type 0) (base : Base) (accesses : List Note) (first now : List ℕ) → IsConsistentWith lines lawful base accesses first now → Words (region_words lines) now
fits_words lines lawful base accesses first now f = shown_words (region_words lines) accesses first now (fits_shows lines lawful base accesses first now f)

-- the words now of a pair that fits what a caller knows are a region
pub known_words : (lines : ℕ) (lawful : List ℕ → Type 0) (base : Base) (step : List ℕ → List ℕ → List ℕ × List ℕ) (known : Known) (first now : List ℕ) → FitsKnown lines lawful base step known first now → Words (region_words lines) now
known_words lines lawful base step known first now f = fits_words lines lawful base known.accesses first now f.fits

-- the words now of a pair that fits the words loaded of a replica held shared are a region
pub read_words : (lines : ℕ) (lawful : List ℕ → Type 0) (base : Base) (loaded : List (ℕ × ℕ)) (first now : List ℕ) → ReadFits lines lawful base loaded first now → Words (region_words lines) now
read_words lines lawful base loaded first now f = fits_words lines lawful base (loads_of loaded) first now f.fits
