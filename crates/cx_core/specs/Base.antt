-- What a service begins with.
use Rattle.std.specs.Prelude.{◌≡◌, ◌^◌, ◌<◌, ◌≤◌, ◌⊎◌, ◌++◌, ℕ, List, replicate}
use Rattle.cx_base.specs.Memory.{Words}
use Rattle.cx_core.specs.Region.{region_words, place_of, slot_number, slot_reply, object_part, LawfulResults}
use Rattle.cx_core.specs.declared.entry.Base.{Base}
use Rattle.cx_core.specs.declared.entry.Entry.{Entry}

-- A base is lawful for an object of this number of lines where it is a region at its place, which is at most 2^40, where
-- its results and its object part are lawful, and where no number of a slot is above the place.
pub record LawfulBase (lines : ℕ) (lawful : List ℕ → Type 0) (base : Base) : Type 0 where
  pub size : Words (region_words lines) base.words
  pub at_place : place_of base.words ≡ base.place
  pub place_within : base.place ≤ 2 ^ 40
  pub results : LawfulResults base.words
  pub object : lawful (object_part base.words)
  pub numbers : (caller : ℕ) → caller < 8 → slot_number caller base.words ≤ base.place

-- place 0 and no results
unfoldable pub no_results : List ℕ
no_results = replicate 1168 0

-- the first region: place 0, no results, and the opening image of an object
abbrev pub fresh_region : List ℕ → List ℕ
fresh_region opening = no_results ++ opening

-- what a full step keeps of a lawful base
pub record Keeps (lines : ℕ) (lawful : List ℕ → Type 0) (step : List ℕ → List ℕ → List ℕ × List ℕ) (base : Base) (entry : Entry) (next : Base) : Type 0 where
  pub lawful_next : LawfulBase lines lawful next
  pub object : object_part next.words ≡ (step (object_part base.words) entry.op).0
  pub number : slot_number entry.caller next.words ≡ entry.number
  pub reply : slot_reply entry.caller next.words ≡ (step (object_part base.words) entry.op).1
  pub others : (c : ℕ) → c < 8 → (c < entry.caller) ⊎ (entry.caller < c) → (slot_number c next.words ≡ slot_number c base.words) × (slot_reply c next.words ≡ slot_reply c base.words)
