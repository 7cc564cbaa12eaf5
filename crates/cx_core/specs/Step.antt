-- The full step of an entry.
use Rattle.std.specs.Prelude.{◌≡◌, ◌+◌, ◌^◌, ◌<◌, ℕ, IsTrue, List, [], ◌∷◌, drop}
use Rattle.cx_core.specs.declared.entry.Entry.{Entry}
use Rattle.cx_base.specs.Memory.{overwritten}
use Rattle.cx_base.specs.declared.memory.Memory.{Ghosts}
use Rattle.cx_core.specs.Region.{place_of, region_words, slot_start, object_part}

-- The object's step is done on the object part, the entry's number and the reply are put into the slot of its caller,
-- and 1 is added to the place.
unfoldable pub full_step_of : (List ℕ → List ℕ → List ℕ × List ℕ) → Entry → List ℕ → List ℕ
full_step_of step entry region =
    let done = step (object_part region) entry.op in
    overwritten 0 ((place_of region + 1) ∷ []) (overwritten (slot_start entry.caller) (entry.number ∷ done.1) (overwritten 1168 done.0 region))

-- the words after the full step of an entry, and the object's reply to it
pub record IsStepped (step : List ℕ → List ℕ → List ℕ × List ℕ) (entry : Entry) (reply before now : List ℕ) : Type 0 where
  pub words : now ≡ full_step_of step entry before
  pub replied : reply ≡ (step (object_part before) entry.op).1

-- the words from a place on are so related, and the words in front are kept
pub record OnPart (from : ℕ) (R : List ℕ → List ℕ → Type 0) (before now : List ℕ) : Type 0 where
  pub part : R (drop from before) (drop from now)
  pub rest : now ≡ overwritten from (drop from now) before

-- a writable memory of a region whose object part has this number of lines, with as many words as 64-bit places tell apart
pub record HasRegion {Memory : Type 0} (m : Ghosts Memory) (lines : ℕ) (mem : Memory) : Type 0 where
  pub size : m.size mem ≡ region_words lines
  pub small : region_words lines < 2 ^ 64
  pub writable : IsTrue (m.writable mem)
