-- The kinds of step on the words of replicas: when a word may be loaded, stored or persisted, and what the caller learns.
use Rattle.std.specs.Prelude.{◌≡◌, ◌≢◌, ◌*◌, ◌<◌, ◌⊎◌, ◌==◌, ℕ, Bool, true, false, if◌then◌else◌, List, [], ◌∷◌, ◌++◌, filter, IsTrue, slice_index, slice_set, Some}
use Rattle.std.specs.List.{Contains}
use Rattle.std.specs.Option.{option_map}
use Rattle.cx_base.specs.Codes.{root_place_of}
use Rattle.cx_core.specs.declared.local.HeldExclusive.{HeldExclusive}
use Rattle.cx_core.specs.declared.local.HeldShared.{HeldShared}
use Rattle.cx_core.specs.declared.local.Local.{Local}
use Rattle.cx_core.specs.Layout.{vol_at}
use Rattle.cx_core.specs.LockEvents.{is_fresh_on, with_number}
use Rattle.cx_core.specs.Rights.{exclusive_on, held_dirty, shared_on}
use Rattle.cx_core.specs.State.{one_more}

-- a caller may load a word of a replica that it holds exclusively or shared, within the number of words of a region
abbrev pub CanLoad : ℕ → ℕ → ℕ → ℕ → Local → Type 0
CanLoad callers region r i l = (r < 2 * callers) × (i < region) × ((exclusive_on l ≡ Some r) ⊎ (shared_on l ≡ Some r))

-- the place word of a replica held shared, which the code last loaded from CUR names, is not the place of that code
abbrev pub ShowsOutdated : ℕ → ℕ → List ℕ → ℕ → ℕ → Local → Type 0
ShowsOutdated callers region words r i l =
    (i ≡ 0)
    × (shared_on l ≡ Some r)
    × IsTrue (is_fresh_on callers r l)
    × (slice_index words (vol_at callers region r 0) ≢ root_place_of callers l.seen_cur)

-- a load that is marked as a refusal also needs that its word shows the replica outdated
abbrev pub CanLoadAs : Bool → ℕ → ℕ → List ℕ → ℕ → ℕ → Local → Type 0
CanLoadAs refused callers region words r i l = CanLoad callers region r i l × (IsTrue refused → ShowsOutdated callers region words r i l)

-- a caller may store into a replica that it holds exclusively
abbrev pub CanStore : ℕ → ℕ → ℕ → ℕ → Local → Type 0
CanStore callers region r i l = (r < 2 * callers) × (i < region) × (exclusive_on l ≡ Some r)

-- a caller may persist a dirty word of a replica that it holds exclusively
abbrev pub CanPersist : ℕ → ℕ → ℕ → ℕ → Local → Type 0
CanPersist callers region r i l = CanStore callers region r i l × Contains (held_dirty l.exclusive) i

-- what is loaded of a replica held shared, with one word more
abbrev pub loaded_into : ℕ → ℕ → ℕ → HeldShared → HeldShared
loaded_into r i found h = record h { loaded = if h.replica == r then h.loaded ++ (i, found) ∷ [] else h.loaded }

-- the local state after a word was loaded. Where it is marked as a refusal, a refusal is met.
abbrev pub loaded_by : ℕ → ℕ → Bool → Local → ℕ → Local
loaded_by r i refused l found = record l {
  shared = option_map (loaded_into r i found) l.shared;
  met = if refused then one_more l.met else l.met;
  fresh = if refused then false else l.fresh;
  steps = one_more l.steps;
}

-- what is held exclusively after a word was stored, which is dirty then
abbrev pub stored_into : ℕ → ℕ → HeldExclusive → HeldExclusive
stored_into i v h = record h { words = slice_set h.words i v; dirty = with_number h.dirty i }

-- what is held exclusively after a word was persisted, which is not dirty then
abbrev pub persisted : ℕ → HeldExclusive → HeldExclusive
persisted i h = record h { dirty = filter (λ x. if x == i then false else true) h.dirty }
