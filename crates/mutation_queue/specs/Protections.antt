-- The outcome of protecting tickets.
use Rattle.std.specs.Prelude.{◌≡◌, ◌+◌, ◌^◌, ◌<◌, ◌≤◌, ◌⊎◌, true, false, ℕ, min, Result, Ok, Err}
use Rattle.cx_base.specs.Codes.{root_place_of}
use Rattle.cx_core.specs.declared.local.Local.{Local}
use Rattle.cx_core.specs.declared.local.Protection.TheVariants.{Confirmed, Unprotected}
use Rattle.cx_core.specs.Layout.{max_word}
use Rattle.cx_core.specs.RingEvents.{IsUnprotected, confirmed, stated}
use Rattle.cx_core.specs.State.{one_more}
use Rattle.cx_table.specs.Running.{IsSeatOf, Running}
use Rattle.cx_table.specs.Seats.{IsAtLimit, Seated}
use Rattle.mutation_queue.specs.declared.reclamation.Protected.{Protected}
use Rattle.mutation_queue.specs.declared.reclamation.Protected.TheVariants.{Behind, Kept}

-- a seat but for its protection, the greatest LOW found, whether what was seen of CUR is fresh, and the counts of steps and refusals
abbrev pub except_protected : Seated → Seated
except_protected s = record s { known = record s.known { local = record s.known.local { protection = Unprotected; seen_low = 0; fresh = false; steps = 0; met = 0 } } }

-- the tickets from a place on may be protected: no protection stands
pub record MayProtect {O : Type 0} (r : Running O) (place : ℕ) (seat : Seated) : Type 0 where
  pub of : IsSeatOf r seat
  pub small : place ≤ 2 ^ 40
  pub none : IsUnprotected seat.known.local.protection

-- the code last loaded from CUR is in use, and its place is at most this one: a LOW above it shows that the code is outdated
abbrev pub ShowsRootOutdated : ℕ → ℕ → Local → Type 0
ShowsRootOutdated callers place l = (root_place_of callers l.seen_cur ≤ place) × (l.fresh ≡ true)

-- what was seen of CUR is in use as before, and no refusal was met
pub record MeetsNone (before after : Seated) : Type 0 where
  pub fresh : after.known.local.fresh ≡ before.known.local.fresh
  pub met : after.known.local.met ≡ before.known.local.met

-- The tickets from a place on are protected: the LOW loaded is at most that place.
pub record KeepsFrom (place : ℕ) (before after : Seated) : Type 0 where
  pub same : except_protected after ≡ except_protected before
  pub protection : after.known.local.protection ≡ Confirmed place
  pub none : MeetsNone before after
  pub least : after.known.local.seen_low ≤ place
  pub count : after.known.local.steps ≡ min (before.known.local.steps + 2) max_word

-- LOW is above the place, and no protection stands. Where that shows the code last loaded from CUR to be outdated, a refusal is met.
pub record FallsBehind (callers place low : ℕ) (before after : Seated) : Type 0 where
  pub same : except_protected after ≡ except_protected before
  pub protection : after.known.local.protection ≡ Unprotected
  pub above : place < low
  pub seen : after.known.local.seen_low ≡ low
  pub outdated : ShowsRootOutdated callers place before.known.local → (after.known.local.met ≡ one_more before.known.local.met) × (after.known.local.fresh ≡ false)
  pub current : (ShowsRootOutdated callers place before.known.local → ⊥) → MeetsNone before after
  pub count : after.known.local.steps ≡ min (before.known.local.steps + 3) max_word

-- the outcome of protecting the tickets from a place on
abbrev pub TriesProtect : ℕ → ℕ → Seated → Seated → Protected → Type 0
TriesProtect callers place before after Kept = KeepsFrom place before after
TriesProtect callers place before after (Behind low) = FallsBehind callers place low before after

-- the seat after a place was stated from which on the caller reads
abbrev pub with_stated : ℕ → Seated → Seated
with_stated place s = record s { known = record s.known { local = stated place s.known.local } }

-- the seat after this LOW was loaded to confirm the protection
abbrev pub with_low : ℕ → ℕ → Seated → Seated
with_low callers low s = record s { known = record s.known { local = confirmed callers s.known.local low } }

-- The limit came before the place was stated, before LOW was loaded, or, where LOW is above the place, before that was taken back:
-- no protection is confirmed.
pub record HaltsProtecting (callers place : ℕ) (before after : Seated) : Type 0 where
  pub limit : IsAtLimit after.known.local
  pub seat :
      (after ≡ before)
      ⊎ ((after ≡ with_stated place before)
      ⊎ ((low : ℕ) × (place < low) × (after ≡ with_low callers low (with_stated place before))))

-- what protecting the tickets from a place on leaves: an outcome, or the limit came before the last of the steps
abbrev pub EndsProtecting : {E : Type 0} → ℕ → ℕ → Seated → Seated → Result Protected E → Type 0
EndsProtecting callers place before after (Ok x) = TriesProtect callers place before after x
EndsProtecting callers place before after (Err e) = HaltsProtecting callers place before after

-- the protection is released by one step
abbrev pub unprotected : Seated → Seated
unprotected s = record s { known = record s.known { local = record s.known.local { protection = Unprotected; steps = one_more s.known.local.steps } } }
