-- The outcomes of tries of a replica, by the word found.
use Rattle.std.specs.Prelude.{◌≡◌, ◌≢◌, ◌<◌, ◌≤◌, ◌⊎◌, ℕ, Bool, List, Some}
use Rattle.cx_core.specs.declared.kinds.Kind.TheVariants.{BackOff, TryExclusive, TryShared}
use Rattle.cx_core.specs.LockEvents.{exclusive_mark}
use Rattle.cx_table.specs.Right.{Right}
use Rattle.cx_table.specs.Running.{Running}
use Rattle.cx_table.specs.Seats.{IsAtLimit, Seated}
use Rattle.cx_table.specs.Steps.{Halts, Steps}
use Rattle.cx_table.specs.Tokens.{IsExclusiveOf, IsSharedOf}
use Rattle.strong_trylock.specs.declared.try_lock.ExclusiveTried.{ExclusiveTried}
use Rattle.strong_trylock.specs.declared.try_lock.ExclusiveTried.TheVariants.{Got, Held}
use Rattle.strong_trylock.specs.declared.try_lock.SharedTried.{SharedTried}
use Rattle.strong_trylock.specs.declared.try_lock.SharedTried.TheVariants.{Got as GotShared, Held as HeldByOther}
use Rattle.strong_trylock.specs.Held.{SawWord, all_rights}

-- An exclusive try that found this word answers the right exactly where the word is 0, with its token; else it answers the
-- word, and the caller has the rights that it had.
abbrev pub AnswersExclusive : ℕ → ℕ → ℕ → Seated → Seated → ExclusiveTried → Type 0
AnswersExclusive callers replica found before after (Got held) =
    (found ≡ 0) × (held.replica ≡ replica) × IsExclusiveOf callers after held × (all_rights after ≡ record (all_rights before) { exclusive = Some replica })
AnswersExclusive callers replica found before after (Held word) = (found ≢ 0) × (word ≡ found) × (all_rights after ≡ all_rights before)

-- an exclusive try is one event, which found this word
pub record TriesExclusive {O : Type 0} (r : Running O) (step : O → List ℕ → List ℕ → List ℕ × List ℕ) (reads : O → List ℕ → Bool) (replica : ℕ) (before after : Seated) (tried : ExclusiveTried) : Type 0 where
  pub found : ℕ
  pub made : Steps r step reads (TryExclusive replica) found before after
  pub seen : SawWord replica found after
  pub answer : AnswersExclusive r.callers replica found before after tried

-- a shared try that found no exclusive mark is one event, which found this word, and hands the hold out
pub record TakesShared {O : Type 0} (r : Running O) (step : O → List ℕ → List ℕ → List ℕ × List ℕ) (reads : O → List ℕ → Bool) (replica : ℕ) (before after : Seated) (held : Right) : Type 0 where
  pub found : ℕ
  pub unmarked : found < exclusive_mark
  pub made : Steps r step reads (TryShared replica) found before after
  pub seen : SawWord replica found after
  pub here : held.replica ≡ replica
  pub token : IsSharedOf r.callers after held
  pub rights : all_rights after ≡ record (all_rights before) { shared = Some replica }

-- A shared try that found this word, which has the exclusive mark, is two events: the try, and the passer's mark taken back.
-- The caller has the rights that it had.
pub record PassesBy {O : Type 0} (r : Running O) (step : O → List ℕ → List ℕ → List ℕ × List ℕ) (reads : O → List ℕ → Bool) (replica found : ℕ) (before after : Seated) : Type 0 where
  pub marked : exclusive_mark ≤ found
  pub between : Seated
  pub made : Steps r step reads (TryShared replica) found before between
  pub last : ℕ
  pub back : Steps r step reads (BackOff replica) last between after
  pub seen : SawWord replica found after
  pub rights : all_rights after ≡ all_rights before

abbrev pub TriesShared : {O : Type 0} → Running O → (O → List ℕ → List ℕ → List ℕ × List ℕ) → (O → List ℕ → Bool) → ℕ → Seated → Seated → SharedTried → Type 0
TriesShared r step reads replica before after (GotShared held) = TakesShared r step reads replica before after held
TriesShared r step reads replica before after (HeldByOther found) = PassesBy r step reads replica found before after

-- A shared try that was to take its passer's mark back, and its steps equal the limit. The mark stands, and the caller makes no
-- further step.
pub record LeavesMark {O : Type 0} (r : Running O) (step : O → List ℕ → List ℕ → List ℕ × List ℕ) (reads : O → List ℕ → Bool) (replica : ℕ) (before after : Seated) : Type 0 where
  pub found : ℕ
  pub marked : exclusive_mark ≤ found
  pub made : Steps r step reads (TryShared replica) found before after
  pub limit : IsAtLimit after.known.local
  pub seen : SawWord replica found after
  pub rights : all_rights after ≡ record (all_rights before) { passer = Some replica }

-- a shared try that halted: no step was made, or the passer's mark stands
abbrev pub HaltsShared : {O : Type 0} → Running O → (O → List ℕ → List ℕ → List ℕ × List ℕ) → (O → List ℕ → Bool) → ℕ → Seated → Seated → Type 0
HaltsShared r step reads replica before after = Halts r before after ⊎ LeavesMark r step reads replica before after
