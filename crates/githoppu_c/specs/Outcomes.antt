-- The outcome of a session's last operation, read from the words of an image.
use Rattle.std.specs.Prelude.{◌≡◌, ◌==◌, ◌⊎◌, ◌+◌, ◌*◌, ◌<◌, ◌≤◌, ℕ, ℤ, pos, List, IfOk, MatchResult, Result, length, replicate, slice_index, if◌then◌else◌}
use Rattle.cx_base.specs.Codes.{root_replica_of}
use Rattle.cx_base.specs.OldFormat.{no_old_format}
use Rattle.cx_core.specs.declared.entry.Base.{Base}
use Rattle.cx_core.specs.Region.{region_words}
use Rattle.recovery.specs.Outcomes.{outcome_of}
use Rattle.recovery.specs.declared.applied.Outcome.{Outcome}
use Rattle.recovery.specs.declared.applied.Outcome.TheVariants.{Applied, Never}
use Rattle.c_images.specs.Words.{IsHeadFault, IsHeaded, callers_in, format_in, lines_in, object_kind_in, root_in}
use Rattle.c_images.specs.declared.reader.WordsFault.{WordsFault}
use Rattle.githoppu_c.specs.Codes.{fault_code}
use Rattle.githoppu_c.specs.Objects.{IsProgramFault, IsProgramIn, IsQueueFault, IsQueueIn, IsStoreFault, IsStoreIn}

-- the word at which the object begins in the replica that the root names: 8 words of the head, then the replicas before that one, then the 1168 words
-- of a replica before its object
abbrev pub object_start_in : List ℕ → ℕ
object_start_in words = 8 + 1168 + (if format_in words == 2 then 0 else region_words (lines_in words) * root_replica_of (callers_in words) (root_in words))

-- the fingerprint that words of a program's object name: the first word of the object
abbrev pub fingerprint_in : List ℕ → ℕ
fingerprint_in words = slice_index words (object_start_in words)

-- a base is what recovery takes from `words` as of this kind of object: 1 is a document store, 2 a queue, 3 the object of the program whose
-- fingerprint the words name
abbrev pub IsBaseOfKind : ℕ → List ℕ → Base → Type 0
IsBaseOfKind kind words base =
    ((kind ≡ 1) × IsStoreIn words base)
    ⊎ (((kind ≡ 2) × IsQueueIn words base) ⊎ ((kind ≡ 3) × IsProgramIn (fingerprint_in words) (λ _. no_old_format) words base))

-- `words` begin with a head, and the base is what recovery takes from them as of the kind of object that the head names
abbrev pub IsBaseIn : List ℕ → Base → Type 0
IsBaseIn words base = IsHeaded words × IsBaseOfKind (object_kind_in words) words base

-- a fault is why recovery takes no base from `words` as of this kind of object: 1 is a document store, 2 a queue, 3 the object of the program whose
-- fingerprint the words name
abbrev pub IsFaultOfKind : ℕ → List ℕ → WordsFault → Type 0
IsFaultOfKind kind words fault =
    ((kind ≡ 1) × IsStoreFault words fault)
    ⊎ (((kind ≡ 2) × IsQueueFault words fault) ⊎ ((kind ≡ 3) × IsProgramFault (fingerprint_in words) (λ _. no_old_format) words fault))

-- a fault is why recovery takes no base from `words`: they begin with no head, or they are refused as of the kind of object that it names
abbrev pub IsBaseFault : List ℕ → WordsFault → Type 0
IsBaseFault words fault = IsHeadFault (object_kind_in words) words fault ⊎ (IsHeaded words × IsFaultOfKind (object_kind_in words) words fault)

-- the outcome of the last operation of the session with the number `session`, 0 to 7, by the base that recovery takes from `words`
abbrev pub IsOutcomeIn : List ℕ → ℕ → Outcome → Type 0
IsOutcomeIn words session outcome = (session < 8) × ((base : Base) × IsBaseIn words base × (outcome ≡ outcome_of session base))

-- recovery takes no base from `words`, and `code` is the status for the fault
abbrev pub RefusesBase : List ℕ → ℤ → Type 0
RefusesBase words code = (fault : WordsFault) × IsBaseFault words fault × (code ≡ fault_code fault)

-- The answer is the base that recovery takes from `words`, or the status for why there is none. The base has the 1168 words before the object.
pub record TellsBase (words : List ℕ) (answer : Result Base ℤ) : Type 0 where
  pub base : MatchResult answer (IsBaseIn words) (RefusesBase words)
  pub long : IfOk answer (λ base. 1168 ≤ length base.words)

-- why there is no outcome, as the status `code`: 7 where the number of the session is above 7, else that of the fault for which the words are refused
abbrev pub RefusesOutcome : List ℕ → ℕ → ℤ → Type 0
RefusesOutcome words session code = ((8 ≤ session) × (code ≡ pos 7)) ⊎ ((session < 8) × RefusesBase words code)

-- `number` and `reply` are those of an outcome: of the operation that was applied, or 0 and 144 zeros where there was none
abbrev pub AreOf : Outcome → ℕ → List ℕ → Type 0
AreOf Never number reply = (number ≡ 0) × (reply ≡ replicate 144 0)
AreOf (Applied last answer) number reply = (number ≡ last) × (reply ≡ answer)

-- The answer to C where it asks for an outcome: it is written as `number` and `reply`, and the status `code` is 0. Or `code` says why there is none,
-- and the number and the reply are as they were before.
abbrev pub WritesOutcome : List ℕ → ℕ → ℕ → ℕ → List ℕ → List ℕ → ℤ → Type 0
WritesOutcome words session number_before number reply_before reply code =
    ((outcome : Outcome) × IsOutcomeIn words session outcome × AreOf outcome number reply × (code ≡ pos 0))
    ⊎ (RefusesOutcome words session code × (number ≡ number_before) × (reply ≡ reply_before))
