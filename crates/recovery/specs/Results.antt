-- Where the results of a region come from.
use Rattle.std.specs.Prelude.{◌≡◌, ◌⊎◌, ◌<◌, ℕ, List}
use Rattle.cx_base.specs.Memory.{Words}
use Rattle.cx_core.specs.Region.{slot_number, slot_reply}

-- words with which an object's step answers some operation of 144 words, from a lawful image
pub record IsStepsReply (lawful : List ℕ → Type 0) (step : List ℕ → List ℕ → List ℕ × List ℕ) (words : List ℕ) : Type 0 where
  pub image : List ℕ
  pub op : List ℕ
  pub of : lawful image
  pub fits : Words 144 op
  pub is : words ≡ (step image op).1

-- a caller's result is the one of an earlier region
abbrev pub IsEarlierResult : List ℕ → List ℕ → ℕ → Type 0
IsEarlierResult earlier region caller = (slot_number caller region ≡ slot_number caller earlier) × (slot_reply caller region ≡ slot_reply caller earlier)

-- each caller's result is the one of an earlier region, or keeps a reply of the object's step
abbrev pub HasResultsFrom : (List ℕ → Type 0) → (List ℕ → List ℕ → List ℕ × List ℕ) → List ℕ → List ℕ → Type 0
HasResultsFrom lawful step earlier region =
    (caller : ℕ) → caller < 8 → IsEarlierResult earlier region caller ⊎ IsStepsReply lawful step (slot_reply caller region)
