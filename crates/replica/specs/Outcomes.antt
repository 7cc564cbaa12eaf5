-- What stands in a region for a caller.
use Rattle.std.specs.Prelude.{◌≡◌, ℕ, List, drop, take}
use Rattle.cx_core.specs.Region.{slot_number, slot_reply}

-- the 144 words of a region from a place on
abbrev pub ReplyFrom : ℕ → List ℕ → List ℕ → Type 0
ReplyFrom from reply region = take 144 (drop from region) ≡ reply

-- a caller's last entry in a region has this number, 0 for none, and this reply
pub record IsOutcome (caller number : ℕ) (reply region : List ℕ) : Type 0 where
  pub number_is : slot_number caller region ≡ number
  pub reply_is : slot_reply caller region ≡ reply
