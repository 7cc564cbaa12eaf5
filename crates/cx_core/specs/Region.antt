-- A region is the words of a replica: word 0 is the place, words 1 to 7 are 0, then come eight result slots, one for
-- each caller that there may be, and from word 1168 on the object part.
use Rattle.std.specs.Prelude.{◌≡◌, ◌+◌, ◌*◌, ◌<◌, ◌≤◌, ℕ, List, drop, take, replicate, slice_index}

-- the number of words of a region whose object part has this number of lines
abbrev pub region_words : ℕ → ℕ
region_words lines = 8 * (146 + lines)

-- the place after which a region is
abbrev pub place_of : List ℕ → ℕ
place_of region = slice_index region 0

-- where the slot of a caller begins: its number, and then the 144 words of its reply
abbrev pub slot_start : ℕ → ℕ
slot_start caller = 8 + 145 * caller

-- the number of a caller's last entry applied, 0 for none
abbrev pub slot_number : ℕ → List ℕ → ℕ
slot_number caller region = slice_index region (slot_start caller)

-- the reply to that entry
unfoldable pub slot_reply : ℕ → List ℕ → List ℕ
slot_reply caller region = take 144 (drop (slot_start caller + 1) region)

-- the image of the object
unfoldable pub object_part : List ℕ → List ℕ
object_part region = drop 1168 region

-- words 1 to 7 are 0, and a slot without a number has no reply
pub record LawfulResults (region : List ℕ) : Type 0 where
  pub zeros : (at : ℕ) → 1 ≤ at → at ≤ 7 → slice_index region at ≡ 0
  pub empty : (caller : ℕ) → caller < 8 → slot_number caller region ≡ 0 → slot_reply caller region ≡ replicate 144 0
