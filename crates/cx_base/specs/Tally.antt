-- The object of the tests: a running sum.
use Rattle.std.specs.Prelude.{◌≡◌, ◌==◌, ◌+◌, ◌%◌, ◌^◌, ℕ, Bool, List, ◌∷◌, replicate, slice_index, slice_set, if◌then◌else◌}
use Rattle.cx_base.specs.Memory.{Words}

-- 512 words, the first of which is the version
pub record IsTally (image : List ℕ) : Type 0 where
  pub words : Words 512 image
  pub version : slice_index image 0 ≡ 7

-- the sum 0
unfoldable pub tally_opening : List ℕ
tally_opening = 7 ∷ replicate 511 0

-- an operation whose word 1 is 1 only reads
abbrev pub tally_reads : List ℕ → Bool
tally_reads op = slice_index op 1 == 1

-- a reply: the sum, and zeros behind it
unfoldable pub tally_reply : ℕ → List ℕ
tally_reply sum = sum ∷ replicate 143 0

-- the sum after an operation that adds
abbrev pub tally_sum : List ℕ → List ℕ → ℕ
tally_sum image op = (slice_index image 1 + slice_index op 0) % 2 ^ 64

-- one step: word 0 of the operation is added to word 1 of the image, wrapping
abbrev pub tally_step : List ℕ → List ℕ → List ℕ × List ℕ
tally_step image op =
    if tally_reads op
    then (image, tally_reply (slice_index image 1))
    else (slice_set image 1 (tally_sum image op), tally_reply (tally_sum image op))
