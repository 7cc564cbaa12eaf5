-- A write set of a ticket is a list of addresses and values that leads from the full image at the ticket to the next.
use Rattle.std.specs.Prelude.{◌≡◌, ◌+◌, ◌*◌, ◌<◌, ◌≤◌, ℕ, zero, suc, List, length, slice_index, slice_set}
use Rattle.cx_core.specs.declared.entry.Entry.{Entry}
use Rattle.cx_core.specs.History.{full_image}
use Rattle.cx_core.specs.State.{Instance}

-- a region after the first n pairs of a set were stored in order: word 2m + 1 of the set is the address of pair m, and
-- word 2m + 2 its value
abbrev pub stored : ℕ → List ℕ → List ℕ → List ℕ
stored zero set region = region
stored (suc m) set region = slice_set (stored m set region) (slice_index set (2 * m + 1)) (slice_index set (2 * m + 2))

-- the words of a set lead from one region to another: word 0 of the set is the number of its pairs, at most 256
pub record IsWriteSet (set before after : List ℕ) : Type 0 where
  pub few : slice_index set 0 ≤ 256
  pub within : (m : ℕ) → m < slice_index set 0 → slice_index set (2 * m + 1) < length before
  pub gives : stored (slice_index set 0) set before ≡ after

-- a set is a write set of a ticket in a history: it leads from the full image at the ticket to the one at the next place
abbrev pub IsWriteSetOf : Instance → List Entry → ℕ → List ℕ → Type 0
IsWriteSetOf instance history ticket set =
    IsWriteSet set (full_image instance.step instance.base history ticket) (full_image instance.step instance.base history (ticket + 1))
