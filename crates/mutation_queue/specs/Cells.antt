-- Cells of a caller, and what is announced in one.
use Rattle.std.specs.Prelude.{◌≡◌, ◌≢◌, ◌+◌, ◌<◌, ◌≤◌, ◌⊎◌, ◌==◌, ℕ, min, false, if◌then◌else◌, List, [], ◌∷◌, drop, slice_index, Option, Some, None}
use Rattle.cx_core.specs.declared.entry.Base.{Base}
use Rattle.cx_core.specs.declared.local.Local.{Local}
use Rattle.cx_core.specs.QueueEvents.{IsIdle, cell_of, next_number}
use Rattle.cx_core.specs.Layout.{max_word}
use Rattle.cx_table.specs.Running.{IsSeatOf, Running}
use Rattle.cx_table.specs.Seats.{IsAtLimit, IsWithinLimit, Seated, StepsOn}

-- a cell holds a ticket at or above the greatest FREE found
abbrev pub IsInUseAt : ℕ → Option ℕ → Type 0
IsInUseAt free None = ⊥
IsInUseAt free (Some ticket) = free ≤ ticket

-- a caller's cell is in use, as far as the caller knows: the cell has a ticket at or above what the caller last saw in FREE
abbrev pub IsInUse : Local → ℕ → Type 0
IsInUse l j = IsInUseAt l.seen_free (cell_of l j).ticket

-- a cell of this caller of the table may be written
pub record MayAnnounce {O : Type 0} (r : Running O) (cell : ℕ) (seat : Seated) : Type 0 where
  pub of : IsSeatOf r seat
  pub few : cell < 16
  pub idle : IsIdle seat.known.local cell

-- at how many places two lists differ
unfoldable pub differing : List ℕ → List ℕ → ℕ
differing [] ys = 0
differing (x ∷ xs) [] = 0
differing (x ∷ xs) (y ∷ ys) = (if x == y then 0 else 1) + differing xs ys

-- the steps that it takes to have the words in the cell: the first is always written, and of the others each that differs
-- from the one there
abbrev pub writes : Local → ℕ → List ℕ → ℕ
writes l j words = 1 + differing (drop 1 (cell_of l j).words) (drop 1 words)

-- The seat is at its limit, which is less than what all the steps need, and none is taken back. Some words were written into the cell, which
-- stays idle, and nothing else is changed but that what was loaded from CUR is then not fresh any more.
pub record HaltsIn (j : ℕ) (words : List ℕ) (before after : Seated) : Type 0 where
  pub limit : IsAtLimit after.known.local
  pub short : before.known.local.limit < before.known.local.steps + writes before.known.local j words
  pub since : StepsOn before after
  pub none : IsAtLimit before.known.local → after ≡ before
  pub idle : IsIdle after.known.local j
  pub cell : (i : ℕ) →
      (slice_index (cell_of after.known.local j).words i ≡ slice_index (cell_of before.known.local j).words i)
      ⊎ (slice_index (cell_of after.known.local j).words i ≡ slice_index words i)
  pub others : (k : ℕ) → k ≢ j → cell_of after.known.local k ≡ cell_of before.known.local k
  pub rest : after ≡ record before { known = record before.known { local = record before.known.local { cells = after.known.local.cells; fresh = after.known.local.fresh; steps = after.known.local.steps } } }

-- All words are in the cell: the steps that did it were within the limit, and there was at least one. The cell has the words
-- and no ticket, and nothing else is changed but that what was loaded from CUR is not fresh any more.
pub record Announces (j : ℕ) (words : List ℕ) (before after : Seated) : Type 0 where
  pub allowed : ¬ IsAtLimit before.known.local
  pub within : IsWithinLimit after.known.local
  pub cell : cell_of after.known.local j ≡ record (cell_of before.known.local j) { words = words; ticket = None }
  pub others : (k : ℕ) → k ≢ j → cell_of after.known.local k ≡ cell_of before.known.local k
  pub rest : after ≡ record before { known = record before.known { local = record before.known.local { cells = after.known.local.cells; fresh = false; steps = after.known.local.steps } } }
  pub count : after.known.local.steps ≡ min (before.known.local.steps + writes before.known.local j words) max_word
  pub most : after.known.local.steps ≤ before.known.local.steps + 145

-- an entry that was announced in a cell may be linked: the cell is idle and has the caller's next number
pub record IsAnnounced (base : Base) (cell : ℕ) (seat : Seated) : Type 0 where
  pub idle : IsIdle seat.known.local cell
  pub number : slice_index (cell_of seat.known.local cell).words 0 ≡ next_number base seat.known.local

-- All words are in the cell, and the entry that they are may be linked.
pub record AnnouncesEntry (base : Base) (j : ℕ) (words : List ℕ) (before after : Seated) : Type 0 where
  pub announces : Announces j words before after
  pub ready : IsAnnounced base j after
