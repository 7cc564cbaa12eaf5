-- What a caller noted of a replica tells of the write set of an entry that it did there.
use Rattle.std.specs.Prelude.{◌≡◌, ◌+◌, ◌*◌, ◌<◌, ◌≤◌, ℕ, List, Some, length, slice_index}
use Rattle.cx_core.specs.declared.entry.Base.{Base}
use Rattle.cx_core.specs.QueueEvents.{cell_of}
use Rattle.cx_core.specs.WriteSet.{stored}
use Rattle.table_invariant.specs.declared.rule.Known.{Known}
use Rattle.table_invariant.specs.Fitting.{FitsKnown, Has, ReplayedTo, has_of}

-- what a seat has leads to some words at the ticket and to the second list at the next place, and the pairs of a set lead from the one
-- to the other
pub record LeadsFrom (step : List ℕ → List ℕ → List ℕ × List ℕ) (has : Has) (ticket : ℕ) (set first now : List ℕ) : Type 0 where
  pub before : List ℕ
  pub from : ReplayedTo step has first ticket before
  pub to : ReplayedTo step has first (ticket + 1) now
  pub leads : stored (slice_index set 0) set before ≡ now

-- whatever fits, the pairs of this set lead from the words at the ticket to those at the next place; there are at most 256, at words of a region
pub record TellsSet (lines : ℕ) (lawful : List ℕ → Type 0) (base : Base) (step : List ℕ → List ℕ → List ℕ × List ℕ) (known : Known) (ticket : ℕ) (set : List ℕ) : Type 0 where
  pub few : slice_index set 0 ≤ 256
  pub within : (m : ℕ) → m < slice_index set 0 → slice_index set (2 * m + 1) < length base.words
  pub leads : (first now : List ℕ) → FitsKnown lines lawful base step known first now → ∥ LeadsFrom step (has_of known) ticket set first now ∥₁

-- whatever fits tells that the set in a cell is a write set of the ticket that the cell has
abbrev pub TellsOffer : ℕ → (List ℕ → Type 0) → Base → (List ℕ → List ℕ → List ℕ × List ℕ) → Known → ℕ → Type 0
TellsOffer lines lawful base step known j = (ticket : ℕ) → (cell_of known.local j).ticket ≡ Some ticket → TellsSet lines lawful base step known ticket (cell_of known.local j).set
