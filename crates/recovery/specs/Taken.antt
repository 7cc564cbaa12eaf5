-- What an image is that a caller took of a running table, once the table is closed.
use Rattle.std.specs.Prelude.{◌≡◌, ◌+◌, ◌-◌, ◌<◌, ◌≤◌, ℕ, List, drop, length}
use Rattle.cx_core.specs.declared.entry.Entry.{Entry}
use Rattle.cx_core.specs.Base.{LawfulBase}
use Rattle.cx_core.specs.History.{full_image}
use Rattle.cx_core.specs.Region.{place_of}
use Rattle.table_invariant.specs.Fitting.{base_of}
use Rattle.table_invariant.specs.Running.{Running}
use Rattle.recovery.specs.Outcomes.{TellsOutcome}
use Rattle.recovery.specs.Results.{HasResultsFrom}

-- Words are the full image after their place of the history that a table was closed with: a lawful base, which tells of each caller its last entry
-- below the place and the reply to it. Each result in it is the one that the table was opened with, or keeps a reply of the object's step. The entries
-- from the place on lead from it to what the whole history leads to.
pub record IsCheckpoint {O : Type 0} (line_count : O → ℕ) (lawful : O → List ℕ → Type 0) (step : O → List ℕ → List ℕ → List ℕ × List ℕ) (table : Running O) (history : List Entry) (words : List ℕ) : Type 0 where
  pub from : table.base.place ≤ place_of words
  pub to : place_of words ≤ table.base.place + length history
  pub are : words ≡ full_image (step table.object) table.base history (place_of words)
  pub base : LawfulBase (line_count table.object) (lawful table.object) (base_of words)
  pub outcomes : (caller : ℕ) → caller < 8 → TellsOutcome (step table.object) table.base history (base_of words) caller
  pub results : HasResultsFrom (lawful table.object) (step table.object) table.base.words words
  pub behind : (place : ℕ) → place_of words ≤ place → full_image (step table.object) (base_of words) (drop (place_of words - table.base.place) history) place ≡ full_image (step table.object) table.base history place
