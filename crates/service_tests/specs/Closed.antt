-- What closed services left.
use Rattle.std.specs.Prelude.{◌≡◌, ℕ, List}
use Rattle.cx_base.specs.declared.object.Object.{Ghosts}
use Rattle.cx_base.specs.declared.tally.Tally.{Tally}
use Rattle.cx_base.specs.Tally.{IsTally, tally_reads, tally_step}
use Rattle.table_invariant.specs.Running.{Running, instance_at}
use Rattle.table_invariant.specs.Seats.{Seated}
use Rattle.cx_table.specs.declared.remains.Remains.{Remains}
use Rattle.cx_table.specs.Remains.{ClosingWitness}
use Rattle.recovery.specs.Kept.{IsOpened}

-- a service of the running sum was opened from a lawful base
abbrev pub IsOpenedTally : Running Tally → Type 0
IsOpenedTally = IsOpened (λ _. 64) (λ _. IsTally)

-- what a service of the running sum that was opened from a lawful base left when it was closed
pub record IsClosedTally (r : Remains) : Type 0 where
  pub table : Running Tally
  pub seats : List Seated
  pub opened : IsOpenedTally table
  pub leaves : ClosingWitness table (instance_at table (λ _. tally_step) (λ _. tally_reads)) seats r

-- what a service of any object of the given number of lines that was opened from a lawful base left when it was closed
pub record IsClosed {O : Type 0} (o : Ghosts O) (lines : ℕ) (r : Remains) : Type 0 where
  pub table : Running O
  pub seats : List Seated
  pub of : o.line_count table.object ≡ lines
  pub opened : IsOpened o.line_count o.lawful table
  pub leaves : ClosingWitness table (instance_at table o.step o.only_reads) seats r
