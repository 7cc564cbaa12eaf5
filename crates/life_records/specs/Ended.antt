-- How clients ended in a life, as far as it speaks of commands alone, and a record whose stop lines got their kept flags.
use Rattle.std.specs.Prelude.{◌≡◌, ◌↔◌, ◌+◌, ◌<◌, ℕ, true, List, All, AllPairs, slice_get, Some}
use Rattle.std.specs.List.{AllZip}
use Rattle.life_records.specs.Records.{JournalLine, Life, LifeRecord, StopLine}
use Rattle.life_records.specs.Lives.{HasEnded, Interleaves, IsFullBefore, IsKeptStop, IsLegalFull, IsLegalStop, IsReadBefore, IsStopBefore}

-- What a legal life says of its clients' commands: one history, that interleaves them; lines in their order; each command answered
-- once, up to its client's end; and clients that were stopped at their limits. Replies and places are not looked at, nor which
-- stop lines are kept.
pub record IsEnded {Op Reply : Type 0} (life : Life Op) (report : LifeRecord Reply) : Type 0 where
  pub tickets : (i : ℕ) (line : JournalLine Reply) → slice_get report.journal i ≡ Some line → line.ticket ≡ report.from + i
  pub interleaved : Interleaves life report.journal
  pub reads_in_order : AllPairs IsReadBefore report.reads
  pub stops_in_order : AllPairs IsStopBefore report.stops
  pub fulls_in_order : AllPairs IsFullBefore report.fulls
  pub ended : (client : ℕ) → client < life.clients → HasEnded life report client
  pub stops : All (IsLegalStop life) report.stops
  pub fulls : All (IsLegalFull life report) report.fulls

-- a stop as the other one but for its kept flag
pub record IsSameStop (a b : StopLine) : Type 0 where
  pub client : b.client ≡ a.client
  pub command : b.command ≡ a.command
  pub steps : b.steps ≡ a.steps

-- a record as the other one but for the kept flags, the numbers of entries kept and of items, and the choice
pub record IsSameButKept {Reply : Type 0} (report flagged : LifeRecord Reply) : Type 0 where
  pub clients : flagged.clients ≡ report.clients
  pub from : flagged.from ≡ report.from
  pub journal : flagged.journal ≡ report.journal
  pub reads : flagged.reads ≡ report.reads
  pub stops : AllZip IsSameStop report.stops flagged.stops
  pub fulls : flagged.fulls ≡ report.fulls

-- the kept flag says whether the stopped command has an entry that is kept
abbrev pub IsFlagged : {Reply : Type 0} → ℕ → ℕ → List (JournalLine Reply) → StopLine → Type 0
IsFlagged place kept journal line = (line.kept ≡ true) ↔ IsKeptStop place kept journal line

-- stops as the others, each with its kept flag
pub record AreFlagged {Reply : Type 0} (place kept : ℕ) (journal : List (JournalLine Reply)) (before after : List StopLine) : Type 0 where
  pub same : AllZip IsSameStop before after
  pub flags : All (IsFlagged place kept journal) after
