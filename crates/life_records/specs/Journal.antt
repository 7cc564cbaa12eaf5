-- The journal of a life: the lines of all clients by ticket.
use Rattle.std.specs.Prelude.{◌≡◌, ℕ, List, length, IsPermutation}
use Rattle.std.specs.List.Sorted.{IsNonDecreasingBy}
use Rattle.cx_core.specs.declared.local.Local.{Local}
use Rattle.life_records.specs.Records.{FullLine, JournalLine, LifeRecord, ReadLine, StopLine}

-- the journal has the lines of the entries, ordered by ticket
pub record IsByTicket {Reply : Type 0} (entries journal : List (JournalLine Reply)) : Type 0 where
  pub moved : IsPermutation entries journal
  pub up : IsNonDecreasingBy (λ (line : JournalLine Reply). line.ticket) journal

-- the record of a life that began at a place, with these lines of its clients
pub record IsRecordOf {Reply : Type 0} (place : ℕ) (locals : List Local) (journal : List (JournalLine Reply)) (reads : List (ReadLine Reply)) (stops : List StopLine)
    (fulls : List FullLine) (report : LifeRecord Reply) : Type 0 where
  pub clients : report.clients ≡ length locals
  pub from : report.from ≡ place
  pub journal_is : report.journal ≡ journal
  pub reads_are : report.reads ≡ reads
  pub stops_are : report.stops ≡ stops
  pub fulls_are : report.fulls ≡ fulls
