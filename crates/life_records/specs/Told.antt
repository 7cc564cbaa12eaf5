-- A record is told by what a closed table leaves: by the history of its entries and the local states that its callers ended with.
use Rattle.std.specs.Prelude.{◌≡◌, ◌+◌, ◌<◌, ℕ, true, List, length, filter, slice_get, All, Some}
use Rattle.cx_core.specs.declared.entry.Entry.{Entry}
use Rattle.cx_core.specs.declared.local.Local.{Local}
use Rattle.life_records.specs.Records.{Encoding, FullLine, JournalLine, Life, LifeRecord, StopLine}
use Rattle.life_records.specs.Lives.{is_stopped}
use Rattle.life_records.specs.Scripts.{limit_in}
use Rattle.life_records.specs.Works.{AreReadLines, HoldsCellsFrom, IsLineOf, IsUnderWay, by_read, stop_of}

-- a client's stop line: its caller's steps equal its limit, and a further step of its command is to be made
pub record IsToldStop (locals : List Local) (line : StopLine) : Type 0 where
  pub local : Local
  pub of_client : slice_get locals line.client ≡ Some local
  pub steps : local.steps ≡ local.limit
  pub under_way : IsUnderWay local line.command

-- a client's full line: its caller last scanned this need of this holder, which was stopped, and the least ticket of its 16 cells is
-- this one
pub record IsToldFull (locals : List Local) (stops : List StopLine) (line : FullLine) : Type 0 where
  pub local : Local
  pub of_client : slice_get locals line.client ≡ Some local
  pub need : local.seen_need ≡ Some (record { need = line.note.need; caller = line.note.holder })
  pub cells : HoldsCellsFrom local line.note.ticket
  pub stopped : is_stopped line.note.holder stops ≡ true

-- The record of a life is told by a history that began at a place, and by these local states.
pub record IsTold {Op Reply : Type 0} (encoding : Encoding Op Reply) (life : Life Op) (place : ℕ) (history : List Entry) (locals : List Local) (report : LifeRecord Reply) : Type 0 where
  -- one caller for each client, whose limit is the client's cut
  pub clients : report.clients ≡ length locals
  pub callers : length locals ≡ life.clients
  pub limits : (client : ℕ) (l : Local) → slice_get locals client ≡ Some l → l.limit ≡ limit_in client life.cuts
  pub from : report.from ≡ place
  -- each entry of the history is of one of these callers
  pub of_callers : (i : ℕ) (entry : Entry) → slice_get history i ≡ Some entry → entry.caller < length locals
  -- one line for each entry of the history, at its ticket: of its caller, with the words of the line's command, and with the reply
  -- that was answered there, or none where the command was stopped
  pub long : length report.journal ≡ length history
  pub tickets : (i : ℕ) (line : JournalLine Reply) → slice_get report.journal i ≡ Some line → line.ticket ≡ place + i
  pub entries : (i : ℕ) (line : JournalLine Reply) (entry : Entry) (l : Local) → slice_get report.journal i ≡ Some line → slice_get history i ≡ Some entry → slice_get locals entry.caller ≡ Some l →
      IsLineOf encoding life entry.caller l.answered (stop_of entry.caller report.stops) (record { ticket = place + i; entry = entry }) line
  -- the reads are those that the callers saw, but for one of a command that was stopped
  pub reads : (client : ℕ) (l : Local) → slice_get locals client ≡ Some l → AreReadLines encoding life client (stop_of client report.stops) l.seen_reads (filter (by_read client) report.reads)
  pub stops : All (IsToldStop locals) report.stops
  pub fulls : All (IsToldFull locals report.stops) report.fulls
