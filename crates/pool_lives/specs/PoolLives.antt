-- A life whose clients share the callers of a service.
use Rattle.std.specs.Prelude.{◌≡◌, ◌+◌, ◌-◌, ◌%◌, ℕ, Bool, List, [], All, Contains, IfSome, Some, length, slice_get, slice_index}
use Rattle.cx_base.specs.Codes.{root_place_of}
use Rattle.cx_core.specs.declared.entry.Entry.{Entry}
use Rattle.cx_core.specs.declared.local.Local.{Local}
use Rattle.cx_core.specs.declared.local.SeenRead.{SeenRead}
use Rattle.cx_lives.specs.Lives.{IsLinearized}
use Rattle.table_invariant.specs.Ending.{Ending}
use Rattle.life_records.specs.Lives.{IsLegalLife}
use Rattle.life_records.specs.Records.{Encoding, JournalLine, Life, LifeRecord, Meaning, ReadLine}
use Rattle.life_records.specs.Works.{HasCommandWords, IsReadLine}

-- A record of a life whose clients share callers, from place 0 and the opening store on: one of a legal life in which nobody was stopped and
-- nobody ended Full, so that each command of each client is answered once.
pub record IsPoolLife {Op Reply Store : Type 0} (m : Meaning Op Reply Store) (life : Life Op) (report : LifeRecord Reply) : Type 0 where
  pub legal : IsLegalLife m 0 m.opening life report
  pub stops : report.stops ≡ []
  pub fulls : report.fulls ≡ []

-- the line of an entry: its command has the entry's operation, and its reply is the one that the entry's caller was answered at its ticket
pub record IsPoolEntry {Op Reply : Type 0} (encoding : Encoding Op Reply) (life : Life Op) (locals : List Local) (entry : Entry) (line : JournalLine Reply) : Type 0 where
  pub words : HasCommandWords encoding life line.client line.command entry.op
  pub local : Local
  pub of_caller : slice_get locals entry.caller ≡ Some local
  pub reply : IfSome line.reply (λ reply. Contains local.answered (record { ticket = line.ticket; reply = encoding.reply_words reply }))

-- the line of a read: some caller saw it
pub record IsPoolRead {Op Reply : Type 0} (encoding : Encoding Op Reply) (life : Life Op) (locals : List Local) (line : ReadLine Reply) : Type 0 where
  pub caller : ℕ
  pub local : Local
  pub of_caller : slice_get locals caller ≡ Some local
  pub read : SeenRead
  pub there : Contains local.seen_reads read
  pub is : IsReadLine encoding life line.client read line

-- What a record tells of a history that began at a place, and of its callers' local states: there is one line for each entry, at its ticket, and each read
-- is one of a caller.
pub record AreToldIn {Op Reply : Type 0} (encoding : Encoding Op Reply) (life : Life Op) (place : ℕ) (history : List Entry) (locals : List Local) (report : LifeRecord Reply) : Type 0 where
  pub long : length report.journal ≡ length history
  pub entries : (i : ℕ) (line : JournalLine Reply) (entry : Entry) → slice_get report.journal i ≡ Some line → slice_get history i ≡ Some entry →
      (line.ticket ≡ place + i) × IsPoolEntry encoding life locals entry line
  pub reads : All (IsPoolRead encoding life locals) report.reads

-- A record is witnessed by the execution log of a service of this many callers, whose history is a linearization of what these did. The life's choice takes the
-- code whose place ends what was kept, from the codes with which the service ended.
pub record IsPoolTold {Op Reply Store : Type 0} (m : Meaning Op Reply Store) (lines : ℕ) (is_lawful : List ℕ → Type 0) (step : List ℕ → List ℕ → List ℕ × List ℕ) (reads : List ℕ → Bool)
    (life : Life Op) (seats : ℕ) (trail : Ending) (report : LifeRecord Reply) : Type 0 where
  pub callers : length trail.locals ≡ seats
  pub is_told : AreToldIn m.encoding life trail.base.place trail.history trail.locals report
  pub order : IsLinearized m lines is_lawful step reads seats trail
  pub kept : report.kept ≡ root_place_of seats (slice_index trail.chain (life.choice % length trail.chain)) - report.from
