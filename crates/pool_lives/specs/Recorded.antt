-- What a record of a life of clients that share callers rests on.
use Rattle.std.specs.Prelude.{◌≡◌, ◌+◌, ◌<◌, ◌≤◌, ℕ, List, [], All, Contains, Some, length, map, slice_get}
use Rattle.cx_core.specs.Region.{object_part}
use Rattle.cx_core.specs.Shown.{shown}
use Rattle.cx_core.specs.State.{Instance, State}
use Rattle.cx_core.specs.declared.entry.Entry.{Entry}
use Rattle.cx_core.specs.declared.local.Answer.{Answer as GivenAnswer}
use Rattle.cx_core.specs.declared.local.Linked.{Linked}
use Rattle.cx_core.specs.declared.local.Local.{Local}
use Rattle.cx_core.specs.declared.local.SeenRead.{SeenRead}
use Rattle.life_records.specs.Replies.{HasOpValues, HasReplyValues}
use Rattle.life_records.specs.Journal.{IsByTicket}
use Rattle.life_records.specs.Limits.{IsLifeInLimits}
use Rattle.life_records.specs.Lives.{ClientAnswer, answers_of}
use Rattle.life_records.specs.Records.{JournalLine, Life, LifeRecord, Meaning}
use Rattle.life_records.specs.Works.{AreWorks}

-- an entry that a client was answered is one of a caller: of the same ticket and operation
pub record IsEntryOfSomeCaller (locals : List Local) (x : Linked) : Type 0 where
  pub caller : ℕ
  pub local : Local
  pub of_caller : slice_get locals caller ≡ Some local
  pub entry : Linked
  pub there : Contains local.own entry
  pub ticket : entry.ticket ≡ x.ticket
  pub op : entry.entry.op ≡ x.entry.op

-- an answer that a client was given is one of the caller that has the entry at its ticket
pub record IsCallersAnswer (locals : List Local) (a : GivenAnswer) : Type 0 where
  pub caller : ℕ
  pub local : Local
  pub of_caller : slice_get locals caller ≡ Some local
  pub there : Contains local.answered a
  pub entry : Linked
  pub linked : Contains local.own entry
  pub at : entry.ticket ≡ a.ticket

-- a read that a client was answered is one of a caller, whatever that was answered before
pub record IsReadOfSomeCaller (locals : List Local) (x : SeenRead) : Type 0 where
  pub caller : ℕ
  pub local : Local
  pub of_caller : slice_get locals caller ≡ Some local
  pub read : SeenRead
  pub there : Contains local.seen_reads read
  pub place : read.place ≡ x.place
  pub op : read.op ≡ x.op
  pub reply : read.reply ≡ x.reply

-- What a client was answered, as the lists of one caller, is of callers of the service.
pub record AreOfCallers (locals : List Local) (client : Local) : Type 0 where
  pub entries : All (IsEntryOfSomeCaller locals) client.own
  pub answers : All (IsCallersAnswer locals) client.answered
  pub reads : All (IsReadOfSomeCaller locals) client.seen_reads

-- no answer to a client lies below what the client was told before
abbrev pub AreAnswersInTurn : List ClientAnswer → Type 0
AreAnswersInTurn answers = (a b : ClientAnswer) → Contains answers a → Contains answers b → a.client ≡ b.client → a.command < b.command → a.next ≤ b.at

-- each ticket of a history of this many entries has a line
abbrev pub HaveTickets : {Reply : Type 0} → ℕ → ℕ → List (JournalLine Reply) → Type 0
HaveTickets {Reply} place count entries = (i : ℕ) → i < count → (line : JournalLine Reply) × Contains entries line × (line.ticket ≡ place + i)

-- The record of a life is told by a state of the service with this history, whose base stands for a store. For each client there are the lists that a
-- caller of its own would have; its lines are those of these lists, and what is in them is of callers of the service.
pub record IsPoolRecorded {Op Reply Store : Type 0} (m : Meaning Op Reply Store) (instance : Instance) (s : State) (history : List Entry) (store : Store) (life : Life Op)
    (report : LifeRecord Reply) : Type 0 where
  pub locals : List Local
  pub seats : map shown s.locals ≡ locals
  pub clients : List Local
  pub count : length clients ≡ life.clients
  pub entries : List (JournalLine Reply)
  pub works : AreWorks m.encoding life clients entries report.reads [] []
  pub sorted : IsByTicket entries report.journal
  pub long : length entries ≡ length history
  pub tickets : HaveTickets instance.base.place (length history) entries
  pub calls : (client : ℕ) (l : Local) → slice_get clients client ≡ Some l → AreOfCallers locals l
  pub in_turn : AreAnswersInTurn (answers_of entries report.reads)
  pub clients_are : report.clients ≡ life.clients
  pub choice : report.choice ≡ life.choice
  pub from : report.from ≡ instance.base.place
  pub stops : report.stops ≡ []
  pub fulls : report.fulls ≡ []
  pub stands : m.stands (object_part instance.base.words) store
  pub limits : IsLifeInLimits m.is_op 64 life
  pub op_values : HasOpValues m life
  pub values : HasReplyValues m report
