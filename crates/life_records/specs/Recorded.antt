-- What a record of a life rests on, and what follows of its replies and of the base that was kept.
use Rattle.std.specs.Prelude.{◌≡◌, ◌+◌, ◌-◌, ◌<◌, ◌≤◌, ℕ, List, All, Contains, IfSome, Some, length, map, slice_get}
use Rattle.cx_core.specs.Base.{LawfulBase}
use Rattle.cx_core.specs.Crash.{IsKept}
use Rattle.cx_core.specs.Region.{object_part}
use Rattle.cx_core.specs.Shown.{shown}
use Rattle.cx_core.specs.State.{Instance, State}
use Rattle.cx_core.specs.declared.entry.Base.{Base}
use Rattle.cx_core.specs.declared.entry.Entry.{Entry}
use Rattle.cx_core.specs.declared.local.Local.{Local}
use Rattle.life_records.specs.Told.{IsTold}
use Rattle.life_records.specs.Works.{AreWorks}
use Rattle.life_records.specs.Replies.{HasOpValues, HasReplyValues}
use Rattle.life_records.specs.Limits.{IsLifeInLimits}
use Rattle.life_records.specs.Lives.{ClientAnswer, HasReply, IsLegalRead, answers_of, store_at}
use Rattle.life_records.specs.Scripts.{named_op}
use Rattle.life_records.specs.Records.{JournalLine, Life, LifeRecord, Meaning, StopLine}

-- The record of a life is told by a state of the service with this history, whose base stands for a store. Its lines are those of the
-- callers' lists, whichever stop lines these were made with: a stop line says later whether its entry was kept.
pub record IsRecorded {Op Reply Store : Type 0} (m : Meaning Op Reply Store) (instance : Instance) (s : State) (history : List Entry) (store : Store) (life : Life Op) (report : LifeRecord Reply) :
    Type 0 where
  pub locals : List Local
  pub seats : map shown s.locals ≡ locals
  pub stops : List StopLine
  pub works : AreWorks m.encoding life locals report.journal report.reads stops report.fulls
  pub is_told : IsTold m.encoding life instance.base.place history locals report
  pub stands : m.stands (object_part instance.base.words) store
  pub limits : IsLifeInLimits m.is_op 8 life
  pub op_values : HasOpValues m life
  pub values : HasReplyValues m report

-- each reply of the record is the one-thread store's at its place, and no answer to a client lies below what it was told before
pub record HasReplies {Op Reply Store : Type 0} (m : Meaning Op Reply Store) (place : ℕ) (store : Store) (life : Life Op) (report : LifeRecord Reply) : Type 0 where
  pub replies : (i : ℕ) (line : JournalLine Reply) → slice_get report.journal i ≡ Some line →
      IfSome line.reply (HasReply m (store_at m store life report.journal i) (named_op life line.client line.command))
  pub legal_reads : All (IsLegalRead m place store life report.journal) report.reads
  pub in_turn : (a b : ClientAnswer) → Contains (answers_of report.journal report.reads) a → Contains (answers_of report.journal report.reads) b →
      a.client ≡ b.client → a.command < b.command → a.next ≤ b.at

-- a base was kept of the state, and the record says how many entries that keeps, and how many items the next life begins with
pub record IsKeptIn {Op Reply Store : Type 0} (m : Meaning Op Reply Store) (instance : Instance) (s : State) (history : List Entry) (report : LifeRecord Reply) (next : Base) : Type 0 where
  pub image : IsKept instance history s next
  pub kept : report.kept ≡ next.place - instance.base.place
  pub items : (store : Store) → m.stands (object_part next.words) store → report.items ≡ m.items store

-- The base that was kept goes on after a prefix of the history that holds everything answered, with the store after it.
pub record GoesOn {Op Reply Store : Type 0} (m : Meaning Op Reply Store) (lines : ℕ) (is_lawful : List ℕ → Type 0) (place : ℕ) (store : Store) (life : Life Op) (report : LifeRecord Reply) (next : Base) : Type 0 where
  pub prefix : report.kept ≤ length report.journal
  pub answered : All (λ a. a.next ≤ place + report.kept) (answers_of report.journal report.reads)
  pub items : report.items ≡ m.items (store_at m store life report.journal report.kept)
  pub at_place : next.place ≡ place + report.kept
  pub lawful : LawfulBase lines is_lawful next
  pub stands : m.stands (object_part next.words) (store_at m store life report.journal report.kept)
