-- What a worker keeps while it makes its client's commands one after another.
use Rattle.std.specs.Prelude.{◌≡◌, ◌+◌, ◌≤◌, ℕ, List, length, All, AllPairs, IsSome, None}
use Rattle.std.specs.List.{AllZip}
use Rattle.cx_core.specs.declared.local.Answer.{Answer}
use Rattle.cx_core.specs.declared.local.Linked.{Linked}
use Rattle.cx_core.specs.declared.local.Local.{Local}
use Rattle.cx_core.specs.declared.local.SeenRead.{SeenRead}
use Rattle.table_invariant.specs.Running.{Running}
use Rattle.cx_service.specs.Callers.{IsCallerOf}
use Rattle.life_records.specs.Works.{IsEntryBefore, IsLineOf, IsReadLine, IsSeenBefore, StandsBetween, client_lines}
use Rattle.life_records.specs.Scripts.{limit_in}
use Rattle.life_records.specs.Records.{JournalLine, Life, Meaning, ReadLine}
use Rattle.cx_lives.specs.declared.progress.Progress.{Progress}

-- the line of an entry that was answered
abbrev pub IsAnsweredLine : {Op Reply Store : Type 0} → (m : Meaning Op Reply Store) → Life Op → ℕ → List Answer → Linked → JournalLine Reply → Type 0
IsAnsweredLine m life client answered x line = IsLineOf m.encoding life client answered None x line × IsSome line.reply

-- an entry of one of the first commands, up to this number, with a reply
abbrev pub IsAnsweredEntry : {Reply : Type 0} → ℕ → JournalLine Reply → Type 0
IsAnsweredEntry number line = (1 ≤ line.command) × (line.command ≤ number) × IsSome line.reply

-- The client was answered its first commands, this many of them: the lines stand for the caller's entries and reads one by one, and each of
-- those commands has one.
pub record HasServed {Op Reply Store : Type 0} (m : Meaning Op Reply Store) (life : Life Op) (client number : ℕ) (l : Local) (entries : List (JournalLine Reply)) (reads : List (ReadLine Reply)) : Type 0 where
  pub by : l.number ≡ client
  pub limit : l.limit ≡ limit_in client life.cuts
  pub entry_lines : AllZip (IsAnsweredLine m life client l.answered) l.own entries
  pub read_lines : AllZip (IsReadLine m.encoding life client) l.seen_reads reads
  pub between : AllZip (StandsBetween entries) l.seen_reads reads
  pub before : All (λ (x : SeenRead). x.before ≤ length entries) l.seen_reads
  pub entries_in_turn : AllPairs IsEntryBefore entries
  pub reads_in_turn : AllPairs IsSeenBefore reads
  pub once : (command : ℕ) → 1 ≤ command → command ≤ number → client_lines command entries reads ≡ 1
  pub entries_done : All (IsAnsweredEntry number) entries
  pub reads_done : All (λ (line : ReadLine Reply). (1 ≤ line.command) × (line.command ≤ number)) reads
  pub count : length entries + length reads ≡ number

-- what a worker has served so far, while its caller is in no call
pub record IsServed {O Op Reply Store : Type 0} (m : Meaning Op Reply Store) (life : Life Op) (r : Running O) (client number : ℕ) (progress : Progress Reply) : Type 0 where
  pub caller : IsCallerOf r progress.caller
  pub lists : HasServed m life client number progress.caller.known.local progress.lines.entries.items progress.lines.reads.items
