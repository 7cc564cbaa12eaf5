-- The report of a script's lives as text.
use Rattle.std.specs.Prelude.{◌+◌, ℕ, List, [], ◌∷◌, ◌++◌, length, flat_map, codes, Option, if◌then◌else◌}
use Rattle.std.specs.Option.{option_map_or}
use Rattle.std.specs.Fmt.{decimal}
use Rattle.life_records.specs.Scripts.{named_op}
use Rattle.life_records.specs.Records.{FullLine, JournalLine, Life, LifeRecord, ReadLine, Script, StopLine}

-- how a report is worded: commands without their client, replies, and what a store has, as ` documents `
pub record Wording (Op Reply : Type 0) : Type 0 where
  pub command_text : Op → List ℕ
  pub reply_text : Reply → List ℕ
  pub items : List ℕ

-- the text of a client's command, as client and number: `K.J`
abbrev pub name_text : ℕ → ℕ → List ℕ
name_text client command = decimal client ++ codes "." ++ decimal command

-- `stopped K.J at S kept`, or `lost`
abbrev pub stop_text : StopLine → List ℕ
stop_text line =
    codes "stopped " ++ name_text line.client line.command ++ codes " at " ++ decimal line.steps ++ (if line.kept then codes " kept\n" else codes " lost\n")

-- `full K.J holder H need M ticket T`
abbrev pub full_text : FullLine → List ℕ
full_text line =
    codes "full " ++ name_text line.client line.command ++ codes " holder " ++ decimal line.note.holder ++ codes " need " ++ decimal line.note.need
    ++ codes " ticket " ++ decimal line.note.ticket ++ codes "\n"

-- `life I clients N from P`
abbrev pub life_text : ℕ → ℕ → ℕ → List ℕ
life_text number clients from =
    codes "life " ++ decimal number ++ codes " clients " ++ decimal clients ++ codes " from " ++ decimal from ++ codes "\n"

-- `power C kept E of F documents D`
abbrev pub power_text : ℕ → ℕ → ℕ → List ℕ → ℕ → List ℕ
power_text choice kept entries items count =
    codes "power " ++ decimal choice ++ codes " kept " ++ decimal kept ++ codes " of " ++ decimal entries
    ++ items ++ decimal count ++ codes "\n"

module _ {Op Reply : Type 0} where
  -- a command and its reply, to the end of the line: `COMMAND = REPLY`
  abbrev pub exchange_text : Wording Op Reply → Option Op → List ℕ → List ℕ
  exchange_text w op reply = option_map_or w.command_text op [] ++ codes " = " ++ reply ++ codes "\n"

  -- the reply, or that the client was not answered
  abbrev pub answer_text : Wording Op Reply → Option Reply → List ℕ
  answer_text w reply = option_map_or w.reply_text reply (codes "unanswered")

  -- `T K.J COMMAND = REPLY`
  abbrev pub journal_text : Wording Op Reply → Life Op → JournalLine Reply → List ℕ
  journal_text w life line =
      decimal line.ticket ++ codes " " ++ name_text line.client line.command ++ codes " "
      ++ exchange_text w (named_op life line.client line.command) (answer_text w line.reply)

  -- `read K.J at P COMMAND = REPLY`
  abbrev pub read_text : Wording Op Reply → Life Op → ReadLine Reply → List ℕ
  read_text w life line =
      codes "read " ++ name_text line.client line.command ++ codes " at " ++ decimal line.place ++ codes " "
      ++ exchange_text w (named_op life line.client line.command) (w.reply_text line.reply)

  -- the lines of one life
  abbrev pub record_text : Wording Op Reply → ℕ → Life Op → LifeRecord Reply → List ℕ
  record_text w number life report =
      life_text number report.clients report.from ++ flat_map (journal_text w life) report.journal ++ flat_map (read_text w life) report.reads
      ++ flat_map stop_text report.stops ++ flat_map full_text report.fulls ++ power_text report.choice report.kept (length report.journal) w.items report.items

  -- the lines of lives that are counted from a number on
  abbrev pub records_text : Wording Op Reply → ℕ → List (Life Op) → List (LifeRecord Reply) → List ℕ
  records_text w number [] records = []
  records_text w number (life ∷ lives) [] = []
  records_text w number (life ∷ lives) (report ∷ records) = record_text w number life report ++ records_text w (number + 1) lives records

  -- the report of a script
  abbrev pub report_of : Wording Op Reply → Script Op → List (LifeRecord Reply) → List ℕ
  report_of w script records = records_text w 0 script.lives records
