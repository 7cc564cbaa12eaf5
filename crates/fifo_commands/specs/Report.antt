-- The report of a script's lives as text, with commands on a queue and their replies.
use Rattle.std.specs.Prelude.{ℕ, List, ◌++◌, codes, flat_map, length, map}
use Rattle.std.specs.Fmt.{decimal}
use Rattle.fifo_commands.specs.Leaving.{with_no_stops}
use Rattle.fifo_commands.specs.declared.record.FifoRecord.{FifoRecord}
use Rattle.fifo_commands.specs.declared.record.FifoScript.{FifoScript}
use Rattle.fifo_object.specs.declared.operations.FifoOp.{FifoOp}
use Rattle.fifo_object.specs.declared.operations.FifoReply.{FifoReply}
use Rattle.fifo_object.specs.declared.operations.FifoReply.TheVariants.{Pushed, Full, Item, Empty, Length}
use Rattle.life_records.specs.Lives.{NameCommands}
use Rattle.life_records.specs.Records.{Life}
use Rattle.script_text.specs.Report as reports
use Rattle.script_text.specs.Report.{Wording, journal_text, life_text, power_text, read_text}
use Rattle.fifo_commands.specs.Grammar.{queue_command_text}
use Rattle.fifo_commands.specs.Uncut.{uncut_script}

-- a reply of the queue, as a report has it
abbrev pub queue_reply_text : FifoReply → List ℕ
queue_reply_text Pushed = codes "pushed"
queue_reply_text Full = codes "full"
queue_reply_text (Item text) = codes "item " ++ text
queue_reply_text Empty = codes "empty"
queue_reply_text (Length number) = codes "len " ++ decimal number

-- the words of a report on a queue: its commands, its replies, and what its items are called
abbrev pub queue_wording : Wording FifoOp FifoReply
queue_wording = record { command_text = queue_command_text; reply_text = queue_reply_text; items = codes " items " }

-- the lines of one life, in which no client is stopped or runs out of free cells
abbrev pub lines_text : ℕ → Life FifoOp → FifoRecord → List ℕ
lines_text number life report =
    life_text number report.clients report.from ++ flat_map (journal_text queue_wording life) report.journal ++ flat_map (read_text queue_wording life) report.reads
    ++ power_text report.choice report.kept (length report.journal) queue_wording.items report.items

-- there is one record for each life, and its lines name commands of it
abbrev pub NameFifoCommands : FifoScript → List FifoRecord → Type 0
NameFifoCommands script records = NameCommands (uncut_script script).lives (map with_no_stops records)

-- the report of a script, in whose lives no client is stopped or runs out of free cells
abbrev pub queue_report_of : FifoScript → List FifoRecord → List ℕ
queue_report_of script records = reports.report_of queue_wording (uncut_script script) (map with_no_stops records)
