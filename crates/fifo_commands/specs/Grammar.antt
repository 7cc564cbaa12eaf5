-- The commands of a queue, and what a script of them is.
use Rattle.std.specs.Prelude.{◌≡◌, ℕ, List, ◌++◌, codes, false}
use Rattle.plain_text.specs.LineGrammar.{IsTextOf, LineGrammar}
use Rattle.plain_text.specs.LineGrammar as lines
use Rattle.plain_text.specs.declared.reader.TextFault.{TextFault}
use Rattle.fifo_commands.specs.declared.record.FifoScript.{FifoScript}
use Rattle.fifo_object.specs.Queue.{IsOp}
use Rattle.fifo_object.specs.declared.operations.FifoOp.{FifoOp}
use Rattle.fifo_object.specs.declared.operations.FifoOp.TheVariants.{Push, Pop, Peek, Len}
use Rattle.life_records.specs.Records.{Script}
use Rattle.script_text.specs.Grammar.{Commands}
use Rattle.script_text.specs.ScriptGrammar.{script_grammar}
use Rattle.fifo_commands.specs.CommandReasons.{queue_command_rows}
use Rattle.fifo_commands.specs.Reasons.{queue_script_reason}
use Rattle.fifo_commands.specs.Uncut.{uncut_script}
use Rattle.fifo_commands.specs.declared.reasons.FifoReason.{FifoReason}

-- a command as text, without its client
abbrev pub queue_command_text : FifoOp → List ℕ
queue_command_text (Push text) = codes "push " ++ text
queue_command_text Pop = codes "pop"
queue_command_text Peek = codes "peek"
queue_command_text Len = codes "len"

-- a client asks for an operation by this text
abbrev pub AsksQueue : FifoOp → List ℕ → Type 0
AsksQueue op text = (text ≡ queue_command_text op) × IsOp op

-- The commands of a queue. A script has up to 1,000 lives of 1 to 8 clients, without cut lines.
abbrev pub queue_commands : Commands FifoOp FifoReason
queue_commands = record { limits = record { clients = 8; lives = 1000; cuts = false }; Asks = AsksQueue; reason = queue_script_reason; rows = queue_command_rows }

-- scripts of a queue, read line by line
abbrev pub queue_grammar : LineGrammar (Script FifoOp) FifoReason
queue_grammar = script_grammar queue_commands

-- the text is that of a script
abbrev pub IsFifoScript : List ℕ → FifoScript → Type 0
IsFifoScript text script = IsTextOf queue_grammar text (uncut_script script)

-- why a text is no script of a queue: its first line at fault and the first reason that fits, or memory ran out
abbrev pub IsQueueScriptFault : List ℕ → TextFault FifoReason → Type 0
IsQueueScriptFault text fault = lines.IsFault queue_grammar text fault
