-- The reasons of refusal: those of all scripts, and each as a word.
use Rattle.std.specs.Prelude.{ℕ, List, codes}
use Rattle.script_text.specs.declared.lines.ScriptReason.{ScriptReason}
use Rattle.script_text.specs.declared.lines.ScriptReason.TheVariants as all
use Rattle.fifo_commands.specs.declared.reasons.FifoReason.{FifoReason}
use Rattle.fifo_commands.specs.declared.reasons.FifoReason.TheVariants as reasons

-- There are no cut lines, so the word `cut` is a client that there is not.
abbrev pub queue_script_reason : ScriptReason → FifoReason
queue_script_reason all.Utf8 = reasons.Utf8
queue_script_reason all.Header = reasons.Header
queue_script_reason all.Life = reasons.Life
queue_script_reason all.Lives = reasons.Lives
queue_script_reason all.Cut = reasons.Client
queue_script_reason all.Client = reasons.Client
queue_script_reason all.Commands = reasons.Commands

-- the word with which a refusal says its reason
abbrev pub queue_reason_text : FifoReason → List ℕ
queue_reason_text reasons.Utf8 = codes "utf8"
queue_reason_text reasons.Header = codes "header"
queue_reason_text reasons.Life = codes "life"
queue_reason_text reasons.Lives = codes "lives"
queue_reason_text reasons.Client = codes "client"
queue_reason_text reasons.Commands = codes "commands"
queue_reason_text reasons.Command = codes "command"
queue_reason_text reasons.Text = codes "text"
