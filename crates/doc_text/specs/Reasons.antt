-- The reasons of refusal: those of all scripts, and each as a word.
use Rattle.std.specs.Prelude.{ℕ, List, codes}
use Rattle.script_text.specs.declared.lines.ScriptReason.{ScriptReason}
use Rattle.script_text.specs.declared.lines.ScriptReason.TheVariants as all
use Rattle.doc_text.specs.declared.script_parts.Reason.{Reason}
use Rattle.doc_text.specs.declared.script_parts.Reason.TheVariants as reasons

-- the reason of a refusal that any script may have
abbrev pub script_reason : ScriptReason → Reason
script_reason all.Utf8 = reasons.Utf8
script_reason all.Header = reasons.Header
script_reason all.Life = reasons.Life
script_reason all.Lives = reasons.Lives
script_reason all.Cut = reasons.Cut
script_reason all.Client = reasons.Client
script_reason all.Commands = reasons.Commands

-- a pool has one life, so that no other may begin
abbrev pub pool_reason : ScriptReason → Reason
pool_reason all.Lives = reasons.Life
pool_reason reason = script_reason reason

-- a reason as a word
abbrev pub reason_text : Reason → List ℕ
reason_text reasons.Utf8 = codes "utf8"
reason_text reasons.Header = codes "header"
reason_text reasons.Life = codes "life"
reason_text reasons.Lives = codes "lives"
reason_text reasons.Cut = codes "cut"
reason_text reasons.Client = codes "client"
reason_text reasons.Commands = codes "commands"
reason_text reasons.Command = codes "command"
reason_text reasons.Key = codes "key"
reason_text reasons.Number = codes "number"
reason_text reasons.Json = codes "json"
reason_text reasons.Fraction = codes "fraction"
reason_text reasons.Long = codes "long"
