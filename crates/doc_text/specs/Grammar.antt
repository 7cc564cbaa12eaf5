-- The commands of documents, and what a script of them is.
use Rattle.std.specs.Prelude.{◌≡◌, ◌<◌, ◌^◌, ℕ, List, [], ◌∷◌, ◌++◌, codes, true, false}
use Rattle.std.specs.Fmt.{decimal, signed_decimal}
use Rattle.cx_base.specs.Store.{IsKey}
use Rattle.plain_text.specs.LineGrammar.{IsTextOf, LineGrammar}
use Rattle.plain_text.specs.Number.{is_i64}
use Rattle.doc_model.specs.declared.operations.Op.{Op}
use Rattle.doc_model.specs.declared.operations.Op.TheVariants.{Put, Del, Add, Get, Next, Count, PutIf, Rev}
use Rattle.life_records.specs.declared.script.Script.{Script}
use Rattle.script_text.specs.Grammar.{Commands}
use Rattle.script_text.specs.ScriptGrammar.{script_grammar}
use Rattle.doc_text.specs.Document.{IsJsonOf}
use Rattle.script_text.specs.declared.lines.ScriptLimits.{ScriptLimits}
use Rattle.script_text.specs.declared.lines.ScriptReason.{ScriptReason}
use Rattle.doc_text.specs.Reasons.{pool_reason, script_reason}
use Rattle.doc_text.specs.CommandReasons.{command_rows}
use Rattle.doc_text.specs.declared.script_parts.Reason.{Reason}

-- a command as text, without its client
abbrev pub command_text : Op → List ℕ
command_text (Put key document) = codes "put " ++ key ++ codes " " ++ document
command_text (Del key) = codes "del " ++ key
command_text (Add key amount) = codes "add " ++ key ++ codes " " ++ signed_decimal amount
command_text (Get key) = codes "get " ++ key
command_text (Next []) = codes "next"
command_text (Next (b ∷ above)) = codes "next " ++ (b ∷ above)
command_text Count = codes "count"
command_text (PutIf key revision document) = codes "putif " ++ key ++ codes " " ++ decimal revision ++ codes " " ++ document
command_text (Rev key) = codes "rev " ++ key

-- a client asks for an operation by this text
abbrev pub Asks : Op → List ℕ → Type 0
Asks (Put key document) text = (json : List ℕ) × (text ≡ codes "put " ++ key ++ codes " " ++ json) × IsKey key × IsJsonOf json document
Asks (Del key) text = (text ≡ command_text (Del key)) × IsKey key
Asks (Add key amount) text = (text ≡ command_text (Add key amount)) × IsKey key × (is_i64 amount ≡ true)
Asks (Get key) text = (text ≡ command_text (Get key)) × IsKey key
Asks (Next []) text = text ≡ command_text (Next [])
Asks (Next (b ∷ above)) text = (text ≡ command_text (Next (b ∷ above))) × IsKey (b ∷ above)
Asks Count text = text ≡ command_text Count
Asks (PutIf key revision document) text =
    (json : List ℕ) × (text ≡ codes "putif " ++ key ++ codes " " ++ decimal revision ++ codes " " ++ json) × IsKey key × (revision < 2 ^ 64) × IsJsonOf json document
Asks (Rev key) text = (text ≡ command_text (Rev key)) × IsKey key

-- the commands on documents, in scripts with these limits; `reason` gives the reasons of the refusals that any script may have
abbrev pub commands_in : ScriptLimits → (ScriptReason → Reason) → Commands Op Reason
commands_in limits reason = record { limits = limits; Asks = Asks; reason = reason; rows = command_rows }

-- A script has up to 1,000 lives of 1 to 8 clients, which may have cut lines.
abbrev pub document_commands : Commands Op Reason
document_commands = commands_in (record { clients = 8; lives = 1000; cuts = true }) script_reason

-- A script of a pool has one life at the most, of 1 to 64 clients, without cut lines.
abbrev pub pool_commands : Commands Op Reason
pool_commands = commands_in (record { clients = 64; lives = 1; cuts = false }) pool_reason

-- scripts of documents, read line by line
abbrev pub document_grammar : LineGrammar (Script Op) Reason
document_grammar = script_grammar document_commands

-- the text is that of a script
abbrev pub IsScript : List ℕ → Script Op → Type 0
IsScript text script = IsTextOf document_grammar text script

-- scripts of a pool, read line by line
abbrev pub pool_grammar : LineGrammar (Script Op) Reason
pool_grammar = script_grammar pool_commands

-- the text is that of a script of a pool
abbrev pub IsPoolScript : List ℕ → Script Op → Type 0
IsPoolScript text script = IsTextOf pool_grammar text script
