-- What is wrong with a text that is no script.
use Rattle.std.specs.Prelude.{ℕ, List}
use Rattle.plain_text.specs.LineGrammar as lines
use Rattle.plain_text.specs.declared.reader.TextFault.{TextFault}
use Rattle.doc_text.specs.Grammar.{document_grammar, pool_grammar}
use Rattle.doc_text.specs.declared.script_parts.Reason.{Reason}

-- why a text is no script on documents: its first line at fault and the first reason that fits, or memory ran out
abbrev pub IsScriptFault : List ℕ → TextFault Reason → Type 0
IsScriptFault text fault = lines.IsFault document_grammar text fault

-- why a text is no script of a pool: its first line at fault and the first reason that fits, or memory ran out
abbrev pub IsPoolFault : List ℕ → TextFault Reason → Type 0
IsPoolFault text fault = lines.IsFault pool_grammar text fault
