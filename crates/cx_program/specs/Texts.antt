-- The texts that refuse words and inputs.
use Rattle.std.specs.Prelude.{◌≡◌, ℕ, List, ◌++◌, codes}
use Rattle.std.specs.Fmt.{decimal}
use Rattle.plain_text.specs.LineGrammar.{IsFirstFault, IsReasonAt, LineGrammar}
use Rattle.plain_text.specs.declared.reader.TextFault.TheVariants as faults
use Rattle.trace_text.specs.Reasons.{trace_reason_text}
use Rattle.trace_text.specs.Traces.{IsTraceFault}
use Rattle.trace_text.specs.declared.trace.TraceReason.{TraceReason}

-- what is written where words ask for no command
abbrev pub usage_text : List ℕ
usage_text = codes "usage: cx_tool run | image | recover | load FROM CLIENTS OPS | pool SEATS | fifo | trace\n"

-- what is written of an input that is refused: the line, and the reason as a word
abbrev pub refused_text : ℕ → List ℕ → List ℕ
refused_text line reason = codes "refused line " ++ decimal line ++ codes ": " ++ reason ++ codes "\n"

-- what is written of an input over the limit
abbrev pub too_long_text : List ℕ
too_long_text = codes "refused: input over 16777216 bytes\n"

-- The text names the first line of the input with which its lines say nothing together, and the first reason that fits.
pub record IsRefusalText {Said Reason : Type 0} (grammar : LineGrammar Said Reason) (word_of : Reason → List ℕ) (input text : List ℕ) : Type 0 where
  pub line : ℕ
  pub reason : Reason
  pub first : IsFirstFault grammar input line
  pub because : IsReasonAt grammar input line reason
  pub refusal : text ≡ refused_text line (word_of reason)

-- The text names the first line with which the lines so far are no trace, or the first where there is none, and why.
pub record IsTraceRefusal (input text : List ℕ) : Type 0 where
  pub line : ℕ
  pub reason : TraceReason
  pub first : IsTraceFault input (faults.Refused line reason)
  pub refusal : text ≡ refused_text line (trace_reason_text reason)
