-- What a trace is, line by line: the first with its numbers, and one for each step and for each crash.
use Rattle.std.specs.Prelude.{◌≡◌, ◌⊎◌, ◌+◌, ◌^◌, ◌<◌, ◌≤◌, ℕ, List, [], ◌++◌, length, codes, Some, slice_get}
use Rattle.std.specs.Fmt.{decimal}
use Rattle.plain_text.specs.LineGrammar.{LineGrammar, IsFault, IsTextOf}
use Rattle.plain_text.specs.Lines.{text_lines}
use Rattle.plain_text.specs.declared.reader.TextFault.{TextFault}
use Rattle.plain_text.specs.declared.reader.TextFault.TheVariants.{Refused, Memory}
use Rattle.trace_text.specs.Kinds.{IsKindText}
use Rattle.trace_text.specs.Reading.{with_head, with_step}
use Rattle.trace_text.specs.Reasons.{trace_reason_for}
use Rattle.trace_text.specs.declared.trace.Trace.{Trace}
use Rattle.trace_text.specs.declared.trace.TraceLine.{TraceLine}
use Rattle.trace_text.specs.declared.trace.TraceLines.{TraceLines}
use Rattle.trace_text.specs.declared.trace.TraceLines.TheVariants.{Nothing, Begun}
use Rattle.trace_text.specs.declared.trace.TraceReason.{TraceReason}
use Rattle.trace_text.specs.declared.trace.TraceReason.TheVariants as reasons
use Rattle.trace_text.specs.declared.trace.TraceWhat.{TraceWhat}
use Rattle.trace_text.specs.declared.trace.TraceWhat.TheVariants.{Event, Crash}

-- `trace N L`: N callers of an object of L lines
pub record IsTraceHeadLine (head : ℕ × ℕ) (line : List ℕ) : Type 0 where
  pub spelled : line ≡ codes "trace " ++ (decimal head.0 ++ (codes " " ++ decimal head.1))
  pub some : 1 ≤ head.0
  pub few : head.0 ≤ 8
  pub enough : 64 ≤ head.1
  pub small : head.1 ≤ 16384

-- A further line of a trace of the given number of callers: `C KIND` with C below their number, or `crash CHOICE place P`.
abbrev pub SaysTraceLine : ℕ → TraceWhat → List ℕ → Type 0
SaysTraceLine callers (Event event) line =
    (text : List ℕ) × IsKindText event.kind text × (line ≡ decimal event.caller ++ (codes " " ++ text)) × (event.caller < 2 ^ 64) × (event.caller < callers)
SaysTraceLine callers (Crash choice place) line =
    (line ≡ codes "crash " ++ (decimal choice ++ (codes " place " ++ decimal place))) × (choice < 2 ^ 64) × (place < 2 ^ 64)

-- the lines read so far, with one more line: there are at most 10,000 lines behind the first
abbrev pub AddsTraceLine : TraceLines → List ℕ → TraceLines → Type 0
AddsTraceLine Nothing line after = (head : ℕ × ℕ) × IsTraceHeadLine head line × (after ≡ Begun (with_head head))
AddsTraceLine (Begun trace) line after =
    (what : TraceWhat) × SaysTraceLine trace.callers what line × (length trace.steps < 10000) × (after ≡ Begun (with_step trace what))

-- Why a line is refused: it may not stand behind the lines before it, and the reason is the first that fits.
pub record IsTraceReason (before : TraceLines) (line : List ℕ) (reason : TraceReason) : Type 0 where
  pub none : (after : TraceLines) → AddsTraceLine before line after → ⊥
  pub because : reason ≡ trace_reason_for before

-- the language of traces
abbrev pub trace_grammar : LineGrammar TraceLines TraceReason
trace_grammar = record { nothing = Nothing; Adds = AddsTraceLine; IsReason = IsTraceReason }

-- a text is that of a trace
abbrev pub IsTrace : List ℕ → Trace → Type 0
IsTrace text trace = IsTextOf trace_grammar text (Begun trace)

-- why a text is no trace: its first line with which the lines so far are none, or line 1 where it has no line
abbrev pub IsTraceFault : List ℕ → TextFault TraceReason → Type 0
IsTraceFault text (Refused line reason) =
    IsFault trace_grammar text (Refused line reason) ⊎ ((text_lines text ≡ []) × (line ≡ 1) × (reason ≡ reasons.Trace))
IsTraceFault text Memory = Unit {0}

-- a trace's numbers are within their limits, and each step has the number of its line, counted from 1
pub record IsTraceWithin (trace : Trace) : Type 0 where
  pub some : 1 ≤ trace.callers
  pub few : trace.callers ≤ 8
  pub enough : 64 ≤ trace.lines
  pub small : trace.lines ≤ 16384
  pub short : length trace.steps ≤ 10000
  pub numbered : (n : ℕ) (x : TraceLine) → slice_get trace.steps n ≡ Some x → x.line ≡ n + 2

-- what the lines so far keep to
abbrev pub KeepsTraceLimits : TraceLines → Type 0
KeepsTraceLimits Nothing = Unit {0}
KeepsTraceLimits (Begun trace) = IsTraceWithin trace
