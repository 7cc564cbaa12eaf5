-- How a trace is read: what each of its lines stands for, or why a line is refused. Words in capitals stand for what a line has there.
use Rattle.std.specs.Prelude.{◌+◌, ℕ, true, false, ◌&&◌, nat_le, nat_lt, List, [], ◌∷◌, ◌++◌, length, codes, Option, None, Some, option_and_then, Result, Err, if◌then◌else◌}
use Rattle.std.specs.Option.{option_map, ok_or}
use Rattle.plain_text.specs.Number.{number_of}
use Rattle.plain_text.specs.Words.{first_word, rest_of, is_word}
use Rattle.cx_core.specs.declared.kinds.Kind.{Kind}
use Rattle.cx_core.specs.declared.kinds.Kind.TheVariants.{LoadWord, Raise}
use Rattle.doc_model.specs.Words.{op_words}
use Rattle.trace_text.specs.Commands.{reading_of}
use Rattle.trace_text.specs.Kinds.{numbered}
use Rattle.trace_text.specs.declared.trace.Trace.{Trace}
use Rattle.trace_text.specs.declared.trace.TraceLines.{TraceLines}
use Rattle.trace_text.specs.declared.trace.TraceLines.TheVariants.{Nothing, Begun}
use Rattle.trace_text.specs.declared.trace.TraceReason.{TraceReason}
use Rattle.trace_text.specs.declared.trace.TraceReason.TheVariants as reasons
use Rattle.trace_text.specs.declared.trace.TraceWhat.{TraceWhat}
use Rattle.trace_text.specs.declared.trace.TraceWhat.TheVariants.{Event, Crash}

-- ---- the first line

-- a trace's number of callers and of lines, where these are 1 to 8 and 64 to 16384
abbrev pub trace_head_within : ℕ → ℕ → Option (ℕ × ℕ)
trace_head_within callers lines =
    if nat_le 1 callers && (nat_le callers 8 && (nat_le 64 lines && nat_le lines 16384)) then Some (callers, lines) else None

-- behind `trace`: CALLERS LINES
unfoldable pub trace_head_behind : List ℕ → Option (ℕ × ℕ)
trace_head_behind text =
    option_and_then (λ callers. option_and_then (trace_head_within callers) (option_and_then number_of (rest_of text))) (number_of (first_word text))

-- the first line: `trace` CALLERS LINES
unfoldable pub trace_head_of : List ℕ → Option (ℕ × ℕ)
trace_head_of line = if is_word (codes "trace") (first_word line) then option_and_then trace_head_behind (rest_of line) else None

-- ---- crashes

-- the end of a crash line: `place` PLACE
unfoldable pub place_in_text : List ℕ → Option ℕ
place_in_text text = if is_word (codes "place") (first_word text) then option_and_then number_of (rest_of text) else None

-- behind `crash`: CHOICE `place` PLACE
unfoldable pub crash_line_of : List ℕ → Option TraceWhat
crash_line_of text =
    option_and_then (λ choice. option_and_then (λ place. Some (Crash choice place)) (option_and_then place_in_text (rest_of text))) (number_of (first_word text))

-- ---- events

-- behind WORD in a `load_word` event of replica `r` and word `i`: nothing, or `refused`: the word shows an outdated replica
abbrev pub marked : ℕ → ℕ → Option (List ℕ) → Option Kind
marked r i None = Some (LoadWord r i false)
marked r i (Some word) = if is_word (codes "refused") word then Some (LoadWord r i true) else None

-- behind REPLICA in a `load_word` event of replica `r`: WORD, or WORD `refused`
unfoldable pub load_behind : ℕ → Option (List ℕ) → Option Kind
load_behind r None = None
load_behind r (Some text) = option_and_then (λ i. marked r i (rest_of text)) (number_of (first_word text))

-- behind `load_word`: REPLICA WORD, or REPLICA WORD `refused`
unfoldable pub load_of : Option (List ℕ) → Option Kind
load_of None = None
load_of (Some text) = option_and_then (λ r. load_behind r (rest_of text)) (number_of (first_word text))

-- a raise with a read, behind CODE: the word `read`, and a COMMAND that only reads
abbrev pub read_behind : ℕ → List ℕ → Option (List ℕ) → Option Kind
read_behind code word None = None
read_behind code word (Some command) =
    if is_word (codes "read") word then option_map (λ op. Raise code (Some (op_words op))) (reading_of command) else None

-- behind CODE in a `raise` event: nothing, or `read` COMMAND
unfoldable pub raise_behind : ℕ → Option (List ℕ) → Option Kind
raise_behind code None = Some (Raise code None)
raise_behind code (Some text) = read_behind code (first_word text) (rest_of text)

-- behind `raise`: CODE, or CODE `read` COMMAND
unfoldable pub raise_of : Option (List ℕ) → Option Kind
raise_of None = None
raise_of (Some text) = option_and_then (λ code. raise_behind code (rest_of text)) (number_of (first_word text))

-- a kind of step, by its NAME and what stands behind it: `load_word` and `raise` as above, and each other name with its numbers
unfoldable pub kind_by : List ℕ → Option (List ℕ) → Option Kind
kind_by name rest =
    if is_word (codes "load_word") name then load_of rest
    else if is_word (codes "raise") name then raise_of rest
    else numbered name rest

-- a kind of step: NAME, and what stands behind it
unfoldable pub kind_of : List ℕ → Option Kind
kind_of text = kind_by (first_word text) (rest_of text)

-- a number, where it is below `end_`
abbrev pub below : ℕ → ℕ → Option ℕ
below end_ number = if nat_lt number end_ then Some number else None

-- CALLER: a number below the trace's number of callers
unfoldable pub caller_number_of : ℕ → List ℕ → Option ℕ
caller_number_of callers word = option_and_then (below callers) (number_of word)

-- an event of this caller, read from its KIND; none where the caller's word was no number of a caller
abbrev pub event_of : Option ℕ → List ℕ → Option TraceWhat
event_of None text = None
event_of (Some caller) text = option_map (λ kind. Event (record { caller = caller; kind = kind })) (kind_of text)

-- a line by its first word and the text behind it: `crash` CHOICE `place` PLACE, or CALLER KIND
unfoldable pub what_behind : ℕ → List ℕ → List ℕ → Option TraceWhat
what_behind callers word text = if is_word (codes "crash") word then crash_line_of text else event_of (caller_number_of callers word) text

-- a line behind the first: `crash` CHOICE `place` PLACE, or CALLER KIND; none where nothing stands behind the first word
unfoldable pub what_of : ℕ → List ℕ → Option TraceWhat
what_of callers line = option_and_then (what_behind callers (first_word line)) (rest_of line)

-- ---- the lines read so far

-- the trace with this first line, and no further line yet
abbrev pub with_head : ℕ × ℕ → Trace
with_head head = record { callers = head.0; lines = head.1; steps = [] }

-- The trace with one more line. The first line has number 1, so the first step has number 2.
abbrev pub with_step : Trace → TraceWhat → Trace
with_step trace what = record trace { steps = trace.steps ++ record { line = length trace.steps + 2; what = what } ∷ [] }

-- What was read after one more line, or why that line is refused: `Trace` is a bad first line, `Events` one line too many behind 10,000, `Event` a bad line.
abbrev pub judged_trace : TraceLines → List ℕ → Result TraceLines TraceReason
judged_trace Nothing line = ok_or (option_map (λ head. Begun (with_head head)) (trace_head_of line)) reasons.Trace
judged_trace (Begun trace) line =
    if nat_le 10000 (length trace.steps) then Err reasons.Events
    else ok_or (option_map (λ what. Begun (with_step trace what)) (what_of trace.callers line)) reasons.Event
