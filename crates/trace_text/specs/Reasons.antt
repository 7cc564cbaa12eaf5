-- The reasons of refusal: the first that fits, and each as a word.
use Rattle.std.specs.Prelude.{ℕ, nat_le, List, length, codes, if◌then◌else◌}
use Rattle.trace_text.specs.declared.trace.TraceLines.{TraceLines}
use Rattle.trace_text.specs.declared.trace.TraceLines.TheVariants.{Nothing, Begun}
use Rattle.trace_text.specs.declared.trace.TraceReason.{TraceReason}
use Rattle.trace_text.specs.declared.trace.TraceReason.TheVariants as reasons

abbrev pub trace_reason_for : TraceLines → TraceReason
trace_reason_for Nothing = reasons.Trace
trace_reason_for (Begun trace) = if nat_le 10000 (length trace.steps) then reasons.Events else reasons.Event

abbrev pub trace_reason_text : TraceReason → List ℕ
trace_reason_text reasons.Trace = codes "trace"
trace_reason_text reasons.Events = codes "events"
trace_reason_text reasons.Event = codes "event"
