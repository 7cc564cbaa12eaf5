-- Each step has the number of its line.
use Rattle.std.proofs.Common.{◌≡◌, ℕ, List, [], ◌∷◌, Some, refl, subst, arith}
use Rattle.std.proofs.lemmas.Option.{none-some}
use Rattle.plain_text.specs.LineGrammar.{AddsAll, AreLinesOf}
use Rattle.trace_text.specs.Judging.{trace_head_is}
use Rattle.trace_text.specs.Reading.{trace_head_of, with_head, with_step}
use Rattle.trace_text.specs.Traces.{IsTraceWithin, trace_grammar}
use Rattle.trace_text.specs.declared.trace.Trace.{Trace}
use Rattle.trace_text.specs.declared.trace.TraceLines.{TraceLines}
use Rattle.trace_text.specs.declared.trace.TraceLines.TheVariants.{Nothing, Begun}

pub head_kept : (line : List ℕ) (head : ℕ × ℕ) → trace_head_of line ≡ Some head → IsTraceWithin (with_head head)
head_kept line head e =
    let is = trace_head_is line head e in
    record { some = is.some; few = is.few; enough = is.enough; small = is.small; short = omega arith; numbered = λ n x at. absurd (none-some x at) }

begun_stays : (trace : Trace) (lines : List (List ℕ)) (after : TraceLines) → AddsAll trace_grammar (Begun trace) lines after → (found : Trace) × (after ≡ Begun found)
begun_stays trace [] after same = (trace, same)
begun_stays trace (line ∷ lines) after (between, (what, is, few, same), more) =
    begun_stays (with_step trace what) lines after (subst (λ (s : TraceLines). AddsAll trace_grammar s lines after) same more)

-- nothing is said by no lines
pub no_line : (lines : List (List ℕ)) → AreLinesOf trace_grammar lines Nothing → lines ≡ []
no_line [] same = refl
no_line (line ∷ lines) (between, (head, is, same), more) =
    let found = begun_stays (with_head head) lines Nothing (subst (λ (s : TraceLines). AddsAll trace_grammar s lines Nothing) same more) in
    let e : Nothing ≡ Begun found.0 = found.1 in
    absurd cc
