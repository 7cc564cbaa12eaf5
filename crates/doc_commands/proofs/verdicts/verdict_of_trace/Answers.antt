use Rattle.std.proofs.Common.{◌≡◌, ◌∙◌, ap, subst, ℕ}
use Rattle.std.proofs.lemmas.Result.{IfOk-weaker}
use Rattle.cx_core.specs.Base.{fresh_region}
use Rattle.cx_core.specs.State.{opening_state}
use Rattle.cx_core.specs.declared.entry.Base.{Base}
use Rattle.doc_store.specs.ExactStep.{IsImageOfStore, opening_image}
use Rattle.trace_check.specs.GoodTraces.{IsSafeTrace}
use Rattle.trace_check.specs.Verdicts.{IsOnlyFound, OnYes}
use Rattle.doc_commands.specs.TraceTexts.{IsTraceVerdict, IsVerdictFrom, documents_from, fresh_base, verdict_text}
use Rattle.doc_commands.proofs.verdicts.verdict_of_trace.Goals as goal

pub returns : goal.returns
returns c =
    let trace = c.args.trace.now in
    let base : Base = c.in_ok-base.base in
    let verdict = c.in_ok-verdict.verdict in
    let words : base.words ≡ fresh_region (opening_image trace.lines) = c.in_ok-base.ensures.words ∙ ap (λ (n : ℕ). fresh_region (opening_image n)) c.of-store.ensures in
    let fresh : base ≡ fresh_base trace.lines = λ i. record { place = c.in_ok-base.ensures.place i; words = words i } in
    let here : IsVerdictFrom base trace verdict = record {
      found = subst (λ (n : ℕ). IsOnlyFound n 2 (IsImageOfStore n) (documents_from trace.callers n base) (opening_state trace.callers base) trace.steps verdict) c.of-store.ensures c.in_ok-verdict.ensures.found;
      safe = subst (λ (n : ℕ). OnYes verdict (IsSafeTrace n (IsImageOfStore n) (documents_from trace.callers n base) (opening_state trace.callers base) trace.steps)) c.of-store.ensures c.in_ok-verdict.ensures.safe;
    } in
    IfOk-weaker c.text_of.result (λ text. text.items ≡ verdict_text verdict) (λ text. IsTraceVerdict trace text.items)
    (λ text text_is. record { verdict = verdict; is = subst (λ (b : Base). IsVerdictFrom b trace verdict) fresh here; text_is = text_is }) c.text_of.ensures
