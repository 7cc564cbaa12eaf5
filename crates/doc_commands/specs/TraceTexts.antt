-- The verdict on a trace over documents, and its text.
use Rattle.std.specs.Prelude.{◌≡◌, ℕ, List, ◌++◌, codes}
use Rattle.std.specs.Fmt.{decimal}
use Rattle.cx_core.specs.Base.{fresh_region}
use Rattle.cx_core.specs.State.{Instance, opening_state}
use Rattle.cx_core.specs.declared.entry.Base.{Base}
use Rattle.doc_store.specs.ExactStep.{IsImageOfStore, opening_image, reads_in, store_step}
use Rattle.trace_check.specs.GoodTraces.{IsSafeTrace}
use Rattle.trace_check.specs.Verdicts.{IsOnlyFound, OnYes}
use Rattle.trace_check.specs.declared.check.Verdict.{Verdict}
use Rattle.trace_check.specs.declared.check.Verdict.TheVariants.{Yes, Guard, Place}
use Rattle.trace_text.specs.declared.trace.Trace.{Trace}

-- the base with which a service of documents in the given number of lines opens anew
abbrev pub fresh_base : ℕ → Base
fresh_base lines = record { place = 0; words = fresh_region (opening_image lines) }

-- the instance of a number of callers over documents in a number of lines, from a base
abbrev pub documents_from : ℕ → ℕ → Base → Instance
documents_from callers lines base = record { callers = callers; base = base; step = store_step lines; reads = reads_in }

-- The verdict is of the trace, from this base on, and no other is. Where it is `Yes` each state is lawful, and nothing answered is lost.
pub record IsVerdictFrom (base : Base) (trace : Trace) (verdict : Verdict) : Type 0 where
  pub found : IsOnlyFound trace.lines 2 (IsImageOfStore trace.lines) (documents_from trace.callers trace.lines base) (opening_state trace.callers base) trace.steps verdict
  pub safe : OnYes verdict (IsSafeTrace trace.lines (IsImageOfStore trace.lines) (documents_from trace.callers trace.lines base) (opening_state trace.callers base) trace.steps)

-- a verdict as a line without its end
abbrev pub found_text : Verdict → List ℕ
found_text (Yes events crashes) = codes "yes events " ++ decimal events ++ codes " crashes " ++ decimal crashes
found_text (Guard line) = codes "no line " ++ decimal line ++ codes ": guard"
found_text (Place line found) = codes "no line " ++ decimal line ++ codes ": place " ++ decimal found

-- a verdict as a text of one line
abbrev pub verdict_text : Verdict → List ℕ
verdict_text verdict = found_text verdict ++ codes "\n"

-- The text is that of the trace's one verdict, from the base with which a service of documents opens anew.
pub record IsTraceVerdict (trace : Trace) (text : List ℕ) : Type 0 where
  pub verdict : Verdict
  pub is : IsVerdictFrom (fresh_base trace.lines) trace verdict
  pub text_is : text ≡ verdict_text verdict
