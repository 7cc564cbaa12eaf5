-- What was written with a status, from what was written of a text.
use Rattle.std.proofs.Common.{◌≡◌, sym, subst, inl, inr, ℕ, List, Option}
use Rattle.cx_program.specs.Answer.{IsWrittenWith, HasCause, Owed, Wrote}
use Rattle.cx_program.specs.Output.{Appends}
use Rattle.cx_program.specs.declared.status.FinishedRun.{FinishedRun}
use Rattle.cx_program.specs.declared.status.Status.{Status}
use Rattle.cx_program.specs.declared.status.Status.TheVariants.{ReadFault, WriteFault, Memory}
use Rattle.cx_program.proofs.CommandLaws.{GivesUp, owed_plain}
use Rattle.table_invariant.specs.Ending.{Ending}

-- a text that is owed, once written whole
whole : (words : List (List ℕ)) (given : Option (List ℕ)) (status : Status) (trails : List Ending) (text : List ℕ) (before after : Option (List ℕ))
    → (GivesUp status → ⊥) → Owed words given status trails text → Appends text before after → IsWrittenWith words given status trails before after
whole words given ReadFault trails text before after plain owed appends = absurd (plain tt)
whole words given WriteFault trails text before after plain owed appends = absurd (plain tt)
whole words given Memory trails text before after plain owed appends = absurd (plain tt)
whole words given status trails text before after plain owed appends = (text, owed, appends)

-- a text that is owed with a status and trails is owed by a run that ended with them
pub owed_by : (words : List (List ℕ)) (given : Option (List ℕ)) (status : Status) (trails : List Ending) (text : List ℕ) (ended : FinishedRun) → (ended.status ≡ status) × (ended.trails ≡ trails)
    → Owed words given status trails text → Owed words given ended.status ended.trails text
owed_by words given status trails text ended is owed =
    subst (λ (s : Status). Owed words given s ended.trails text) (sym is.0) (subst (λ (ts : List Ending). Owed words given status ts text) (sym is.1) owed)

-- what stands written where a text was owed
pub answers_written : (words : List (List ℕ)) (given : Option (List ℕ)) (text : List ℕ) (ended result : FinishedRun) (before after : Option (List ℕ)) (faults faults' : ℕ)
    → Owed words given ended.status ended.trails text → Wrote text ended result before after faults faults' → IsWrittenWith words given result.status result.trails before after
answers_written words given text ended result before after faults faults' owed (inl wrote) =
    subst (λ (e : FinishedRun). IsWrittenWith words given e.status e.trails before after) (sym wrote.0)
    (whole words given ended.status ended.trails text before after (owed_plain words given ended.status ended.trails text owed) owed wrote.1)
answers_written words given text ended result before after faults faults' owed (inr failed) =
    subst (λ (s : Status). IsWrittenWith words given s result.trails before after) (sym failed.0) (text, record { status = ended.status; trails = ended.trails; owed = owed }, failed.1)

-- a status that an input calls for has no cause to tell
no_cause : (status : Status) (reads reads' writes writes' : ℕ) → (GivesUp status → ⊥) → HasCause status reads reads' writes writes'
no_cause ReadFault reads reads' writes writes' plain = absurd (plain tt)
no_cause WriteFault reads reads' writes writes' plain = absurd (plain tt)
no_cause status reads reads' writes writes' plain = tt

pub cause_written : (text : List ℕ) (ended result : FinishedRun) (before after : Option (List ℕ)) (reads reads' faults faults' : ℕ)
    → (GivesUp ended.status → ⊥) → Wrote text ended result before after faults faults' → HasCause result.status reads reads' faults faults'
cause_written text ended result before after reads reads' faults faults' plain (inl wrote) =
    subst (λ (e : FinishedRun). HasCause e.status reads reads' faults faults') (sym wrote.0) (no_cause ended.status reads reads' faults faults' plain)
cause_written text ended result before after reads reads' faults faults' plain (inr failed) =
    subst (λ (s : Status). HasCause s reads reads' faults faults') (sym failed.0) failed.2
