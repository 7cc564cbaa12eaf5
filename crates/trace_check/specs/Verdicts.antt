-- What is found of a trace.
use Rattle.std.specs.Prelude.{◌≡◌, ◌≢◌, ℕ, List, Some, slice_get, take}
use Rattle.cx_core.specs.declared.kinds.Event.{Event as CoreEvent}
use Rattle.cx_core.specs.Events.{Allowed}
use Rattle.cx_core.specs.State.{Instance, State}
use Rattle.trace_check.specs.declared.check.Verdict.{Verdict}
use Rattle.trace_check.specs.declared.check.Verdict.TheVariants.{Yes, Guard, Place}
use Rattle.trace_text.specs.declared.trace.TraceLine.{TraceLine}
use Rattle.trace_text.specs.declared.trace.TraceWhat.TheVariants.{Event, Crash}
use Rattle.trace_check.specs.GoodTraces.{IsGoodTrace, IsRecoveredAt}
use Rattle.trace_check.specs.Lines.{crash_count, event_count}

-- a line is the first that fails: those in front of it are a good trace, which leads to a state
pub record IsBehindGood (lines version : ℕ) (lawful : List ℕ → Type 0) (instance : Instance) (from : State) (xs : List TraceLine) (line : ℕ) (x : TraceLine) (state : State) : Type 0 where
  pub n : ℕ
  pub at : slice_get xs n ≡ Some x
  pub named : x.line ≡ line
  pub before : IsGoodTrace lines version lawful instance from (take n xs) state

abbrev pub IsFaultFound : ℕ → ℕ → (List ℕ → Type 0) → Instance → State → List TraceLine → Verdict → Type 0
IsFaultFound lines version lawful instance from xs (Yes events crashes) =
    ((to : State) × IsGoodTrace lines version lawful instance from xs to) × (events ≡ event_count xs) × (crashes ≡ crash_count xs)
IsFaultFound lines version lawful instance from xs (Guard line) =
    (x : TraceLine) × (state : State) × IsBehindGood lines version lawful instance from xs line x state
    × (event : CoreEvent) × (x.what ≡ Event event) × (¬ Allowed instance event state)
IsFaultFound lines version lawful instance from xs (Place line found) =
    (x : TraceLine) × (state : State) × IsBehindGood lines version lawful instance from xs line x state
    × (choice : ℕ) × (place : ℕ) × (x.what ≡ Crash choice place) × IsRecoveredAt lines version lawful instance state choice found × (found ≢ place)

-- a verdict is of a trace, and no other is
pub record IsOnlyFound (lines version : ℕ) (lawful : List ℕ → Type 0) (instance : Instance) (from : State) (xs : List TraceLine) (verdict : Verdict) : Type 0 where
  pub found : IsFaultFound lines version lawful instance from xs verdict
  pub only : (other : Verdict) → IsFaultFound lines version lawful instance from xs other → other ≡ verdict

-- a trace that is told good has this
abbrev pub OnYes : Verdict → Type 0 → Type 0
OnYes (Yes events crashes) P = P
OnYes verdict P = Unit {0}
