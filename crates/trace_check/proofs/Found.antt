-- What is found by lines that are good one after another is found of the trace.
use Rattle.std.proofs.Common.{◌≡◌, ℕ, List, Result, Ok, Err, IfOk, slice_index, take}
use Rattle.std.specs.declared.alloc.AllocError.{AllocError}
use Rattle.cx_core.specs.Base.{LawfulBase}
use Rattle.cx_core.specs.Lawful.{Lawful}
use Rattle.cx_core.specs.State.{Instance, State}
use Rattle.cx_core.proofs.HistoryLemmas.{ObjectLaws}
use Rattle.trace_check.specs.declared.check.Verdict.{Verdict}
use Rattle.trace_check.specs.declared.check.Verdict.TheVariants.{Yes, Guard, Place}
use Rattle.trace_text.specs.declared.trace.TraceLine.{TraceLine}
use Rattle.trace_check.specs.Lines.{IsVerdict}
use Rattle.trace_check.specs.Verdicts.{IsFaultFound, IsOnlyFound, OnYes}
use Rattle.trace_check.specs.GoodTraces.{IsSafeTrace}
use Rattle.trace_check.proofs.Exact.{good_lawful, verdict_one}
use Rattle.trace_check.proofs.Runs.{good_of, left_recovered, recovers_left, safe_of, trace_of}

module _ (lines version : ℕ) (lawful : List ℕ → Type 0) (instance : Instance) (laws : ObjectLaws lines lawful instance.step) (shape : (words : List ℕ) → lawful words → slice_index words 0 ≡ version) (base : LawfulBase lines lawful instance.base)
    (from : State) (xs : List TraceLine) (law : Lawful instance from) where
  pub found_of : (v : Verdict) → IsVerdict instance from xs v → IsFaultFound lines version lawful instance from xs v
  found_of (Yes e c) is = ((is.0.0, trace_of lines version lawful instance laws shape base from xs is.0.0 law is.0.1), is.1, is.2)
  found_of (Guard line) f =
      (f.x, f.state, record { n = f.n; at = f.at; named = f.named; before = trace_of lines version lawful instance laws shape base from (take f.n xs) f.state law f.before }, f.event, f.is, f.fails)
  found_of (Place line found) f = (
    f.x,
    f.state,
    record { n = f.n; at = f.at; named = f.named; before = trace_of lines version lawful instance laws shape base from (take f.n xs) f.state law f.before },
    f.choice,
    f.place,
    f.is,
    recovers_left lines version lawful instance laws shape base f.state f.choice found (good_lawful instance from (take f.n xs) f.state law f.before) f.leaves,
    f.other,
  )

  pub if_found : (r : Result Verdict AllocError) → IfOk r (IsVerdict instance from xs) → IfOk r (IsFaultFound lines version lawful instance from xs)
  if_found (Ok v) is = found_of v is
  if_found (Err e) is = is

  -- and the other way round
  verdict_of : (v : Verdict) → IsFaultFound lines version lawful instance from xs v → IsVerdict instance from xs v
  verdict_of (Yes e c) is = ((is.0.0, good_of lines version lawful instance laws shape base from xs is.0.0 is.0.1), is.1, is.2)
  verdict_of (Guard line) (x, state, first, event, is, fails) = record {
    n = first.n;
    x = x;
    at = first.at;
    named = first.named;
    state = state;
    before = good_of lines version lawful instance laws shape base from (take first.n xs) state first.before;
    event = event;
    is = is;
    fails = fails;
  }
  verdict_of (Place line found) (x, state, first, choice, place, is, recovers, other) = record {
    n = first.n;
    x = x;
    at = first.at;
    named = first.named;
    state = state;
    before = good_of lines version lawful instance laws shape base from (take first.n xs) state first.before;
    choice = choice;
    place = place;
    is = is;
    leaves = left_recovered lines version lawful instance laws shape base state choice found recovers;
    other = other;
  }

  found_one : (v w : Verdict) → IsFaultFound lines version lawful instance from xs v → IsFaultFound lines version lawful instance from xs w → v ≡ w
  found_one v w first second = verdict_one instance from xs law v w (verdict_of v first) (verdict_of w second)

  pub if_only : (r : Result Verdict AllocError) → IfOk r (IsFaultFound lines version lawful instance from xs) → IfOk r (IsOnlyFound lines version lawful instance from xs)
  if_only (Ok v) is = record { found = is; only = λ other found. found_one other v found is }
  if_only (Err e) is = is

  safe_yes : (v : Verdict) → IsFaultFound lines version lawful instance from xs v → OnYes v (IsSafeTrace lines lawful instance from xs)
  safe_yes (Yes e c) is = safe_of lines version lawful instance laws shape base from xs is.0.0 law is.0.1
  safe_yes (Guard line) is = tt
  safe_yes (Place line found) is = tt

  pub if_safe : (r : Result Verdict AllocError) → IfOk r (IsFaultFound lines version lawful instance from xs) → IfOk r (λ v. OnYes v (IsSafeTrace lines lawful instance from xs))
  if_safe (Ok v) is = safe_yes v is
  if_safe (Err e) is = is
