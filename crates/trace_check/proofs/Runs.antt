-- Good lines are a good trace, and the other way round.
use Rattle.std.proofs.Common.{◌≡◌, ◌++◌, ℕ, suc, List, [], ◌∷◌, slice_index, take, refl, sym, ap, subst, ◌∙◌}
use Rattle.cx_base.specs.Codes.{root_place_of}
use Rattle.cx_core.specs.declared.kinds.Event.{Event as CoreEvent}
use Rattle.cx_core.specs.Base.{LawfulBase}
use Rattle.cx_core.specs.Events.{Run}
use Rattle.cx_core.specs.Lawful.{Lawful}
use Rattle.cx_core.specs.State.{Instance, State}
use Rattle.cx_core.proofs.HistoryLemmas.{ObjectLaws}
use Rattle.core_runs.proofs.Keeps.{run_kept}
use Rattle.trace_text.specs.declared.trace.TraceLine.{TraceLine}
use Rattle.trace_text.specs.declared.trace.TraceWhat.{TraceWhat}
use Rattle.trace_text.specs.declared.trace.TraceWhat.TheVariants.{Event, Crash}
use Rattle.trace_check.specs.GoodTraces.{IsGoodTrace, IsSafeTrace, IsRecoveredAt, events_of_line, events_of}
use Rattle.trace_check.specs.Lines.{Good, LeavesPlace, Passes}
use Rattle.trace_check.proofs.Exact.{good_at, good_lawful, makes_one}
use Rattle.trace_check.proofs.Leaving.{accepted, at_place, kept_at}
use Rattle.trace_check.proofs.Made.{image_left}

-- the same events from one state run to one state only: `b` and `c` are equal
run_one : (instance : Instance) (events : List CoreEvent) (from b c : State) → Run instance from events b → Run instance from events c → b ≡ c
run_one instance [] from b c m k = m ∙ sym k
run_one instance (x ∷ xs) from b c m k =
    let same = makes_one instance x from m.0 k.0 m.1 k.1 in
    run_one instance xs k.0 b c (subst (λ (s : State). Run instance s xs b) same m.2) k.2

runs_on : (instance : Instance) (what : TraceWhat) (from then_ to : State) (xs : List CoreEvent) → Passes instance what from then_ → Run instance then_ xs to → Run instance from (events_of_line what ++ xs) to
runs_on instance (Event event) from then_ to xs passes run = (then_, passes, run)
runs_on instance (Crash choice place) from then_ to xs passes run = subst (λ (s : State). Run instance s xs to) passes.1 run

run_of : (instance : Instance) (from : State) (xs : List TraceLine) (to : State) → Good instance from xs to → Run instance from (events_of xs) to
run_of instance from [] to good = good
run_of instance from (x ∷ xs) to good = runs_on instance x.what from good.0 to (events_of xs) good.1 (run_of instance good.0 xs to good.2)

module _ (lines version : ℕ) (lawful : List ℕ → Type 0) (instance : Instance) (laws : ObjectLaws lines lawful instance.step) (shape : (words : List ℕ) → lawful words → slice_index words 0 ≡ version) (base : LawfulBase lines lawful instance.base) where
  -- the place that is left is recovered, and what is recovered is left
  pub recovers_left : (s : State) (choice place : ℕ) → Lawful instance s → LeavesPlace instance s choice place → IsRecoveredAt lines version lawful instance s choice place
  recovers_left s choice place law leaves =
      let r = image_left instance s choice lines law in
      record { image = r.0; left = r.1; accepted = accepted lines instance base.size.long s law choice r.0 r.1 version lawful laws shape base; is = at_place lines instance base.size.long s law choice r.0 r.1 place leaves }

  pub left_recovered : (s : State) (choice place : ℕ) → IsRecoveredAt lines version lawful instance s choice place → LeavesPlace instance s choice place
  left_recovered s choice place r = record {
    chain = r.left.chain;
    is_chain = r.left.is_chain;
    is = ap (root_place_of instance.callers) (sym r.left.root) ∙ ap (λ c. root_place_of c r.image.root) (sym r.left.callers) ∙ r.is;
  }

  pub trace_of : (from : State) (xs : List TraceLine) (to : State) → Lawful instance from → Good instance from xs to → IsGoodTrace lines version lawful instance from xs to
  trace_of from xs to law good = record {
    run = run_of instance from xs to good;
    crashes = λ n choice place x s at is run. (
        let r = good_at instance from xs to n x at good in
        let same = run_one instance (events_of (take n xs)) from r.0 s (run_of instance from (take n xs) r.0 r.1) run in
        let passes = subst (λ w. Passes instance w r.0 r.2) is r.3 in
        let lawful_there = good_lawful instance from (take n xs) r.0 law r.1 in
        subst (λ (t : State). IsRecoveredAt lines version lawful instance t choice place) same (recovers_left r.0 choice place lawful_there passes.0));
  }

  good_by : (what : TraceWhat) (from : State) (x : TraceLine) (xs : List TraceLine) (to : State) → x.what ≡ what → Run instance from (events_of_line what ++ events_of xs) to →
      ((choice place : ℕ) → what ≡ Crash choice place → LeavesPlace instance from choice place) → (then_ : State) × Passes instance what from then_ × Run instance then_ (events_of xs) to
  good_by (Event event) from x xs to is run leaves = run
  good_by (Crash choice place) from x xs to is run leaves = (from, (leaves choice place refl, refl), run)

  pub good_of : (from : State) (xs : List TraceLine) (to : State) → IsGoodTrace lines version lawful instance from xs to → Good instance from xs to
  good_of from [] to trace = trace.run
  good_of from (x ∷ xs) to trace =
      let r = good_by x.what from x xs to refl trace.run (λ choice place is. left_recovered from choice place (trace.crashes 0 choice place x from refl is refl)) in
      let later : IsGoodTrace lines version lawful instance r.0 xs to = record {
        run = r.2;
        crashes = λ n choice place y s at is run. trace.crashes (suc n) choice place y s at is (runs_on instance x.what from r.0 s (events_of (take n xs)) r.1 run);
      } in
      (r.0, r.1, good_of r.0 xs to later)

  -- each state of a good trace is lawful, and what its crashes leave is kept
  pub safe_of : (from : State) (xs : List TraceLine) (to : State) → Lawful instance from → IsGoodTrace lines version lawful instance from xs to → IsSafeTrace lines lawful instance from xs
  safe_of from xs to law trace = record {
    states = λ n s run. run_kept instance from (events_of (take n xs)) s law run;
    crashes = λ n choice place x s image at is run here left. (
        let leaves = left_recovered s choice place (trace.crashes n choice place x s at is run) in
        (kept_at lines instance base.size.long s here choice image left version lawful laws shape base, at_place lines instance base.size.long s here choice image left place leaves));
  }
