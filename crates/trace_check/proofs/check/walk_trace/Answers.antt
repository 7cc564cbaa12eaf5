use Rattle.std.proofs.Common.{◌≡◌, ◌+◌, ◌<◌, ℕ, Bool, true, false, get_or, length, List, ap, refl, sym, subst, arith, rules}
use Rattle.cx_core.specs.declared.kinds.Kind.TheVariants.{WriteCell}
use Rattle.cx_core.specs.Events.{Allowed, IsMadeOrRefused, Makes}
use Rattle.cx_core.specs.State.{Core, Instance, State, instance_of, opening_state}
use Rattle.core_runs.proofs.Keeps.{opening_lawful}
use Rattle.trace_text.specs.declared.trace.TraceLine.{TraceLine}
use Rattle.trace_text.specs.declared.trace.TraceWhat.TheVariants.{Event, Crash}
use Rattle.trace_check.specs.Lines.{LeavesPlace}
use Rattle.trace_check.proofs.Walk.{Walked, fails_guard, fails_place, on_crash, on_event}
use Rattle.trace_check.proofs.check.walk_trace.Goals as goal
use Rattle.trace_check.proofs.check.walk_trace.Goals.{in-Event+in_ok-apply-in-Event+else-not-branch, in-Crash+in_ok-found-in-Crash+else-found-place}

abbrev none : TraceLine
none = record { line = 0; what = Event (record { caller = 0; kind = WriteCell 0 0 0 }) }

pub loop-step-init : goal.loop-step-init
loop-step-init g c =
    let instance : Instance = record { callers = c.args.trace.now.callers; base = c.args.base.now; step = g.O.Object.step c.args.object.now; reads = g.O.Object.only_reads c.args.object.now } in
    let from : State = opening_state c.args.trace.now.callers c.args.base.now in
    let P : Core → Type 0 = λ core. Walked instance from c.args.trace.now.steps 0 0 0 core in
    subst P (sym c.in_ok-core.ensures) (record {
      callers = refl;
      base = refl;
      good = refl;
      lawful = opening_lawful instance c.requires.callers.some c.requires.callers.few c.requires.base.place_within c.requires.base.at_place;
      events = refl;
      crashes = refl;
      few = omega arith;
    })

pub returns-then-not-branch : goal.returns-then-not-branch
returns-then-not-branch g c =
    let instance : Instance = record { callers = c.args.trace.now.callers; base = c.args.base.now; step = g.O.Object.step c.args.object.now; reads = g.O.Object.only_reads c.args.object.now } in
    let from : State = opening_state c.args.trace.now.callers c.args.base.now in
    let xs = c.args.trace.now.steps in
    let core = c.loop-step.core in
    let n = c.loop-step.step-index in
    let x = get_or c.as_slice-step-items.result.now n none in
    let walked = c.loop-step.invariant in
    let same : instance_of core instance.step instance.reads ≡ instance = λ i. record { callers = walked.callers i; base = walked.base i; step = instance.step; reads = instance.reads } in
    let applied = c.in_ok-apply-in-Event.ensures.ok in
    let off : c.in_ok-apply-in-Event.field-0 ≡ false = search rules in
    let refused : IsMadeOrRefused false (instance_of core instance.step instance.reads) c.in-Event.event core.state c.apply.new.state.state =
    subst (λ (b : Bool). IsMadeOrRefused b (instance_of core instance.step instance.reads) c.in-Event.event core.state c.apply.new.state.state) off applied in
    fails_guard instance from xs n c.loop-step.events c.loop-step.crashes core x none (search rules) (ap (λ (ys : List TraceLine). get_or ys n none) c.as_slice-step-items.ensures) walked c.in-Event.event (search rules)
    (subst (λ (i : Instance). Allowed i c.in-Event.event core.state → ⊥) same refused.0)

pub returns-then-found-place : goal.returns-then-found-place
returns-then-found-place g c =
    let instance : Instance = record { callers = c.args.trace.now.callers; base = c.args.base.now; step = g.O.Object.step c.args.object.now; reads = g.O.Object.only_reads c.args.object.now } in
    let from : State = opening_state c.args.trace.now.callers c.args.base.now in
    let xs = c.args.trace.now.steps in
    let core = c.loop-step.core in
    let n = c.loop-step.step-index in
    let x = get_or c.as_slice-step-items.result.now n none in
    let walked = c.loop-step.invariant in
    let same : instance_of core instance.step instance.reads ≡ instance = λ i. record { callers = walked.callers i; base = walked.base i; step = instance.step; reads = instance.reads } in
    fails_place instance from xs n c.loop-step.events c.loop-step.crashes core x none (search rules) (ap (λ (ys : List TraceLine). get_or ys n none) c.as_slice-step-items.ensures) walked c.in-Crash.choice c.in-Crash.place c.in_ok-found-in-Crash.found (search rules)
    (subst (λ (i : Instance). LeavesPlace i core.state c.in-Crash.choice c.in_ok-found-in-Crash.found) same c.in_ok-found-in-Crash.ensures) (search rules)

pub loop-step-preserved : goal.loop-step-preserved
loop-step-preserved g c =
    let instance : Instance = record { callers = c.args.trace.now.callers; base = c.args.base.now; step = g.O.Object.step c.args.object.now; reads = g.O.Object.only_reads c.args.object.now } in
    let from : State = opening_state c.args.trace.now.callers c.args.base.now in
    let xs = c.args.trace.now.steps in
    let core = c.loop-step.core in
    let n = c.loop-step.step-index in
    let e = c.loop-step.events in
    let k = c.loop-step.crashes in
    let x = get_or c.as_slice-step-items.result.now n none in
    let at = ap (λ (ys : List TraceLine). get_or ys n none) c.as_slice-step-items.ensures in
    let walked = c.loop-step.invariant in
    let below : n < length xs = search rules in
    let same : instance_of core instance.step instance.reads ≡ instance = λ i. record { callers = walked.callers i; base = walked.base i; step = instance.step; reads = instance.reads } in
    elim c.match-step.branch [
      | in-Event+in_ok-apply-in-Event+else-not-branch w ↦ (
          let P : ℕ → ℕ → Core → Type 0 = λ e' k' core'. Walked instance from xs (n + 1) e' k' core' in
          let made : w.in_ok-apply-in-Event.field-0 ≡ true = search rules in
          let makes : Makes (instance_of core instance.step instance.reads) w.in-Event.event core.state w.apply.new.state.state =
          subst (λ (b : Bool). IsMadeOrRefused b (instance_of core instance.step instance.reads) w.in-Event.event core.state w.apply.new.state.state) made w.in_ok-apply-in-Event.ensures.ok in
          let fixed = w.in_ok-apply-in-Event.ensures.fixed in
          let is : x.what ≡ Event w.in-Event.event = search rules in
          let one = on_event instance from xs n e k core x none below at walked w.in-Event.event is w.apply.new.state
          (ap (λ (y : Core). y.callers) fixed) (ap (λ (y : Core). y.base) fixed) (subst (λ (i : Instance). Makes i w.in-Event.event core.state w.apply.new.state.state) same makes) in
          subst (λ e'. P e' c.match-step.crashes c.match-step.core) (sym w.events-is) (subst (λ k'. P (e + 1) k' c.match-step.core) (sym w.crashes-is) (subst (λ core'. P (e + 1) k core') (sym w.core-is) one)))
      | in-Crash+in_ok-found-in-Crash+else-found-place w ↦ (
          let P : ℕ → ℕ → Core → Type 0 = λ e' k' core'. Walked instance from xs (n + 1) e' k' core' in
          let leaves = subst (λ (i : Instance). LeavesPlace i core.state w.in-Crash.choice w.in_ok-found-in-Crash.found) same w.in_ok-found-in-Crash.ensures in
          let found : w.in_ok-found-in-Crash.found ≡ w.in-Crash.place = search rules in
          let is : x.what ≡ Crash w.in-Crash.choice w.in-Crash.place = search rules in
          let one = on_crash instance from xs n e k core x none below at walked w.in-Crash.choice w.in-Crash.place is (subst (LeavesPlace instance core.state w.in-Crash.choice) found leaves) in
          subst (λ e'. P e' c.match-step.crashes c.match-step.core) (sym w.events-is) (subst (λ k'. P e k' c.match-step.core) (sym w.crashes-is) (subst (λ core'. P e (k + 1) core') (sym w.core-is) one)))
    ]
