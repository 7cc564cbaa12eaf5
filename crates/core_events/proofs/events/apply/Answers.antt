use Rattle.std.proofs.Common.{◌≡◌, ◌+◌, ◌^◌, ◌<◌, ◌≤◌, ◌∙◌, length, refl, ap, sym, subst, arith, set, Some}
use Rattle.std.proofs.lemmas.Option.{slice_get_read}
use Rattle.std.specs.List.{slice_get}
use Rattle.core_events.specs.StepFacts.{Tells}
use Rattle.cx_core.specs.declared.local.Local.{Local}
use Rattle.cx_core.specs.Events.{IsMadeOrRefused, Did}
use Rattle.cx_core.specs.Merge.{history_of, scene_of}
use Rattle.cx_core.specs.State.{Core, State, instance_of}
use Rattle.core_events.proofs.EventLemmas.{applied, did_here, IfOk-then, step-follows, still_kept}
use Rattle.core_events.proofs.ImageLemmas.{history_few}
use Rattle.cx_core.proofs.ListLemmas.{over_all}
use Rattle.core_events.proofs.events.apply.Goals as goal

pub step-requires-clause-code : goal.step-requires-clause-code
step-requires-clause-code g c =
    let s = c.state.inside in
    let l = c.index_mut-local.result.now in
    let within : c.args.event.now.caller < length s.locals.items = omega (arith, s.locals.ok) in
    c.state.invariant.codes c.args.event.now.caller l (slice_get_read s.locals.items (length s.locals.items) c.args.event.now.caller l refl within c.index_mut-local.ensures.value)

pub invariant_of-state : goal.invariant_of-state
invariant_of-state g c =
    let s = c.state.inside in
    let event = c.args.event.now in
    let l = c.index_mut-local.result.now in
    let step = g.O.Object.step c.args.object.now in
    let reads = g.O.Object.only_reads c.args.object.now in
    let core : Core = record { callers = s.callers.number; lines = s.lines; base = s.base; state = record { words = s.words.items; locals = s.locals.items } } in
    let instance = instance_of core step reads in
    let before : State = record { words = c.deref_mut.result.now; locals = s.locals.items } in
    let within : event.caller < length s.locals.items = omega (arith, s.locals.ok) in
    let at = slice_get_read s.locals.items (length s.locals.items) event.caller l refl within c.index_mut-local.ensures.value in
    let tells = subst (λ (k : Core). (x : Local) → slice_get k.state.locals event.caller ≡ Some x → Tells c.in_ok-facts.facts (instance_of k step reads) (scene_of (instance_of k step reads) k.state) event.kind x) (sym c.state.view_is) c.in_ok-facts.ensures in
    let did = did_here core step reads c.in_ok-facts.facts event c.deref_mut.result.now c.step.new.words l c.step.new.local c.step.result c.deref_mut.ensures.value at tells c.step.ensures.ok in
    let small : s.base.place + length (history_of s.base.place s.locals.items) ≤ 2 ^ 40 =
    history_few s.base.place s.locals.items c.state.invariant.whole.entries (subst (λ (k : Core). k.base.place ≤ 2 ^ 40) (sym c.state.view_is) c.requires.base.place_within) in
    rw (over_all s.words.len c.step.new.words s.words.items (c.step.auto.words ∙ c.deref_mut.ensures.len))
    (still_kept core c.step.new.words event.caller l c.step.new.local c.state.invariant (c.step.auto.words ∙ ap length c.deref_mut.ensures.value) at
    (step-follows c.step.result instance (scene_of instance before) event.kind l c.step.new.local c.step.new.words small did c.step.ensures.err))

pub returns-clause-ok : goal.returns-clause-ok
returns-clause-ok g c =
    let s = c.state.inside in
    let event = c.args.event.now in
    let l = c.index_mut-local.result.now in
    let step = g.O.Object.step c.args.object.now in
    let reads = g.O.Object.only_reads c.args.object.now in
    let core : Core = record { callers = s.callers.number; lines = s.lines; base = s.base; state = record { words = s.words.items; locals = s.locals.items } } in
    let instance = instance_of core step reads in
    let before : State = record { words = c.deref_mut.result.now; locals = s.locals.items } in
    let within : event.caller < length s.locals.items = omega (arith, s.locals.ok) in
    let at = slice_get_read s.locals.items (length s.locals.items) event.caller l refl within c.index_mut-local.ensures.value in
    let tells = subst (λ (k : Core). (x : Local) → slice_get k.state.locals event.caller ≡ Some x → Tells c.in_ok-facts.facts (instance_of k step reads) (scene_of (instance_of k step reads) k.state) event.kind x) (sym c.state.view_is) c.in_ok-facts.ensures in
    let did = did_here core step reads c.in_ok-facts.facts event c.deref_mut.result.now c.step.new.words l c.step.new.local c.step.result c.deref_mut.ensures.value at tells c.step.ensures.ok in
    rw (← c.state.view_is, over_all s.words.len c.step.new.words s.words.items (c.step.auto.words ∙ c.deref_mut.ensures.len), ← c.deref_mut.ensures.value)
    (IfOk-then c.step.result
    (λ made. Did made instance (scene_of instance before) event.kind l c.step.new.local c.step.new.words)
    (λ made. IsMadeOrRefused made instance event before (record { words = c.step.new.words; locals = set before.locals event.caller c.step.new.local }))
    did (λ made d. applied made instance event before c.step.new.words l c.step.new.local at d))
