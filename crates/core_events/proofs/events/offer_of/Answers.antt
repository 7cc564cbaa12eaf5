use Rattle.std.proofs.Common.{◌<◌, ◌≡◌, ◌∙◌, length, refl, ap, sym, subst, arith, Some}
use Rattle.std.proofs.lemmas.Option.{same_Some, slice_get_read}
use Rattle.std.specs.List.{slice_get}
use Rattle.core_events.specs.StepFacts.{TellsOfferWord}
use Rattle.cx_core.specs.declared.local.Local.{Local}
use Rattle.cx_core.specs.Merge.{history_of}
use Rattle.cx_core.specs.State.{Core, Instance, Scene}
use Rattle.core_events.proofs.EventLemmas.{IfOk-then}
use Rattle.core_events.proofs.events.offer_of.Goals as goal

pub offered_word-requires-clause-tickets : goal.offered_word-requires-clause-tickets
offered_word-requires-clause-tickets g c = λ i x at.
    let s = c.state.inside in
    let caller = c.args.caller in
    let mine = c.index-local.result.now in
    let sizes : length s.locals.items ≡ length c.args.state.now.state.locals = ap (λ (core : Core). length core.state.locals) c.state.view_is in
    let within : caller < length s.locals.items = omega (arith, sizes, c.requires.caller) in
    let there : slice_get s.locals.items caller ≡ Some mine = slice_get_read s.locals.items (length s.locals.items) caller mine refl within c.index-local.ensures in
    (c.state.invariant.whole.entries caller mine there i x at).1

pub returns : goal.returns
returns g c =
    let s = c.state.inside in
    let caller = c.args.caller in
    let j = c.args.j in
    let mine = c.index-local.result.now in
    let instance : Instance = record { callers = s.callers.number; base = s.base; step = g.O.Object.step c.args.object.now; reads = g.O.Object.only_reads c.args.object.now } in
    let sizes : length s.locals.items ≡ length c.args.state.now.state.locals = ap (λ (core : Core). length core.state.locals) c.state.view_is in
    let within : caller < length s.locals.items = omega (arith, sizes, c.requires.caller) in
    let there : slice_get s.locals.items caller ≡ Some mine = slice_get_read s.locals.items (length s.locals.items) caller mine refl within c.index-local.ensures in
    rw (← c.state.view_is)
    (IfOk-then c.offered_word.result
    (λ word. TellsOfferWord word instance (let scene : Scene = record { history = history_of s.base.place c.deref.result.now; words = s.words.items } in scene) j mine)
    (λ word. (l : Local) → slice_get s.locals.items caller ≡ Some l → TellsOfferWord word instance (let scene : Scene = record { history = history_of s.base.place s.locals.items; words = s.words.items } in scene) j l)
    (c.offered_word.ensures s.callers.number instance.reads s.words.items)
    (λ word tells l at.
    subst (λ x. TellsOfferWord word instance (let scene : Scene = record { history = history_of s.base.place s.locals.items; words = s.words.items } in scene) j x) (same_Some mine l (sym there ∙ at))
    (subst (λ ls. TellsOfferWord word instance (let scene : Scene = record { history = history_of s.base.place ls; words = s.words.items } in scene) j mine) c.deref.ensures.value tells)))
