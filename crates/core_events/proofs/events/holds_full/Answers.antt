use Rattle.std.proofs.Common.{◌<◌, ◌≡◌, ◌↔◌, ◌∙◌, IsTrue, length, refl, ap, sym, subst, arith, Some}
use Rattle.std.proofs.lemmas.Option.{same_Some, slice_get_read}
use Rattle.std.specs.List.{slice_get}
use Rattle.cx_core.specs.declared.local.Local.{Local}
use Rattle.cx_core.specs.History.{IsFull}
use Rattle.cx_core.specs.Merge.{history_of}
use Rattle.cx_core.specs.Rights.{held_words}
use Rattle.cx_core.specs.State.{Core, Instance}
use Rattle.core_events.proofs.EventLemmas.{IfOk-then}
use Rattle.core_events.proofs.events.holds_full.Goals as goal

pub returns : goal.returns
returns g c =
    let s = c.state.inside in
    let caller = c.args.caller in
    let mine = c.index.result.now in
    let instance : Instance = record { callers = s.callers.number; base = s.base; step = g.O.Object.step c.args.object.now; reads = g.O.Object.only_reads c.args.object.now } in
    let sizes : length s.locals.items ≡ length c.args.state.now.state.locals = ap (λ (core : Core). length core.state.locals) c.state.view_is in
    let within : caller < length s.locals.items = omega (arith, sizes, c.requires.caller) in
    let there : slice_get s.locals.items caller ≡ Some mine = slice_get_read s.locals.items (length s.locals.items) caller mine refl within c.index.ensures in
    rw (← c.state.view_is)
    (IfOk-then c.is_full.result
    (λ full. IsTrue full ↔ IsFull instance (history_of s.base.place c.deref.result.now) c.held_words-words.result.now)
    (λ full. (l : Local) → slice_get s.locals.items caller ≡ Some l → IsTrue full ↔ IsFull instance (history_of s.base.place s.locals.items) (held_words l.exclusive))
    (c.is_full.ensures instance.callers instance.reads)
    (λ full tells l at.
    (let words : c.held_words-words.result.now ≡ held_words l.exclusive = c.held_words-words.ensures ∙ ap (λ (x : Local). held_words x.exclusive) (same_Some mine l (sym there ∙ at)) in
    subst (λ ws. IsTrue full ↔ IsFull instance (history_of s.base.place s.locals.items) ws) words
    (subst (λ ls. IsTrue full ↔ IsFull instance (history_of s.base.place ls) c.held_words-words.result.now) c.deref.ensures.value tells))))
