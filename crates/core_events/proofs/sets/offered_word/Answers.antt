use Rattle.std.proofs.Common.{◌≡◌, ◌+◌, ℕ, List, Some, ap, sym, subst, ◌∙◌, true≢false}
use Rattle.cx_core.specs.declared.entry.Entry.{Entry}
use Rattle.cx_core.specs.declared.local.Local.{Local}
use Rattle.cx_core.specs.Merge.{history_of}
use Rattle.cx_core.specs.QueueEvents.{cell_of}
use Rattle.cx_core.specs.SetEvents.{CanOffer, CanWriteSet, IsSetAt, offer_of}
use Rattle.cx_core.specs.State.{Instance}
use Rattle.cx_core.specs.WriteSet.{IsWriteSetOf}
use Rattle.core_events.proofs.sets.offered_word.Goals as goal

module _ (instance : Instance) (history : List Entry) (l : Local) (j t : ℕ) (is : (cell_of l j).ticket ≡ Some t) where
  set_of : CanOffer instance history l j → IsWriteSetOf instance history t (cell_of l j).set
  set_of can = subst (λ o. IsSetAt instance history o (cell_of l j).set) is can.1

  offered : CanWriteSet l j → IsWriteSetOf instance history t (cell_of l j).set → CanOffer instance history l j × (t + 1 ≡ offer_of (cell_of l j).ticket (cell_of l j).offer)
  offered can set = ((can, subst (λ o. IsSetAt instance history o (cell_of l j).set) (sym is) set), ap (λ o. offer_of o (cell_of l j).offer) (sym is))

pub returns-then-not-branch : goal.returns-then-not-branch
returns-then-not-branch g c = λ callers reads words can.
    let base = c.args.base.now in
    let instance : Instance = record { callers = callers; base = base; step = g.O.Object.step c.args.object.now; reads = reads } in
    true≢false
    (sym ((c.in_ok-is_set_of.ensures callers reads).1 (set_of instance (history_of base.place c.args.locals.now) c.args.local.now c.args.j c.in-Some.ticket c.in-Some.is can))
    ∙ c.if-not-branch.true)

pub returns : goal.returns
returns g c = λ callers reads words.
    let base = c.args.base.now in
    let instance : Instance = record { callers = callers; base = base; step = g.O.Object.step c.args.object.now; reads = reads } in
    offered instance (history_of base.place c.args.locals.now) c.args.local.now c.args.j c.in-Some.ticket c.in-Some.is
    (c.can_write_set.ensures.0 c.if-not-can_write_set.false)
    ((c.in_ok-is_set_of.ensures callers reads).0 c.if-not-branch.false)
