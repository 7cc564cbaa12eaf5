use Rattle.std.proofs.Common.{◌≡◌, ◌+◌, drop, Some, None, ap, sym, ◌∙◌}
use Rattle.cx_core.specs.Merge.{all_own, entry_at}
use Rattle.core_events.proofs.ImageLemmas.{entry_at-append_none, entry_at-append_some, own_at_drop}
use Rattle.core_events.proofs.images.entry_of.Goals as goal

pub returns-in-Some : goal.returns-in-Some
returns-in-Some c =
    let t = c.args.ticket in
    let ls = c.args.locals.now in
    let l = c.local-item.result in
    let at = own_at_drop ls c.loop-local.local-index l c.loop-local-test.true c.local-item.is in
    let some : entry_at t l.own ≡ Some c.in-Some.entry = ap (entry_at t) (sym c.as_slice.ensures) ∙ sym c.in-Some.ensures in
    sym (c.loop-local.invariant ∙ ap (entry_at t) at ∙ entry_at-append_some t l.own (all_own (drop (c.loop-local.local-index + 1) ls)) c.in-Some.entry some)

pub loop-local-preserved : goal.loop-local-preserved
loop-local-preserved c =
    let t = c.args.ticket in
    let ls = c.args.locals.now in
    let l = c.local-item.result in
    let at = own_at_drop ls c.loop-local.local-index l c.loop-local-test.true c.local-item.is in
    let none : entry_at t l.own ≡ None = ap (entry_at t) (sym c.as_slice.ensures) ∙ sym c.in_default.ensures in
    c.loop-local.invariant ∙ ap (entry_at t) at ∙ entry_at-append_none t l.own (all_own (drop (c.loop-local.local-index + 1) ls)) none
