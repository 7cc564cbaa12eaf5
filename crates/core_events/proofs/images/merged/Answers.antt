use Rattle.std.proofs.Common.{◌≡◌, ◌+◌, ◌-◌, ◌^◌, ◌<◌, ◌++◌, suc, [], ◌∷◌, length, None, Some, Vec, Global, IfSome, ap, sym, subst, ◌∙◌, arith}
use Rattle.std.proofs.lemmas.List.{append-nil}
use Rattle.std.specs.Option.{SomeIff, option_to_list}
use Rattle.cx_core.specs.declared.entry.Entry.{Entry}
use Rattle.cx_core.specs.Merge.{all_own, entry_at, history_of, in_order}
use Rattle.core_events.proofs.ImageLemmas.{in_order_more}
use Rattle.core_events.proofs.images.merged.Goals as goal
use Rattle.core_events.proofs.images.merged.Goals.{in-Some+in_ok-push, in_default}

pub loop-ticket-preserved : goal.loop-ticket-preserved
loop-ticket-preserved c =
    let place = c.args.place in
    let own = all_own c.args.locals.now in
    let ticket = c.loop-ticket.ticket in
    let from = c.loop-ticket.auto.ticket in
    let more : in_order (ticket + 1 - place) place own ≡ in_order (ticket - place) place own ++ option_to_list (entry_at ticket own) =
    (let next : ticket + 1 - place ≡ suc (ticket - place) = omega arith in
    let at : place + (ticket - place) ≡ ticket = omega arith in
    ap (λ n. in_order n place own) next ∙ in_order_more (ticket - place) place own ∙ ap (λ t. in_order (ticket - place) place own ++ option_to_list (entry_at t own)) at) in
    elim c.match-entry_of.branch [
      | in-Some+in_ok-push w ↦ (
          let found : entry_at ticket own ≡ Some w.in-Some.entry = sym c.entry_of.ensures ∙ w.in-Some.is in
          ap (λ (v : Vec Entry Global). v.items) w.history-is ∙ w.in_ok-push.ensures.items ∙ ap (λ es. es ++ w.in-Some.entry ∷ []) c.loop-ticket.invariant
          ∙ sym (more ∙ ap (λ o. in_order (ticket - place) place own ++ option_to_list o) found))
      | in_default w ↦ (
          let none : entry_at ticket own ≡ None = sym c.entry_of.ensures ∙ w.in_default.is in
          ap (λ (v : Vec Entry Global). v.items) w.history-is ∙ c.loop-ticket.invariant
          ∙ sym (more ∙ ap (λ o. in_order (ticket - place) place own ++ option_to_list o) none ∙ append-nil (in_order (ticket - place) place own)))
    ]

pub returns : goal.returns
unfolding history_of
returns c =
    let place = c.args.place in
    let own = all_own c.args.locals.now in
    let count : c.in_ok-count.count ≡ length own = subst (λ o. IfSome o (λ count. count ≡ length own)) c.in_ok-count.ensures.ok_part c.own_count.ensures in
    let end_ : c.in_ok-end.end ≡ place + c.in_ok-count.count = (let s = subst (λ o. SomeIff o (place + c.in_ok-count.count < 2 ^ 64) (place + c.in_ok-count.count)) c.in_ok-end.ensures.ok_part c.checked_add.ensures in s.1) in
    let past = c.loop-ticket-test.false in
    let most = c.loop-ticket.auto.ticket-end (omega (arith, end_)) in
    let all : c.loop-ticket.ticket - place ≡ length own = omega (arith, count, end_, past, most) in
    c.loop-ticket.invariant ∙ ap (λ n. in_order n place own) all
