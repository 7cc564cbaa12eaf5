-- Along a run the history goes on, and DUR's place never falls.
use Rattle.std.proofs.Common.{◌≡◌, ◌+◌, ◌==◌, ◌≤◌, inl, inr, ℕ, max, suc, true, false, cond, List, [], ◌∷◌, ◌++◌, Some, length, set, slice_index, ap, sym, subst, ◌∙◌, arith, append_assoc, add-zero}
use Rattle.std.proofs.lemmas.List.{append-nil, get_or-set_other, get_or-set_same}
use Rattle.std.proofs.lemmas.Option.{slice_get_within}
use Rattle.std.specs.List.{slice_get}
use Rattle.cx_core.specs.declared.entry.Entry.{Entry}
use Rattle.cx_core.specs.declared.kinds.Event.{Event}
use Rattle.cx_core.specs.declared.kinds.Kind.{Kind}
use Rattle.cx_core.specs.declared.kinds.Kind.TheVariants.{Raise}
use Rattle.cx_core.specs.declared.local.Linked.{Linked}
use Rattle.cx_core.specs.declared.local.Local.{Local}
use Rattle.cx_core.specs.Events.{Makes, Run, step_word, words_after}
use Rattle.cx_core.specs.Lawful.{Lawful}
use Rattle.cx_core.specs.LawfulAnswers.{durable_place}
use Rattle.cx_core.specs.Layout.{dur_at}
use Rattle.cx_core.specs.Merge.{history_of, own_of}
use Rattle.cx_core.specs.State.{Instance, State}
use Rattle.cx_core.proofs.ListLemmas.{slice_get-append, slice_get-append_left}
use Rattle.cx_core.proofs.MergeLemmas.{history_is, own_at}
use Rattle.cx_core.proofs.RootCodes.{place_up}
use Rattle.core_queue.proofs.Keeps.{queue_event_kept}
use Rattle.core_queue.proofs.QueueFrames.{queue_of}
use Rattle.core_runs.proofs.Keeps.{bounds_of, event_kept}

-- what a history went on by
pub record GoesOn (history history' : List Entry) : Type 0 where
  pub more : List Entry
  pub is : history' ≡ history ++ more

-- two histories of one state are the same
one_history : (instance : Instance) (s s' : State) (law : Lawful instance s) (law' : Lawful instance s') → s' ≡ s → law'.history ≡ law.history
one_history instance s s' law law' same =
    sym (history_is instance.base.place law'.history s'.locals law'.tickets.merged)
    ∙ ap (λ (x : State). history_of instance.base.place x.locals) same
    ∙ history_is instance.base.place law.history s.locals law.tickets.merged

goes_event : (instance : Instance) (event : Event) (before after : State) (law : Lawful instance before) (law' : Lawful instance after) → Makes instance event before after → GoesOn law.history law'.history
goes_event instance event before after law law' made =
    let q = queue_event_kept instance law.history event before after (queue_of law) (bounds_of instance before law) made in
    let same : law'.history ≡ q.after =
    sym (history_is instance.base.place law'.history after.locals law'.tickets.merged) ∙ history_is instance.base.place q.after after.locals q.lawful.tickets.merged in
    record { more = q.continues.more; is = same ∙ q.continues.is }

-- the history of a run's end begins with that of its start
pub goes_run : (instance : Instance) (from : State) (events : List Event) (to : State) (law : Lawful instance from) (law' : Lawful instance to) → Run instance from events to → GoesOn law.history law'.history
goes_run instance from [] to law law' run = record { more = []; is = one_history instance from to law law' run ∙ sym (append-nil law.history) }
goes_run instance from (event ∷ events) to law law' run =
    let next = event_kept instance event from run.0 law run.1 in
    let one = goes_event instance event from run.0 law next run.1 in
    let rest = goes_run instance run.0 events to next law' run.2 in
    record { more = one.more ++ rest.more; is = rest.is ∙ ap (λ (h : List Entry). h ++ rest.more) one.is ∙ append_assoc law.history one.more rest.more }

-- a caller's own entries of two histories one behind the other
own_of-append : (caller ticket : ℕ) (xs ys : List Entry) → own_of caller ticket (xs ++ ys) ≡ own_of caller ticket xs ++ own_of caller (ticket + length xs) ys
own_of-append caller ticket [] ys = ap (λ t. own_of caller t ys) (sym (add-zero ticket))
own_of-append caller ticket (x ∷ xs) ys =
    let rest : own_of caller (ticket + 1) (xs ++ ys) ≡ own_of caller (ticket + 1) xs ++ own_of caller (ticket + suc (length xs)) ys =
    own_of-append caller (ticket + 1) xs ys
    ∙ ap (λ t. own_of caller (ticket + 1) xs ++ own_of caller t ys) (let e : ticket + 1 + length xs ≡ ticket + suc (length xs) = omega arith in e) in
    elim (x.caller == caller) as (λ b.
    cond b (record { ticket = ticket; entry = x } ∷ own_of caller (ticket + 1) (xs ++ ys)) (own_of caller (ticket + 1) (xs ++ ys))
    ≡ cond b (record { ticket = ticket; entry = x } ∷ own_of caller (ticket + 1) xs) (own_of caller (ticket + 1) xs) ++ own_of caller (ticket + suc (length xs)) ys) [
      | true ↦ ap (λ (zs : List Linked). record { ticket = ticket; entry = x } ∷ zs) rest
      | false ↦ rest
    ]

-- an own entry that was there is there, and one that was not is behind the history that was
pub own_stays : (caller place : ℕ) (history more : List Entry) (i : ℕ) (x : Linked) → slice_get (own_of caller place history) i ≡ Some x → slice_get (own_of caller place (history ++ more)) i ≡ Some x
own_stays caller place history more i x at =
    ap (λ (os : List Linked). slice_get os i) (own_of-append caller place history more)
    ∙ slice_get-append_left (own_of caller place history) (own_of caller (place + length history) more) i x at

pub own_later : (caller place : ℕ) (history more : List Entry) (i : ℕ) (x : Linked) → slice_get (own_of caller place (history ++ more)) i ≡ Some x → length (own_of caller place history) ≤ i →
    place + length history ≤ x.ticket
own_later caller place history more i x at past =
    elim (slice_get-append (own_of caller place history) (own_of caller (place + length history) more) i x (ap (λ (os : List Linked). slice_get os i) (sym (own_of-append caller place history more)) ∙ at)) [
      | inl was ↦ (let within = slice_get_within (own_of caller place history) i x was in absurd (omega arith))
      | inr new ↦ (own_at caller (place + length history) more new.0 x new.2).0
    ]

-- DUR's place after a step
durable_kind : (instance : Instance) (kind : Kind) (l : Local) (words : List ℕ) → 1 ≤ instance.callers → 2 ≤ length words → durable_place instance words ≤ durable_place instance (words_after instance kind l words)
durable_kind instance (Raise code read) l words some long =
    let v = max (slice_index words dur_at) code in
    let put : slice_index (set words dur_at v) dur_at ≡ v = get_or-set_same words dur_at v 0 (omega arith) in
    place_up instance.callers (slice_index words dur_at) (slice_index (set words dur_at v) dur_at) some (omega (arith, put))
durable_kind instance kind l words some long =
    let same : slice_index (words_after instance kind l words) dur_at ≡ slice_index words dur_at = get_or-set_other words (step_word instance kind l) dur_at _ 0 (λ e. omega arith) in
    place_up instance.callers (slice_index words dur_at) (slice_index (words_after instance kind l words) dur_at) some (omega (arith, same))

pub durable_event : (instance : Instance) (event : Event) (before after : State) → Lawful instance before → Makes instance event before after → durable_place instance before.words ≤ durable_place instance after.words
durable_event instance event before after law made =
    subst (λ ws. durable_place instance before.words ≤ durable_place instance ws) (sym made.words) (durable_kind instance event.kind made.local before.words law.shape.some (omega (arith, law.shape.long)))
