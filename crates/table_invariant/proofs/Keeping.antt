-- A caller keeps the write set of its own entry, by what it noted. No event is made, and each word of the table stays as it is.
use Rattle.std.proofs.Common.{◌≡◌, ◌≢◌, ◌+◌, ◌<◌, length, inl, inr, ⊎_elim, ℕ, zero, suc, List, [], ◌∷◌, set, slice_index, refl, ap, sym, subst, ◌∙◌, Some}
use Rattle.std.proofs.lemmas.List.{set-get_or}
use Rattle.std.proofs.lemmas.Option.{none-some, same_Some}
use Rattle.std.specs.List.{slice_get}
use mathlib.Core.Option.{some}
use lib.ListN.{get_elem?}
use Rattle.atomic_table.specs.Table as atomic
use Rattle.atomic_table.proofs.Lists.{at_set}
use Rattle.cx_core.specs.Base.{LawfulBase}
use Rattle.cx_core.specs.State.{Instance, State}
use Rattle.cx_core.specs.WriteSet.{IsWriteSetOf}
use Rattle.cx_core.proofs.HistoryLemmas.{ObjectLaws}
use Rattle.cx_core.proofs.ListLemmas.{slice_get-append}
use Rattle.table_invariant.specs.declared.rule.KeptSet.{KeptSet}
use Rattle.table_invariant.specs.declared.rule.Known.{Known}
use Rattle.table_invariant.specs.Offers.{TellsSet}
use Rattle.table_invariant.specs.Rule.{AreImages, IsBehindNotes, IsKnown, KeptHolds, RuleHolds, SetsHold, opening_limited}
use Rattle.table_invariant.specs.Seats.{known_kept}
use Rattle.table_invariant.specs.Steps.{TeachesKept}
use Rattle.table_invariant.specs.Timing.{AreTimes}
use Rattle.table_invariant.proofs.Behind.{behind_notes}
use Rattle.table_invariant.proofs.Keeps.{only_item}
use Rattle.table_invariant.proofs.Offering.{set_of_ticket}

module _ (lines : ℕ) (lawful : List ℕ → Type 0) (instance : Instance) (laws : ObjectLaws lines lawful instance.step) (base : LawfulBase lines lawful instance.base) (s : atomic.State ℕ (List Known)) (id : ℕ) (known : Known) (ticket : ℕ) (pairs : List ℕ)
    (held : RuleHolds instance s) (view : get_elem? s.views id ≡ some (known ∷ [])) (tells : TellsSet lines lawful instance.base instance.step known ticket pairs) where
  abbrev after : Known
  after = known_kept ticket pairs known

  abbrev views' : List (List Known)
  views' = set s.views id (after ∷ [])

  abbrev state : State
  state = record { words = s.words; locals = held.locals }

  mine : IsKnown instance held.law.history held.locals held.place_of id 0 known
  mine = held.each id 0 (known ∷ []) known view refl

  abbrev kept : KeptSet
  kept = record { ticket = ticket; set = pairs }

  only_kept : (m : ℕ) (x : KeptSet) → slice_get (kept ∷ []) m ≡ Some x → kept ≡ x
  only_kept zero x at = same_Some kept x at
  only_kept (suc m) x at = absurd (none-some x at)

  -- the set that is kept is one of its ticket
  kept_of_ticket : (k : KeptSet) → kept ≡ k → (k.ticket < instance.base.place + length held.law.history) × IsWriteSetOf instance held.law.history k.ticket k.set
  kept_of_ticket k is =
      let of_ticket = set_of_ticket lines lawful instance laws base state held.law known mine.local ticket pairs mine.of_caller mine.shows mine.notes mine.traced (held.sets id 0 (known ∷ []) known view refl) (held.own known.local.number mine.local mine.of_caller) tells in
      subst (λ (y : KeptSet). (y.ticket < instance.base.place + length held.law.history) × IsWriteSetOf instance held.law.history y.ticket y.set) is of_ticket

  -- each set kept, also before, is one of its ticket
  kept_holds : KeptHolds instance held.law.history after.kept
  kept_holds t x has = elim (slice_get-append known.kept (kept ∷ []) has.0 _ has.1) [
    | inl old ↦ (held.sets id 0 (known ∷ []) known view refl).kept t x (has.0, old)
    | inr last ↦ kept_of_ticket (record { ticket = t; set = x }) (only_kept last.0 _ last.2)
  ]

  -- the rule holds of the same words
  kept_here : RuleHolds instance (record { words = s.words; homes = s.homes; views = views' })
  kept_here = record {
    locals = held.locals;
    place_of = held.place_of;
    law = held.law;
    reached = held.reached;
    each = λ seat i v k view_at item. ⊎_elim
        (λ (e : (seat ≡ id) × (after ∷ [] ≡ v)). (
        let only = only_item after i k (ap (λ w. slice_get w i) e.1 ∙ item) in
        let here : IsKnown instance held.law.history held.locals held.place_of id 0 after = record { local = mine.local; of_caller = mine.of_caller; shows = mine.shows; only = mine.only; notes = mine.notes; traced = mine.traced } in
        subst (λ n. IsKnown instance held.law.history held.locals held.place_of seat n k) (sym only.0)
        (subst (λ n. IsKnown instance held.law.history held.locals held.place_of n 0 k) (sym e.0)
        (subst (IsKnown instance held.law.history held.locals held.place_of id 0) only.1 here))))
        (λ (e : (seat ≢ id) × (get_elem? s.views seat ≡ some v)). held.each seat i v k e.1 item)
        (at_set s.views id seat (after ∷ []) v view_at);
    times = λ seat i v k view_at item. ⊎_elim
        (λ (e : (seat ≡ id) × (after ∷ [] ≡ v)). (
        let only = only_item after i k (ap (λ w. slice_get w i) e.1 ∙ item) in
        subst (λ (x : Known). AreTimes instance (opening_limited instance held.reached.limits) held.reached.events x.local.number x.local x.times) only.1 (held.times id 0 (known ∷ []) known view refl)))
        (λ (e : (seat ≢ id) × (get_elem? s.views seat ≡ some v)). held.times seat i v k e.1 item)
        (at_set s.views id seat (after ∷ []) v view_at);
    images = λ seat i v k view_at item. ⊎_elim
        (λ (e : (seat ≡ id) × (after ∷ [] ≡ v)). (
        let only = only_item after i k (ap (λ w. slice_get w i) e.1 ∙ item) in
        subst (λ (x : Known). AreImages instance held.law.history x.images) only.1 (held.images id 0 (known ∷ []) known view refl)))
        (λ (e : (seat ≢ id) × (get_elem? s.views seat ≡ some v)). held.images seat i v k e.1 item)
        (at_set s.views id seat (after ∷ []) v view_at);
    own = held.own;
    sets = λ seat i v k view_at item. ⊎_elim
        (λ (e : (seat ≡ id) × (after ∷ [] ≡ v)). (
        let only = only_item after i k (ap (λ w. slice_get w i) e.1 ∙ item) in
        subst (SetsHold instance state held.law.history) only.1 (record { noted = (held.sets id 0 (known ∷ []) known view refl).noted; kept = kept_holds })))
        (λ (e : (seat ≢ id) × (get_elem? s.views seat ≡ some v)). held.sets seat i v k e.1 item)
        (at_set s.views id seat (after ∷ []) v view_at);
    some = held.some;
  }

  -- the rule holds with the set kept, once a word was found and left as it is
  pub kept_held : (word : ℕ) → RuleHolds instance (atomic.stepped s word (slice_index s.words word) id [] (after ∷ []) atomic.keeps)
  kept_held word = subst (λ ws. RuleHolds instance (record { words = ws; homes = s.homes; views = views' })) (sym (set-get_or s.words word 0)) kept_here

  -- what is behind what the caller then knows
  pub kept_behind : IsBehindNotes instance after
  kept_behind =
      behind_notes instance state held.law held.some mine.local after mine.of_caller mine.shows mine.notes mine.traced (record { noted = (held.sets id 0 (known ∷ []) known view refl).noted; kept = kept_holds }) (held.own known.local.number mine.local mine.of_caller)

-- what the table asks of the load at which a set is kept that whatever fits tells to be a write set of its ticket
pub allows_keeping : (lines : ℕ) (lawful : List ℕ → Type 0) (instance : Instance) → ObjectLaws lines lawful instance.step → LawfulBase lines lawful instance.base → (known : Known) (ticket : ℕ) (pairs : List ℕ) (slots id word : ℕ) (me : atomic.Me ℕ (List Known)) →
    me ≡ (known ∷ [], []) → TellsSet lines lawful instance.base instance.step known ticket pairs → atomic.Allows (RuleHolds instance) slots id me word (λ n. n) (λ _ after. TeachesKept instance ticket pairs known after)
allows_keeping lines lawful instance laws base known ticket pairs slots id word me one tells =
    subst (λ m. atomic.Allows (RuleHolds instance) slots id m word (λ n. n) (λ _ after. TeachesKept instance ticket pairs known after)) (sym one) (λ s held homes view fits. (
      known_kept ticket pairs known ∷ [],
      atomic.keeps,
      tt,
      kept_held lines lawful instance laws base s id known ticket pairs held view tells word,
      record { knows = refl; behind = kept_behind lines lawful instance laws base s id known ticket pairs held view tells },
    ))
