-- The own lists read one entry after another, and what the history of a state has.
use Rattle.std.proofs.Common.{◌≡◌, ◌+◌, ◌-◌, ◌^◌, ◌<◌, ◌≤◌, ◌==◌, inl, inr, ⊎_elim, ℕ, zero, suc, cond, true, false, List, [], ◌∷◌, ◌++◌, length, take, drop, get_or, Some, None, unwrap_or, refl, ap, sym, ◌∙◌, arith, append_assoc, drop-cons}
use Rattle.std.proofs.lemmas.Bool.{cases_eq, cases_lt, eq-eqb, ne_eqb}
use Rattle.std.proofs.lemmas.List.{append-nil}
use Rattle.std.proofs.lemmas.Option.{same_Some, none-some}
use Rattle.std.specs.List.{slice_get}
use Rattle.std.specs.Option.{option_to_list}
use Rattle.cx_core.specs.declared.entry.Entry.{Entry}
use Rattle.cx_core.specs.declared.local.Linked.{Linked}
use Rattle.cx_core.specs.declared.local.Local.{Local}
use Rattle.core_events.specs.Images.{OfCallers}
use Rattle.cx_core.specs.History.{IsFull, full_image, image_from}
use Rattle.cx_core.specs.Region.{place_of}
use Rattle.cx_core.specs.State.{HasEntries, Instance}
use Rattle.cx_core.specs.Merge.{all_own, entry_at, history_of, in_order}
use Rattle.cx_core.proofs.ListLemmas.{slice_get-append, slice_get-take}

-- the rest of a list begins with the item there
drop_at_item : {X : Type 0} (xs : List X) (i : ℕ) (x : X) → i < length xs → x ≡ get_or xs i x → drop i xs ≡ x ∷ drop (i + 1) xs
drop_at_item xs i x below is = drop-cons xs i x below ∙ ap (λ y. y ∷ drop (suc i) xs) (sym is) ∙ ap (λ n. x ∷ drop n xs) (let e : suc i ≡ i + 1 = omega arith in e)

-- the own entries of the callers from one on are those of that caller and then those of the callers after it
pub own_at_drop : (locals : List Local) (i : ℕ) (l : Local) → i < length locals → l ≡ get_or locals i l → all_own (drop i locals) ≡ l.own ++ all_own (drop (i + 1) locals)
own_at_drop locals i l below is = ap all_own (drop_at_item locals i l below is)

-- the entry with a ticket in two lists in a row is that in the second, where the first has none
pub entry_at-append_none : (ticket : ℕ) (xs ys : List Linked) → entry_at ticket xs ≡ None → entry_at ticket (xs ++ ys) ≡ entry_at ticket ys
entry_at-append_none ticket [] ys none = refl
entry_at-append_none ticket (x ∷ xs) ys none =
    (elim (x.ticket == ticket) as (λ b. cond b (Some x.entry) (entry_at ticket xs) ≡ None → cond b (Some x.entry) (entry_at ticket (xs ++ ys)) ≡ entry_at ticket ys) [
      | true ↦ λ some. absurd (none-some x.entry (sym some))
      | false ↦ λ rest. entry_at-append_none ticket xs ys rest
    ]) none

-- the entry with a ticket in two lists in a row is that in the first, where it has one
pub entry_at-append_some : (ticket : ℕ) (xs ys : List Linked) (entry : Entry) → entry_at ticket xs ≡ Some entry → entry_at ticket (xs ++ ys) ≡ Some entry
entry_at-append_some ticket [] ys entry some = absurd (none-some entry some)
entry_at-append_some ticket (x ∷ xs) ys entry some =
    (elim (x.ticket == ticket) as (λ b. cond b (Some x.entry) (entry_at ticket xs) ≡ Some entry → cond b (Some x.entry) (entry_at ticket (xs ++ ys)) ≡ Some entry) [
      | true ↦ λ here. here
      | false ↦ λ rest. entry_at-append_some ticket xs ys entry rest
    ]) some

-- one ticket more at the end
pub in_order_more : (n ticket : ℕ) (xs : List Linked) → in_order (suc n) ticket xs ≡ in_order n ticket xs ++ option_to_list (entry_at (ticket + n) xs)
in_order_more zero ticket xs =
    let here : ticket ≡ ticket + 0 = omega arith in
    append-nil (option_to_list (entry_at ticket xs)) ∙ ap (λ t. option_to_list (entry_at t xs)) here
in_order_more (suc n) ticket xs =
    let next : ticket + 1 + n ≡ ticket + suc n = omega arith in
    ap (λ es. option_to_list (entry_at ticket xs) ++ es) (in_order_more n (ticket + 1) xs ∙ ap (λ t. in_order n (ticket + 1) xs ++ option_to_list (entry_at t xs)) next)
    ∙ sym (append_assoc (option_to_list (entry_at ticket xs)) (in_order n (ticket + 1) xs) (option_to_list (entry_at (ticket + suc n) xs)))

-- an entry found with a ticket is among the linked ones
found_among : (ticket : ℕ) (xs : List Linked) (entry : Entry) → entry_at ticket xs ≡ Some entry → (i : ℕ) × (x : Linked) × (slice_get xs i ≡ Some x) × (x.ticket ≡ ticket) × (x.entry ≡ entry)
found_among ticket [] entry some = absurd (none-some entry some)
found_among ticket (x ∷ xs) entry some =
    elim (cases_eq x.ticket ticket) [
      | inl same ↦ (0, x, refl, same, same_Some x.entry entry (ap (λ b. cond b (Some x.entry) (entry_at ticket xs)) (sym (eq-eqb x.ticket ticket same)) ∙ some))
      | inr apart ↦ (
          let rest = found_among ticket xs entry (ap (λ b. cond b (Some x.entry) (entry_at ticket xs)) (sym (ne_eqb x.ticket ticket apart)) ∙ some) in
          (suc rest.0, rest.1, rest.2, rest.3, rest.4))
    ]

module _ (xs : List Linked) (each : (i : ℕ) (x : Linked) → slice_get xs i ≡ Some x → (x.entry.caller < 8) × (x.ticket < 2 ^ 40)) where
  -- what is in order is of callers that there may be, and below 2^40
  in_order_of : (n ticket i : ℕ) (entry : Entry) → slice_get (in_order n ticket xs) i ≡ Some entry → entry.caller < 8
  in_order_of zero ticket i entry at = absurd (none-some entry at)
  in_order_of (suc n) ticket i entry at =
      (elim (entry_at ticket xs) as (λ o. entry_at ticket xs ≡ o → slice_get (option_to_list o ++ in_order n (ticket + 1) xs) i ≡ Some entry → entry.caller < 8) [
        | None ↦ λ _ there. in_order_of n (ticket + 1) i entry there
        | Some e ↦ λ some there. first ticket i entry e (in_order n (ticket + 1) xs) (λ k at'. in_order_of n (ticket + 1) k entry at') some there
      ]) refl at
    where
      first : (ticket i : ℕ) (entry e : Entry) (rest : List Entry) → ((k : ℕ) → slice_get rest k ≡ Some entry → entry.caller < 8) → entry_at ticket xs ≡ Some e → slice_get (e ∷ rest) i ≡ Some entry → entry.caller < 8
      first ticket zero entry e rest next some there =
          let f = found_among ticket xs e some in
          let c : f.1.entry.caller < 8 = (each f.0 f.1 f.2).0 in
          let is : f.1.entry.caller ≡ entry.caller = ap (λ (x : Entry). x.caller) (f.4 ∙ same_Some e entry there) in
          omega arith
      first ticket (suc i) entry e rest next some there = next i there

  in_order_none : (n ticket : ℕ) → 2 ^ 40 ≤ ticket → length (in_order n ticket xs) ≡ 0
  in_order_none zero ticket past = refl
  in_order_none (suc n) ticket past =
      (elim (entry_at ticket xs) as (λ o. entry_at ticket xs ≡ o → length (option_to_list o ++ in_order n (ticket + 1) xs) ≡ 0) [
        | None ↦ λ _. in_order_none n (ticket + 1) (omega arith)
        | Some e ↦ λ some. (
            let f = found_among ticket xs e some in
            let small : f.1.ticket < 2 ^ 40 = (each f.0 f.1 f.2).1 in
            let same = f.3 in
            absurd (omega arith))
      ]) refl

  in_order_few : (n ticket : ℕ) → ticket ≤ 2 ^ 40 → ticket + length (in_order n ticket xs) ≤ 2 ^ 40
  in_order_few zero ticket below = omega arith
  in_order_few (suc n) ticket below =
      (elim (entry_at ticket xs) as (λ o. entry_at ticket xs ≡ o → ticket + length (option_to_list o ++ in_order n (ticket + 1) xs) ≤ 2 ^ 40) [
        | None ↦ λ none. ⊎_elim
            (λ (less : ticket < 2 ^ 40). (let rest = in_order_few n (ticket + 1) (omega arith) in omega arith))
            (λ (full : 2 ^ 40 ≤ ticket). (let gone = in_order_none n (ticket + 1) (omega arith) in omega (arith, gone)))
            (cases_lt ticket (2 ^ 40))
        | Some e ↦ λ some. (
            let f = found_among ticket xs e some in
            let small : f.1.ticket < 2 ^ 40 = (each f.0 f.1 f.2).1 in
            let same = f.3 in
            let rest = in_order_few n (ticket + 1) (omega arith) in
            omega arith)
      ]) refl

-- the own lists of all callers are of theirs
own_each : (locals : List Local) → HasEntries locals → (i : ℕ) (x : Linked) → slice_get (all_own locals) i ≡ Some x → (x.entry.caller < 8) × (x.ticket < 2 ^ 40)
own_each [] has i x at = absurd (none-some x at)
own_each (l ∷ ls) has i x at =
    elim (slice_get-append l.own (all_own ls) i x at) [
      | inl mine ↦ has 0 l refl i x mine
      | inr rest ↦ own_each ls (λ caller m there. has (suc caller) m there) rest.0 x rest.2
    ]

-- the entries of a history are of callers that there may be
pub history_callers : (place : ℕ) (locals : List Local) → HasEntries locals → OfCallers (history_of place locals)
unfolding history_of
history_callers place locals has i entry at = in_order_of (all_own locals) (own_each locals has) (length (all_own locals)) place i entry at

-- a history ends at most at the place 2^40
pub history_few : (place : ℕ) (locals : List Local) → HasEntries locals → place ≤ 2 ^ 40 → place + length (history_of place locals) ≤ 2 ^ 40
unfolding history_of
history_few place locals has below = in_order_few (all_own locals) (own_each locals has) (length (all_own locals)) place below

-- where all entries of a history are of callers that there may be, so are its first ones
pub take_callers : (n : ℕ) (history : List Entry) → OfCallers history → OfCallers (take n history)
take_callers n history of i entry at = of i entry (slice_get-take n history i entry at)

-- a region is full exactly where it is what the full steps from the base on give
pub full_is : (instance : Instance) (history : List Entry) (region image : List ℕ) → instance.base.place ≤ place_of region → place_of region ≤ instance.base.place + length history →
    image ≡ image_from instance.step instance.base.words (take (place_of region - instance.base.place) history) → (image ≡ region → IsFull instance history region) × (IsFull instance history region → image ≡ region)
unfolding full_image
full_is instance history region image from to is = (
  (λ same. record { from = from; to = to; full = sym same ∙ is }),
  (λ full. is ∙ sym full.full),
)

-- the first word of a region, or 0
pub first_or : (region : List ℕ) → unwrap_or (slice_get region 0) 0 ≡ place_of region
first_or [] = refl
first_or (x ∷ xs) = refl
