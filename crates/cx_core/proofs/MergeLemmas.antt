-- The merge of the own lists by ticket is the history, and what is linked stays linked.
use Rattle.std.proofs.Common.{◌≡◌, ◌≢◌, ◌+◌, ◌-◌, ◌<◌, ◌≤◌, ◌==◌, ℕ, zero, suc, Bool, cond, List, [], ◌∷◌, ◌++◌, length, set, refl, sym, ap, subst, ◌∙◌, inl, inr, arith, Some, length-append, add-zero, nat_lt}
use Rattle.std.proofs.lemmas.Bool.{cases_eq, eq-eqb, ne_eqb}
use Rattle.std.proofs.lemmas.Option.{same_Some, none-some, slice_get_within, slice_get_cases}
use Rattle.std.specs.List.{slice_get}
use Rattle.std.specs.Option.{option_to_list}
use Rattle.cx_core.specs.declared.entry.Entry.{Entry}
use Rattle.cx_core.specs.declared.kinds.Kind.{Kind}
use Rattle.cx_core.specs.declared.kinds.Kind.TheVariants.{Link, TryExclusive, TryShared, BackOff, Publish}
use Rattle.cx_core.specs.declared.local.Linked.{Linked}
use Rattle.cx_core.specs.declared.local.Local.{Local}
use Rattle.cx_core.specs.Events.{next}
use Rattle.cx_core.specs.LockEvents.{exclusive_mark, passing, refused_by, shared_by, taken}
use Rattle.cx_core.specs.Merge.{IsHistory, IsLinked, all_own, entry_at, history_of, in_order, own_of}
use Rattle.cx_core.specs.RootEvents.{outrun, published}
use Rattle.cx_core.specs.QueueEvents.{entry_in, linked, lost, seen_word}
use Rattle.cx_core.specs.Rights.{is_at, shared_on}
use Rattle.cx_core.specs.State.{Instance, Scene}
use Rattle.cx_core.proofs.Putting.{either}
use Rattle.cx_core.proofs.ListLemmas.{item_below, slice_get-append, slice_get-append_left, slice_get-append_right, slice_get-set_same, slice_get-set_other}

-- how many entries n callers have, from one caller on
count_from : ℕ → ℕ → ℕ → List Entry → ℕ
count_from from zero ticket history = 0
count_from from (suc n) ticket history = length (own_of from ticket history) + count_from (from + 1) n ticket history

-- one entry more counts for its caller alone
pub own_other : (caller ticket : ℕ) (entry : Entry) (rest : List Entry) → entry.caller ≢ caller → own_of caller ticket (entry ∷ rest) ≡ own_of caller (ticket + 1) rest
own_other caller ticket entry rest ne =
    ap (λ b. cond b (record { ticket = ticket; entry = entry } ∷ own_of caller (ticket + 1) rest) (own_of caller (ticket + 1) rest)) (ne_eqb entry.caller caller ne)

pub own_mine : (caller ticket : ℕ) (entry : Entry) (rest : List Entry) → entry.caller ≡ caller → own_of caller ticket (entry ∷ rest) ≡ record { ticket = ticket; entry = entry } ∷ own_of caller (ticket + 1) rest
own_mine caller ticket entry rest e =
    ap (λ b. cond b (record { ticket = ticket; entry = entry } ∷ own_of caller (ticket + 1) rest) (own_of caller (ticket + 1) rest)) (eq-eqb entry.caller caller e)

count_none : (from n ticket : ℕ) (entry : Entry) (rest : List Entry) → entry.caller < from → count_from from n ticket (entry ∷ rest) ≡ count_from from n (ticket + 1) rest
unfolding count_from
count_none from zero ticket entry rest out = refl
count_none from (suc n) ticket entry rest out =
    omega (arith, count_none (from + 1) n ticket entry rest (omega arith), ap length (own_other from ticket entry rest (λ e. omega arith)))

count_one : (from n ticket : ℕ) (entry : Entry) (rest : List Entry) → from ≤ entry.caller → entry.caller < from + n → count_from from n ticket (entry ∷ rest) ≡ count_from from n (ticket + 1) rest + 1
unfolding count_from
count_one from zero ticket entry rest least below = absurd (omega arith)
count_one from (suc n) ticket entry rest least below =
    elim (cases_eq entry.caller from) [
      | inl e ↦ omega (arith, count_none (from + 1) n ticket entry rest (omega arith), ap length (own_mine from ticket entry rest e))
      | inr ne ↦ omega (arith, count_one (from + 1) n ticket entry rest (omega arith) (omega arith), ap length (own_other from ticket entry rest ne))
    ]

count_nil : (from n ticket : ℕ) → count_from from n ticket [] ≡ 0
unfolding count_from
count_nil from zero ticket = refl
count_nil from (suc n) ticket = omega (arith, count_nil (from + 1) n ticket)

-- the entries of all callers are as many as the history has
count_all : (n ticket : ℕ) (history : List Entry) → ((i : ℕ) (entry : Entry) → slice_get history i ≡ Some entry → entry.caller < n) → count_from 0 n ticket history ≡ length history
count_all n ticket [] of = count_nil 0 n ticket
count_all n ticket (entry ∷ rest) of =
    omega (arith, count_one 0 n ticket entry rest (omega arith) (let b = of 0 entry refl in omega arith), count_all n (ticket + 1) rest (λ i e at. of (suc i) e at))

-- the own lists have as many entries as the callers have in the history
own_counted : (locals : List Local) (from ticket : ℕ) (history : List Entry) → ((i : ℕ) (l : Local) → slice_get locals i ≡ Some l → l.own ≡ own_of (from + i) ticket history) →
    length (all_own locals) ≡ count_from from (length locals) ticket history
unfolding count_from
own_counted [] from ticket history own = refl
own_counted (l ∷ ls) from ticket history own =
    let first : length l.own ≡ length (own_of from ticket history) = ap length (own 0 l refl) ∙ ap (λ k. length (own_of k ticket history)) (add-zero from) in
    let rest = own_counted ls (from + 1) ticket history (λ i x at. own (suc i) x at ∙ ap (λ k. own_of k ticket history) (let e : from + suc i ≡ from + 1 + i = omega arith in e)) in
    length-append l.own (all_own ls) ∙ omega arith

-- there are as many own entries as the history has
pub own_count : (place : ℕ) (history : List Entry) (locals : List Local) → IsHistory place history locals → length (all_own locals) ≡ length history
own_count place history locals merged =
    own_counted locals 0 place history (λ i l at. merged.own i l at ∙ ap (λ k. own_of k place history) (let e : i ≡ 0 + i = omega arith in e))
    ∙ count_all (length locals) place history merged.of_callers

abbrev InPlace : ℕ → List Entry → Linked → Type 0
InPlace ticket history x = (ticket ≤ x.ticket) × (slice_get history (x.ticket - ticket) ≡ Some x.entry)

in_rest : (ticket : ℕ) (entry : Entry) (rest : List Entry) (x : Linked) → InPlace (ticket + 1) rest x → InPlace ticket (entry ∷ rest) x
in_rest ticket entry rest x t =
    let h : ticket + 1 ≤ x.ticket = t.0 in
    let one : suc (x.ticket - (ticket + 1)) ≡ x.ticket - ticket = omega arith in
    (omega arith, subst (λ (k : ℕ). slice_get (entry ∷ rest) k ≡ Some x.entry) one t.1)

own_first : (caller ticket : ℕ) (entry : Entry) (rest : List Entry) (i : ℕ) (x : Linked) →
    ((j : ℕ) → slice_get (own_of caller (ticket + 1) rest) j ≡ Some x → InPlace (ticket + 1) rest x) →
    slice_get (record { ticket = ticket; entry = entry } ∷ own_of caller (ticket + 1) rest) i ≡ Some x → InPlace ticket (entry ∷ rest) x
own_first caller ticket entry rest zero x next at =
    let first : Linked = record { ticket = ticket; entry = entry } in
    let none : 0 ≡ ticket - ticket = omega arith in
    let here : InPlace ticket (entry ∷ rest) first = (omega arith, subst (λ (k : ℕ). slice_get (entry ∷ rest) k ≡ Some entry) none refl) in
    subst (InPlace ticket (entry ∷ rest)) (same_Some first x at) here
own_first caller ticket entry rest (suc j) x next at = in_rest ticket entry rest x (next j at)

-- a linked entry among a caller's own has its place in the history
pub own_at : (caller ticket : ℕ) (history : List Entry) (i : ℕ) (x : Linked) → slice_get (own_of caller ticket history) i ≡ Some x →
    (ticket ≤ x.ticket) × (slice_get history (x.ticket - ticket) ≡ Some x.entry)
own_at caller ticket [] i x at = absurd (none-some x at)
own_at caller ticket (entry ∷ rest) i x at =
    elim (cases_eq entry.caller caller) [
      | inl e ↦ own_first caller ticket entry rest i x (λ j there. own_at caller (ticket + 1) rest j x there) (subst (λ (os : List Linked). slice_get os i ≡ Some x) (own_mine caller ticket entry rest e) at)
      | inr ne ↦ in_rest ticket entry rest x (own_at caller (ticket + 1) rest i x (subst (λ (os : List Linked). slice_get os i ≡ Some x) (own_other caller ticket entry rest ne) at))
    ]

-- an entry of the history is among its caller's own, with no more of them before it than entries
pub has_own : (caller ticket : ℕ) (history : List Entry) (i : ℕ) (entry : Entry) → slice_get history i ≡ Some entry → entry.caller ≡ caller →
    (k : ℕ) × (slice_get (own_of caller ticket history) k ≡ Some (record { ticket = ticket + i; entry = entry })) × (k ≤ i)
has_own caller ticket [] i entry at is = absurd (none-some entry at)
has_own caller ticket (e ∷ rest) zero entry at is =
    let same : e ≡ entry = same_Some e entry at in
    (0, ap (λ os. slice_get os 0) (own_mine caller ticket e rest (ap (λ (x : Entry). x.caller) same ∙ is)) ∙ ap (λ (x : Entry). Some (record { ticket = ticket; entry = x })) same ∙ ap (λ (t : ℕ). Some (record { ticket = t; entry = entry })) (sym (add-zero ticket)), omega arith)
has_own caller ticket (e ∷ rest) (suc i) entry at is =
    let next = has_own caller (ticket + 1) rest i entry at is in
    let same : ticket + 1 + i ≡ ticket + suc i = omega arith in
    let there = next.1 ∙ ap (λ (t : ℕ). Some (record { ticket = t; entry = entry })) same in
    let most : next.0 ≤ i = next.2 in
    elim (cases_eq e.caller caller) [
      | inl mine ↦ (suc next.0, ap (λ os. slice_get os (suc next.0)) (own_mine caller ticket e rest mine) ∙ there, omega arith)
      | inr ne ↦ (next.0, ap (λ os. slice_get os next.0) (own_other caller ticket e rest ne) ∙ there, omega arith)
    ]

-- what is among the own lists of all callers
all_has : (locals : List Local) (c : ℕ) (l : Local) (k : ℕ) (x : Linked) → slice_get locals c ≡ Some l → slice_get l.own k ≡ Some x → (j : ℕ) × (slice_get (all_own locals) j ≡ Some x)
all_has [] c l k x at there = absurd (none-some l at)
all_has (z ∷ ls) zero l k x at there = (k, slice_get-append_left z.own (all_own ls) k x (subst (λ (y : Local). slice_get y.own k ≡ Some x) (sym (same_Some z l at)) there))
all_has (z ∷ ls) (suc c) l k x at there = let r = all_has ls c l k x at there in slice_get-append_right z.own (all_own ls) r.0 x r.1

all_only : (locals : List Local) (j : ℕ) (x : Linked) → slice_get (all_own locals) j ≡ Some x → (c : ℕ) × (l : Local) × (k : ℕ) × (slice_get locals c ≡ Some l) × (slice_get l.own k ≡ Some x)
all_only [] j x at = absurd (none-some x at)
all_only (z ∷ ls) j x at =
    elim (slice_get-append z.own (all_own ls) j x at) [
      | inl mine ↦ (0, z, j, refl, mine)
      | inr rest ↦ (let r = all_only ls rest.0 x rest.2 in (suc r.0, r.1, r.2, r.3, r.4))
    ]

found_later : (ticket : ℕ) (x : Linked) (xs : List Linked) (entry : Entry) (k : ℕ) → x.ticket ≢ ticket → slice_get (x ∷ xs) k ≡ Some (record { ticket = ticket; entry = entry }) →
    ((j : ℕ) → slice_get xs j ≡ Some (record { ticket = ticket; entry = entry }) → entry_at ticket xs ≡ Some entry) → entry_at ticket xs ≡ Some entry
found_later ticket x xs entry zero ne at next = absurd (ne (ap (λ (y : Linked). y.ticket) (same_Some x (record { ticket = ticket; entry = entry }) at)))
found_later ticket x xs entry (suc j) ne at next = next j at

-- the entry found with a ticket that just one linked entry has
found : (ticket : ℕ) (xs : List Linked) (entry : Entry) (k : ℕ) → slice_get xs k ≡ Some (record { ticket = ticket; entry = entry }) →
    ((j : ℕ) (x : Linked) → slice_get xs j ≡ Some x → x.ticket ≡ ticket → x.entry ≡ entry) → entry_at ticket xs ≡ Some entry
found ticket [] entry k at one = absurd (none-some _ at)
found ticket (x ∷ xs) entry k at one =
    let P : Bool → Type 0 = λ b. cond b (Some x.entry) (entry_at ticket xs) ≡ Some entry in
    elim (cases_eq x.ticket ticket) [
      | inl e ↦ subst P (sym (eq-eqb x.ticket ticket e)) (ap Some (one 0 x refl e))
      | inr ne ↦ subst P (sym (ne_eqb x.ticket ticket ne)) (found_later ticket x xs entry k ne at (λ j at'. found ticket xs entry j at' (λ i y there. one (suc i) y there)))
    ]

-- entries in the order of their tickets
in_order_is : (ticket : ℕ) (xs : List Linked) (history : List Entry) → ((i : ℕ) (entry : Entry) → slice_get history i ≡ Some entry → entry_at (ticket + i) xs ≡ Some entry) →
    in_order (length history) ticket xs ≡ history
in_order_is ticket xs [] at = refl
in_order_is ticket xs (entry ∷ rest) at =
    let first : entry_at ticket xs ≡ Some entry = ap (λ t. entry_at t xs) (sym (add-zero ticket)) ∙ at 0 entry refl in
    let next = in_order_is (ticket + 1) xs rest (λ i e there. ap (λ t. entry_at t xs) (let s : ticket + 1 + i ≡ ticket + suc i = omega arith in s) ∙ at (suc i) e there) in
    ap (λ o. option_to_list o ++ in_order (length rest) (ticket + 1) xs) first ∙ ap (λ es. entry ∷ es) next

-- an entry of a history stands among the own entries of all callers, with its ticket
merged_at : (place : ℕ) (history : List Entry) (locals : List Local) → IsHistory place history locals → (i : ℕ) (entry : Entry) → slice_get history i ≡ Some entry → entry_at (place + i) (all_own locals) ≡ Some entry
merged_at place history locals merged i entry at =
    let xs = all_own locals in
    let caller = item_below locals entry.caller (merged.of_callers i entry at) in
    let mine = has_own entry.caller place history i entry at refl in
    let there = all_has locals entry.caller caller.0 mine.0 (record { ticket = place + i; entry = entry }) caller.1
    (ap (λ os. slice_get os mine.0) (merged.own entry.caller caller.0 caller.1) ∙ mine.1) in
    found (place + i) xs entry there.0 there.1 (λ j x at_j same.
    (let o = all_only locals j x at_j in
    let p = own_at o.0 place history o.2 x (ap (λ os. slice_get os o.2) (sym (merged.own o.0 o.1 o.3)) ∙ o.4) in
    let k : x.ticket - place ≡ i = omega arith in
    same_Some x.entry entry (sym p.1 ∙ ap (slice_get history) k ∙ at)))

-- the merge is the history
pub history_is : (place : ℕ) (history : List Entry) (locals : List Local) → IsHistory place history locals → history_of place locals ≡ history
unfolding history_of
history_is place history locals merged =
    let xs = all_own locals in
    let count : length xs ≡ length history =
    own_counted locals 0 place history (λ i l at. merged.own i l at ∙ ap (λ k. own_of k place history) (let e : i ≡ 0 + i = omega arith in e))
    ∙ count_all (length locals) place history merged.of_callers in
    ap (λ n. in_order n place xs) count
    ∙ in_order_is place xs history (λ i entry at. merged_at place history locals merged i entry at)

-- the own list goes on
abbrev pub GoesOn : Local → Local → Type 0
GoesOn l l' = (i : ℕ) (x : Linked) → slice_get l.own i ≡ Some x → slice_get l'.own i ≡ Some x

-- the own list goes on at each step
pub goes_on : (instance : Instance) (scene : Scene) (kind : Kind) (l : Local) (found : ℕ) → GoesOn l (next instance scene kind l found)
goes_on instance scene (Link j) l found = either (GoesOn l) (found == seen_word l.seen_slot) (linked l j) (lost instance.callers l found)
    (λ n x at. slice_get-append_left l.own (record { ticket = l.front; entry = entry_in l j } ∷ []) n x at)
    (λ _ _ at. at)
goes_on instance scene (TryExclusive r) l found = either (GoesOn l) (found == 0) (taken instance scene r l) (refused_by instance.callers r l found) (λ _ _ at. at) (λ _ _ at. at)
goes_on instance scene (TryShared r) l found = either (GoesOn l) (nat_lt found exclusive_mark) (shared_by r l found) (passing instance.callers r l found) (λ _ _ at. at) (λ _ _ at. at)
goes_on instance scene (BackOff r) l found = either (GoesOn l) (is_at r (shared_on l)) _ _ (λ _ _ at. at) (either (GoesOn l) (is_at r l.passer) _ _ (λ _ _ at. at) (λ _ _ at. at))
goes_on instance scene Publish l found = either (GoesOn l) (found == l.seen_cur) (published instance.callers l) (outrun instance.callers l found) (λ _ _ at. at) (λ _ _ at. at)
goes_on instance scene kind l found = λ _ _ at. at

-- what is linked stays linked where one caller's own list goes on
pub still_linked : (instance : Instance) (place : ℕ) (history history' : List Entry) (locals : List Local) (caller : ℕ) (l l' : Local) →
    IsHistory place history locals → IsHistory place history' (set locals caller l') → slice_get locals caller ≡ Some l → GoesOn l l' →
    (ticket : ℕ) (entry : Entry) → IsLinked place history ticket entry → IsLinked place history' ticket entry
still_linked instance place history history' locals caller l l' before after at goes ticket entry is_linked =
    let by = entry.caller in
    let n = ticket - place in
    let within = before.of_callers n entry is_linked.at in
    let has = has_own by place history n entry is_linked.at refl in
    let from : place ≤ ticket = is_linked.from in
    let same_ticket : place + n ≡ ticket = omega arith in
    elim (slice_get_cases locals by).1 [
      | inl a ↦ (
          let m = a.0 in
          let was : slice_get m.own has.0 ≡ Some (record { ticket = place + n; entry = entry }) = ap (λ xs. slice_get xs has.0) (before.own by m a.2) ∙ has.1 in
          let now : (m' : Local) × (slice_get (set locals caller l') by ≡ Some m') × (slice_get m'.own has.0 ≡ Some (record { ticket = place + n; entry = entry })) = new_own locals caller by l l' m has.0 _ at a.2 goes was in
          let there = own_at by place history' has.0 (record { ticket = place + n; entry = entry }) (sym (ap (λ xs. slice_get xs has.0) (after.own by now.0 now.1)) ∙ now.2) in
          record { from = from; at = subst (λ k. slice_get history' (k - place) ≡ Some entry) same_ticket there.1 })
      | inr b ↦ (let past : length locals ≤ by = b.0 in absurd (omega arith))
    ]
  where
    -- an entry `x` at `i` of the own list of the caller `by` is still there after the local state of `caller` went on from `l` to `l'`
    new_own : (locals : List Local) (caller by : ℕ) (l l' m : Local) (i : ℕ) (x : Linked) → slice_get locals caller ≡ Some l → slice_get locals by ≡ Some m → GoesOn l l' → slice_get m.own i ≡ Some x →
        (m' : Local) × (slice_get (set locals caller l') by ≡ Some m') × (slice_get m'.own i ≡ Some x)
    new_own locals caller by l l' m i x at there goes was =
        elim (cases_eq by caller) [
          | inl e ↦ (
              let is : l ≡ m = same_Some l m (sym at ∙ ap (slice_get locals) (sym e) ∙ there) in
              let put = subst (λ n. slice_get (set locals caller l') n ≡ Some l') (sym e) (slice_get-set_same locals caller l' (slice_get_within locals caller l at)) in
              (l', put, goes i x (ap (λ (y : Local). slice_get y.own i) is ∙ was)))
          | inr ne ↦ (m, slice_get-set_other locals caller by l' ne ∙ there, was)
        ]
