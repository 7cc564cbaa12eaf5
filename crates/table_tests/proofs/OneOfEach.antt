-- A history of two callers, each of which has one entry.
use Rattle.std.proofs.Common.{◌≡◌, ◌≢◌, ◌+◌, ◌<◌, ◌⊎◌, inl, inr, ℕ, zero, suc, List, [], ◌∷◌, length, slice_get, Some, refl, sym, ap, ◌∙◌, arith}
use Rattle.cx_core.specs.declared.entry.Entry.{Entry}
use Rattle.cx_core.specs.declared.local.Linked.{Linked}
use Rattle.cx_core.specs.Merge.{own_of}
use Rattle.cx_core.proofs.MergeLemmas.{own_mine, own_other}
use Rattle.mutation_queue.specs.Tests.{AreInOrder, OneOfEach}

-- each entry of a history is of caller `c` or of caller `d`
abbrev Only : ℕ → ℕ → List Entry → Type 0
Only c d history = (i : ℕ) (entry : Entry) → slice_get history i ≡ Some entry → (entry.caller ≡ c) ⊎ (entry.caller ≡ d)

-- where each entry of a history is of `c` or `d`, so is each behind the first one
later : (c d : ℕ) (entry : Entry) (rest : List Entry) → Only c d (entry ∷ rest) → Only c d rest
later c d entry rest only i x at = only (suc i) x at

-- the first item of a list, or `x` where it is empty
item_of : {A : Type 0} → A → List A → A
item_of x [] = x
item_of x (y ∷ ys) = y

-- the items of a list behind the first one
items_after : {A : Type 0} → List A → List A
items_after [] = []
items_after (y ∷ ys) = ys

-- a caller that has no entry in a history is not the caller of its first entry
not_first : (c ticket : ℕ) (entry : Entry) (rest : List Entry) → own_of c ticket (entry ∷ rest) ≡ [] → entry.caller ≢ c
not_first c ticket entry rest none e =
    let both = ap length (sym (own_mine c ticket entry rest e) ∙ none) in omega arith

-- where the caller `c` of the first entry has one entry `a` in the history, that is the first, and none behind it is of `c`
is_first : (c ticket : ℕ) (entry : Entry) (rest : List Entry) (a : Linked) → entry.caller ≡ c → own_of c ticket (entry ∷ rest) ≡ a ∷ [] →
    (record { ticket = ticket; entry = entry } ≡ a) × (own_of c (ticket + 1) rest ≡ [])
unfolding item_of items_after
is_first c ticket entry rest a e own =
    let both = sym (own_mine c ticket entry rest e) ∙ own in
    (ap (item_of a) both, ap items_after both)

-- a history of two callers in which neither has an entry is empty
neither : (c d ticket : ℕ) (history : List Entry) → Only c d history → own_of c ticket history ≡ [] → own_of d ticket history ≡ [] → history ≡ []
neither c d ticket [] only none_c none_d = refl
neither c d ticket (entry ∷ rest) only none_c none_d =
    elim (only 0 entry refl) [
      | inl e ↦ absurd (not_first c ticket entry rest none_c e)
      | inr e ↦ absurd (not_first d ticket entry rest none_d e)
    ]

-- a history of two callers, in which `d` has the one entry `b` and `c` has none, is `b` alone
alone : (c d ticket : ℕ) (history : List Entry) (b : Linked) → c ≢ d → Only c d history → own_of c ticket history ≡ [] → own_of d ticket history ≡ b ∷ [] →
    (history ≡ b.entry ∷ []) × (b.ticket ≡ ticket)
alone c d ticket [] b apart only none own = (let none_is = ap length own in absurd (omega arith))
alone c d ticket (entry ∷ rest) b apart only none own =
    elim (only 0 entry refl) [
      | inl e ↦ absurd (not_first c ticket entry rest none e)
      | inr e ↦ (
          let first = is_first d ticket entry rest b e own in
          let ended = neither c d (ticket + 1) rest (later c d entry rest only) (sym (own_other c ticket entry rest (λ k. apart (sym k ∙ e))) ∙ none) first.1 in
          (ap (λ (x : Linked). x.entry ∷ rest) first.0 ∙ ap (λ xs. b.entry ∷ xs) ended, ap (λ (x : Linked). x.ticket) (sym first.0)))
    ]

-- where the first entry of a history is of `c`, which has the one entry `a`, and `d` has the one entry `b`, the history is `a` and then `b`
then_other : (c d ticket : ℕ) (entry : Entry) (rest : List Entry) (a b : Linked) → c ≢ d → Only c d rest → entry.caller ≡ c → own_of c ticket (entry ∷ rest) ≡ a ∷ [] → own_of d ticket (entry ∷ rest) ≡ b ∷ [] →
    AreInOrder ticket (entry ∷ rest) a b
then_other c d ticket entry rest a b apart only e own_c own_d =
    let first = is_first c ticket entry rest a e own_c in
    -- the rest of the history is the entry `b` alone
    let last = alone c d (ticket + 1) rest b apart only first.1 (sym (own_other d ticket entry rest (λ k. apart (sym e ∙ k))) ∙ own_d) in
    record {
      entries = ap (λ (x : Linked). x.entry ∷ rest) first.0 ∙ ap (λ xs. a.entry ∷ xs) last.0;
      first = ap (λ (x : Linked). x.ticket) (sym first.0);
      next = last.1;
    }

-- a history of callers `c` and `d` is one of callers `d` and `c`
swap : (c d : ℕ) (history : List Entry) → Only c d history → Only d c history
swap c d history only i x at = elim (only i x at) [ inl e ↦ inr e | inr e ↦ inl e ]

-- a history of two callers, in which each has one entry, has these two entries at the first two tickets, in one of the two orders
first_of : (c d ticket : ℕ) (history : List Entry) (a b : Linked) → c ≢ d → Only c d history → own_of c ticket history ≡ a ∷ [] → own_of d ticket history ≡ b ∷ [] → OneOfEach ticket history a b
first_of c d ticket [] a b apart only own_c own_d = (let none_is = ap length own_c in absurd (omega arith))
first_of c d ticket (entry ∷ rest) a b apart only own_c own_d =
    elim (only 0 entry refl) [
      | inl e ↦ inl (then_other c d ticket entry rest a b apart (later c d entry rest only) e own_c own_d)
      | inr e ↦ inr (then_other d c ticket entry rest b a (λ k. apart (sym k)) (later d c entry rest (swap c d (entry ∷ rest) only)) e own_d own_c)
    ]

-- a number below 2 is 0 or 1
below_two : (n : ℕ) → n < 2 → (n ≡ 0) ⊎ (n ≡ 1)
below_two zero below = inl refl
below_two (suc zero) below = inr refl
below_two (suc (suc n)) below = absurd (omega arith)

-- a history of callers 0 and 1, in which each has one entry, has these two entries at the first two tickets, in one of the two orders
pub one_of_each : (place : ℕ) (history : List Entry) (a b : Linked) → ((i : ℕ) (entry : Entry) → slice_get history i ≡ Some entry → entry.caller < 2) → own_of 0 place history ≡ a ∷ [] → own_of 1 place history ≡ b ∷ [] →
    OneOfEach place history a b
one_of_each place history a b of own_a own_b =
    first_of 0 1 place history a b (λ e. omega arith) (λ i x at. below_two x.caller (of i x at)) own_a own_b
