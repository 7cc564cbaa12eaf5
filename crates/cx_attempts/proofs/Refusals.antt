-- The replicas that refused a caller in one pass over all, from its first on, rising with wrap-around.
use Rattle.std.proofs.Common.{◌≡◌, ◌+◌, ◌-◌, ◌*◌, ◌<◌, ◌≤◌, ◌⊎◌, ◌==◌, ◌&&◌, ◌||◌, inl, inr, ℕ, zero, suc, Bool, true, false, cond, All, List, [], ◌∷◌, ◌++◌, refl, ap, sym, subst, ◌∙◌, arith, eq-eqb, eqb-true}
use Rattle.std.proofs.lemmas.Bool.{cases_Bool, cases_lt, cases_order, false≢true}
use Rattle.std.proofs.lemmas.List.Elements.{All-head, All-tail}
use Rattle.std.proofs.lemmas.List.Folds.{list_any-append}
use Rattle.std.specs.List.{list_all, range_with_len}
use Rattle.cx_core.specs.LockEvents.{has_all, is_in, with_number}
use Rattle.cx_core.specs.State.{one_more}
use Rattle.cx_core.proofs.HeldLists.{All-with}
use Rattle.table_invariant.specs.Seats.{Seated}
use Rattle.cx_attempts.specs.Taking.{IsRefusedBy, IsRefusedByAll}
use Rattle.strong_trylock.specs.Held.{all_rights, no_rights}

-- ---- tests of lists of numbers

all_pass : (f : ℕ → Bool) (from n : ℕ) → ((i : ℕ) → from ≤ i → i < from + n → f i ≡ true) → list_all f (range_with_len from n) ≡ true
all_pass f from zero each = refl
all_pass f from (suc n) each =
    ap (λ b. b && list_all f (range_with_len (from + 1) n)) (each from (omega arith) (omega arith))
    ∙ all_pass f (from + 1) n (λ i a b. each i (omega arith) (omega arith))

passes : (f : ℕ → Bool) (from n i : ℕ) → list_all f (range_with_len from n) ≡ true → from ≤ i → i < from + n → f i ≡ true
passes f from zero i all low high = absurd (omega arith)
passes f from (suc n) i all low high =
    elim (cases_Bool (f from)) [
      | inl e ↦ (
          let rest : list_all f (range_with_len (from + 1) n) ≡ true = sym (ap (λ b. b && list_all f (range_with_len (from + 1) n)) e) ∙ all in
          elim (first_or_later i low) [
            | inl is ↦ ap f is ∙ e
            | inr later ↦ passes f (from + 1) n i rest later (omega arith)
          ])
      | inr e ↦ absurd (false≢true (sym (ap (λ b. b && list_all f (range_with_len (from + 1) n)) e) ∙ all))
    ]
  where
    first_or_later : (k : ℕ) → from ≤ k → (k ≡ from) ⊎ (from + 1 ≤ k)
    first_or_later k least = elim (cases_order k from) [
      | inl is ↦ inl is
      | inr apart ↦ elim apart [ inl less ↦ absurd (omega arith) | inr more ↦ inr (omega arith) ]
    ]

-- a number put into a list is in it, and so are those that were
in_last : (xs : List ℕ) (x : ℕ) → is_in (xs ++ x ∷ []) x ≡ true
in_last xs x = list_any-append (λ y. y == x) xs (x ∷ []) ∙ ap (λ b. is_in xs x || (b || false)) (eq-eqb x x refl) ∙ full (is_in xs x)
  where
    full : (b : Bool) → (b || true) ≡ true
    full true = refl
    full false = refl

in_with : (xs : List ℕ) (x : ℕ) → is_in (with_number xs x) x ≡ true
in_with xs x =
    elim (cases_Bool (is_in xs x)) [
      | inl e ↦ ap (λ b. is_in (cond b xs (xs ++ x ∷ [])) x) e ∙ e
      | inr e ↦ ap (λ b. is_in (cond b xs (xs ++ x ∷ [])) x) e ∙ in_last xs x
    ]

in_still : (xs : List ℕ) (x y : ℕ) → is_in xs y ≡ true → is_in (with_number xs x) y ≡ true
in_still xs x y there =
    elim (is_in xs x) as (λ b. is_in (cond b xs (xs ++ x ∷ [])) y ≡ true) [
      | true ↦ there
      | false ↦ list_any-append (λ z. z == y) xs (x ∷ []) ∙ ap (λ b. b || is_in (x ∷ []) y) there
    ]

-- where each number of a list is so, each number found in it is
found_so : (P : ℕ → Type 0) (xs : List ℕ) (x : ℕ) → All P xs → is_in xs x ≡ true → P x
found_so P [] x each there = absurd (false≢true there)
found_so P (y ∷ ys) x each there =
    elim (cases_Bool (y == x)) [
      | inl e ↦ subst P (eqb-true y x e) (All-head P y ys each)
      | inr e ↦ found_so P ys x (All-tail P y ys each) (sym (ap (λ b. b || is_in ys x) e) ∙ there)
    ]

-- ---- one pass

-- x is among the first n of so many numbers, from one on, rising with wrap-around
abbrev pub IsPassed : ℕ → ℕ → ℕ → ℕ → Type 0
IsPassed count first n x = ((first ≤ x) × (x < first + n)) ⊎ ((x < first) × (x + count < first + n))

-- those refused so far are the first n
pub record Refuses (count first n : ℕ) (xs : List ℕ) : Type 0 where
  pub each : All (IsPassed count first n) xs
  pub those : (x : ℕ) → x < count → IsPassed count first n x → is_in xs x ≡ true

-- the next of them
pub record IsNext (count first n r : ℕ) : Type 0 where
  pub below : first + n < count → r ≡ first + n
  pub above : count ≤ first + n → r + count ≡ first + n

module _ (count first : ℕ) (within : first < count) where
  -- a replica `x` among the first `n + 1` of a pass is the last of them, `r`, or among the first `n`
  passed_more : (n r x : ℕ) → n < count → IsNext count first n r → x < count → IsPassed count first (n + 1) x → (x ≡ r) ⊎ IsPassed count first n x
  passed_more n r x small next few passed =
      elim (cases_order x r) [
        | inl is ↦ inl is
        | inr apart ↦ inr (grind (arith, next.below, next.above, passed, apart))
      ]

  next_below : (n r : ℕ) → n < count → IsNext count first n r → r < count
  next_below n r small next = elim (cases_lt (first + n) count) [
    | inl less ↦ (let e = next.below less in omega arith)
    | inr more ↦ (let e = next.above more in omega arith)
  ]

  next_passed : (n r : ℕ) → n < count → IsNext count first n r → IsPassed count first (n + 1) r
  next_passed n r small next = elim (cases_lt (first + n) count) [
    | inl less ↦ (let e = next.below less in inl (omega arith, omega arith))
    | inr more ↦ (let e = next.above more in inr (omega arith, omega arith))
  ]

  still_passed : (n x : ℕ) → IsPassed count first n x → IsPassed count first (n + 1) x
  still_passed n x passed = elim passed [
    | inl h ↦ (let a = h.0 in let b = h.1 in inl (a, omega arith))
    | inr h ↦ (let a = h.0 in let b = h.1 in inr (a, omega arith))
  ]

  next_new : (n r : ℕ) → n < count → IsNext count first n r → IsPassed count first n r → ⊥
  next_new n r small next passed = elim (cases_lt (first + n) count) [
    | inl less ↦ (let e = next.below less in elim passed [ inl h ↦ (let a = h.0 in let b = h.1 in omega arith) | inr h ↦ (let a = h.0 in let b = h.1 in omega arith) ])
    | inr more ↦ (let e = next.above more in elim passed [ inl h ↦ (let a = h.0 in let b = h.1 in omega arith) | inr h ↦ (let a = h.0 in let b = h.1 in omega arith) ])
  ]

  -- one refused more
  pub one_refused : (n r : ℕ) (xs : List ℕ) → n < count → IsNext count first n r → Refuses count first n xs → Refuses count first (n + 1) (with_number xs r)
  one_refused n r xs small next so = record {
    each = All-with (IsPassed count first (n + 1)) xs r (λ k d below. still_passed n _ (so.each k d below)) (next_passed n r small next);
    those = λ x few passed. elim (passed_more n r x small next few passed) [
      | inl is ↦ subst (λ y. is_in (with_number xs r) y ≡ true) (sym is) (in_with xs r)
      | inr before ↦ in_still xs r x (so.those x few before)
    ];
  }

-- before the pass is at its end one is not refused yet, and then all are
pub some_left : (callers first n : ℕ) (xs : List ℕ) → first < 2 * callers → n < 2 * callers → Refuses (2 * callers) first n xs → has_all callers xs ≡ false
some_left callers first n xs within small so =
    elim (cases_Bool (has_all callers xs)) [
      | inl all ↦ (
          let next = next_of in
          let r = next.0 in
          absurd (next_new (2 * callers) first within n r small next.1 (found_so (IsPassed (2 * callers) first n) xs r so.each (passes (is_in xs) 0 (2 * callers) r all (omega arith) (let few = next_below (2 * callers) first within n r small next.1 in omega arith)))))
      | inr e ↦ e
    ]
  where
    next_of : (r : ℕ) × IsNext (2 * callers) first n r
    next_of = elim (cases_lt (first + n) (2 * callers)) [
      | inl less ↦ (first + n, record { below = λ _. refl; above = λ more. absurd (omega arith) })
      | inr more ↦ (first + n - 2 * callers, record { below = λ less. absurd (omega arith); above = λ _. omega arith })
    ]

pub none_left : (callers first : ℕ) (xs : List ℕ) → first < 2 * callers → Refuses (2 * callers) first (2 * callers) xs → has_all callers xs ≡ true
none_left callers first xs within so = all_pass (is_in xs) 0 (2 * callers) (λ x _ few.
    (let small : x < 2 * callers = omega arith in
    so.those x small (elim (cases_lt x first) [ inl less ↦ inr (less, omega arith) | inr more ↦ inl (more, omega arith) ])))

-- ---- the caller's counts over the pass

-- of a caller that tries the replicas in turn, and was refused by n: before the end those are refused, and at the end a refusal
-- is met
pub record IsRefusing (callers first n : ℕ) (before now : Seated) : Type 0 where
  pub rights : all_rights now ≡ no_rights
  pub few : n < 2 * callers → Refuses (2 * callers) first n now.known.local.refused
  pub same : n < 2 * callers → now.known.local.met ≡ before.known.local.met
  pub end : n ≡ 2 * callers → IsRefusedByAll before now

pub refusing_more : (callers first n r : ℕ) (before now after : Seated) → first < 2 * callers → n < 2 * callers → IsNext (2 * callers) first n r → IsRefusing callers first n before now → IsRefusedBy callers r now after → IsRefusing callers first (n + 1) before after
refusing_more callers first n r before now after within small next so by =
    let xs = with_number now.known.local.refused r in
    let more = one_refused (2 * callers) first within n r now.known.local.refused small next (so.few small) in
    record {
      rights = by.rights;
      few = λ left. subst (Refuses (2 * callers) first (n + 1)) (sym (by.refused ∙ ap (λ b. cond b [] xs) (some_left callers first (n + 1) xs within left more))) more;
      same = λ left. by.met ∙ ap (λ b. cond b (one_more now.known.local.met) now.known.local.met) (some_left callers first (n + 1) xs within left more) ∙ so.same small;
      end = λ is. (let all = none_left callers first xs within (subst (λ k. Refuses (2 * callers) first k xs) is more) in
          record {
            rights = by.rights;
            refused = by.refused ∙ ap (λ b. cond b [] xs) all;
            met = by.met ∙ ap (λ b. cond b (one_more now.known.local.met) now.known.local.met) all ∙ ap one_more (so.same small);
          });
    }
