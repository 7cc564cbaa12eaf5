-- Rights as options, and lists of addresses.
use Rattle.std.proofs.Common.{◌≡◌, ◌≢◌, ◌==◌, ◌<◌, ◌⊎◌, inl, inr, ℕ, zero, suc, Bool, true, false, cond, List, [], ◌∷◌, ◌++◌, length, filter, Option, Some, None, refl, ap, sym, subst, ◌∙◌, arith, eq-eqb, ne_eqb}
use Rattle.std.proofs.lemmas.Bool.{cases_Bool, eqb-true}
use Rattle.std.proofs.lemmas.List.Elements.{All-push, Contains-append_left, Contains-push}
use Rattle.std.proofs.lemmas.Option.{none-some}
use Rattle.std.specs.List.{All, Contains}
use Rattle.std.specs.Option.{IsNone, option_map}
use Rattle.cx_core.specs.LockEvents.{is_in, with_number}
use Rattle.cx_core.specs.Rights.{is_at}

pub is_none : {X : Type 0} (o : Option X) → IsNone o → o ≡ None
is_none None none = refl
is_none (Some x) none = cc

-- whether a right is on a replica says where it is
pub at_true : (r : ℕ) (o : Option ℕ) → is_at r o ≡ true → o ≡ Some r
at_true r None is = cc
at_true r (Some q) is = ap Some (eqb-true q r is)

pub at_false : (r : ℕ) (o : Option ℕ) → is_at r o ≡ false → o ≡ Some r → ⊥
at_false r o is there = (let on : is_at r o ≡ true = ap (is_at r) there ∙ eq-eqb r r refl in cc)

-- what an option holds, where a function of it is known
pub mapped : {X Y : Type 0} (f : X → Y) (o : Option X) (y : Y) → option_map f o ≡ Some y → (x : X) × (o ≡ Some x) × (f x ≡ y)
mapped f None y is = absurd (none-some y is)
mapped f (Some x) y is = (x, refl, same y is)
  where
    same : (y : _) → Some (f x) ≡ Some y → f x ≡ y
    same y is = cc

-- an item of a list is its first one or one of the rest
pub contains_cases : {X : Type 0} (y : X) (ys : List X) (x : X) → Contains (y ∷ ys) x → (y ≡ x) ⊎ Contains ys x
contains_cases y ys x (zero, below, is) = inl is
contains_cases y ys x (suc k, below, is) = inr (k, omega arith, is)

pub contains_rest : {X : Type 0} (y : X) (ys : List X) (x : X) → Contains ys x → Contains (y ∷ ys) x
contains_rest y ys x there = (suc there.0, (let below : there.0 < length ys = there.1 in omega arith), there.2)

pub contains_first : {X : Type 0} (y : X) (ys : List X) (x : X) → y ≡ x → Contains (y ∷ ys) x
contains_first y ys x is = (zero, omega arith, is)

-- an item that passes the test is kept
pub Contains-filter : {X : Type 0} (p : X → Bool) (xs : List X) (x : X) → Contains xs x → p x ≡ true → Contains (filter p xs) x
Contains-filter p [] x there passes = (let below : there.0 < 0 = there.1 in absurd (omega arith))
Contains-filter p (y ∷ ys) x there passes =
    elim (contains_cases y ys x there) [
      | inl e ↦ subst (λ b. Contains (cond b (y ∷ filter p ys) (filter p ys)) x) (sym (ap p e ∙ passes)) (contains_first y (filter p ys) x e)
      | inr later ↦ (
          let rest = Contains-filter p ys x later passes in
          elim (p y) as (λ b. Contains (cond b (y ∷ filter p ys) (filter p ys)) x) [
            | true ↦ contains_rest y (filter p ys) x rest
            | false ↦ rest
          ])
    ]

in_list : (xs : List ℕ) (x : ℕ) → is_in xs x ≡ true → Contains xs x
in_list [] x is = cc
in_list (y ∷ ys) x is =
    elim (cases_Bool (y == x)) [
      | inl e ↦ contains_first y ys x (eqb-true y x e)
      | inr e ↦ contains_rest y ys x (in_list ys x (later e))
    ]
  where
    later : (y == x) ≡ false → is_in ys x ≡ true
    later e = cc

-- a number put into a list is in it, and so are those that were
pub Contains-with : (xs : List ℕ) (x : ℕ) → Contains (with_number xs x) x
Contains-with xs x =
    elim (cases_Bool (is_in xs x)) [
      | inl e ↦ subst (λ b. Contains (cond b xs (xs ++ x ∷ [])) x) (sym e) (in_list xs x e)
      | inr e ↦ subst (λ b. Contains (cond b xs (xs ++ x ∷ [])) x) (sym e) (Contains-push xs x)
    ]

pub Contains-still : (xs : List ℕ) (x y : ℕ) → Contains xs y → Contains (with_number xs x) y
Contains-still xs x y there =
    elim (is_in xs x) as (λ b. Contains (cond b xs (xs ++ x ∷ [])) y) [
      | true ↦ there
      | false ↦ Contains-append_left xs (x ∷ []) y there
    ]

pub All-with : (P : ℕ → Type 0) (xs : List ℕ) (x : ℕ) → All P xs → P x → All P (with_number xs x)
All-with P xs x each here =
    elim (is_in xs x) as (λ b. All P (cond b xs (xs ++ x ∷ []))) [
      | true ↦ each
      | false ↦ All-push P xs x each here
    ]

-- the number that is not another
pub other_passes : (i j : ℕ) → j ≢ i → cond (j == i) false true ≡ true
other_passes i j ne = ap (λ b. cond b false true) (ne_eqb j i ne)
