-- An item of a list after one was put.
use Rattle.std.proofs.Common.{◌≡◌, ◌≢◌, ◌+◌, ◌<◌, ◌⊎◌, ⊎_elim, ℕ, zero, suc, List, [], ◌∷◌, length, take, drop, ◌++◌, set, refl, ap, sym, ◌∙◌, inl, inr, arith, Some}
use Rattle.std.proofs.lemmas.List.{set-get_or, take_at}
use Rattle.std.proofs.lemmas.Option.{get_or_from_slice_get, none-some}
use Rattle.std.specs.List.{slice_get}

-- where an item was put at a place of a list, it stands there
pub slice_get-set_same : {X : Type 0} (xs : List X) (i : ℕ) (y : X) → i < length xs → slice_get (set xs i y) i ≡ Some y
slice_get-set_same [] i y within = absurd (omega arith)
slice_get-set_same (x ∷ xs) zero y within = refl
slice_get-set_same (x ∷ xs) (suc i) y within = slice_get-set_same xs i y (omega arith)

-- putting an item at `i` leaves the item at any other index `k` as it was
pub slice_get-set_other : {X : Type 0} (xs : List X) (i k : ℕ) (y : X) → k ≢ i → slice_get (set xs i y) k ≡ slice_get xs k
slice_get-set_other [] i k y ne = refl
slice_get-set_other (x ∷ xs) zero zero y ne = absurd (ne refl)
slice_get-set_other (x ∷ xs) zero (suc k) y ne = refl
slice_get-set_other (x ∷ xs) (suc i) zero y ne = refl
slice_get-set_other (x ∷ xs) (suc i) (suc k) y ne = slice_get-set_other xs i k y (λ e. ne (ap suc e))

-- to put what is there changes nothing
pub set_here : {X : Type 0} (xs : List X) (i : ℕ) (x : X) → slice_get xs i ≡ Some x → set xs i x ≡ xs
set_here xs i x at = ap (set xs i) (sym (get_or_from_slice_get xs i x x at)) ∙ set-get_or xs i x

-- an item of the first of two lists in a row is the item at its place of both
pub slice_get-append_left : {X : Type 0} (xs ys : List X) (i : ℕ) (x : X) → slice_get xs i ≡ Some x → slice_get (xs ++ ys) i ≡ Some x
slice_get-append_left [] ys i x at = absurd (none-some x at)
slice_get-append_left (z ∷ xs) ys zero x at = at
slice_get-append_left (z ∷ xs) ys (suc i) x at = slice_get-append_left xs ys i x at

-- an item of the second list is one of both in a row
pub slice_get-append_right : {X : Type 0} (xs ys : List X) (k : ℕ) (y : X) → slice_get ys k ≡ Some y → (i : ℕ) × (slice_get (xs ++ ys) i ≡ Some y)
slice_get-append_right [] ys k y at = (k, at)
slice_get-append_right (x ∷ xs) ys k y at = let rest = slice_get-append_right xs ys k y at in (suc rest.0, rest.1)

-- an item of two lists in a row is one of the first or one of the second
pub slice_get-append : {X : Type 0} (xs ys : List X) (i : ℕ) (x : X) → slice_get (xs ++ ys) i ≡ Some x → (slice_get xs i ≡ Some x) ⊎ ((k : ℕ) × (i ≡ length xs + k) × (slice_get ys k ≡ Some x))
slice_get-append [] ys i x at = inr (i, omega arith, at)
slice_get-append (z ∷ xs) ys zero x at = inl at
slice_get-append (z ∷ xs) ys (suc i) x at = ⊎_elim (λ t. inl t) (λ t. inr (t.0, (let q = t.1 in omega arith), t.2)) (slice_get-append xs ys i x at)

-- an item of the front of a list
pub slice_get-take : {X : Type 0} (n : ℕ) (xs : List X) (i : ℕ) (x : X) → slice_get (take n xs) i ≡ Some x → slice_get xs i ≡ Some x
slice_get-take zero xs i x at = absurd (none-some x at)
slice_get-take (suc n) [] i x at = at
slice_get-take (suc n) (y ∷ ys) zero x at = at
slice_get-take (suc n) (y ∷ ys) (suc i) x at = slice_get-take n ys i x at

-- there is an item at each place below the length
pub item_below : {X : Type 0} (xs : List X) (i : ℕ) → i < length xs → (x : X) × (slice_get xs i ≡ Some x)
item_below [] i below = absurd (omega arith)
item_below (x ∷ xs) zero below = (x, refl)
item_below (x ∷ xs) (suc i) below = item_below xs i (omega arith)

-- after a write over all of a list the list is what was written
pub over_all : (n : ℕ) (xs ys : List ℕ) → length xs ≡ n → take n (xs ++ drop (length xs) ys) ≡ xs
over_all n xs ys long = take_at xs (drop (length xs) ys) n long
