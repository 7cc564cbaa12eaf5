-- Lists whose keys rise, what two lists beside one another have, and the items of one client among all.
use Rattle.std.proofs.Common.{◌≡◌, ◌≢◌, ℕ, zero, suc, ◌+◌, ◌<◌, ◌≤◌, ◌==◌, Bool, true, false, cond, List, [], ◌∷◌, ◌++◌, length, get_or, map, filter, slice_get, Some, sym, ap, subst, ◌∙◌, refl, inl, inr, ◌⊎◌, ⊎_elim, arith}
use Rattle.std.specs.Prelude.{All, AllPairs, Contains, IsPermutation}
use Rattle.std.specs.List.{AllZip}
use Rattle.std.specs.Option.{option_map}
use Rattle.std.specs.List.Sorted.{IsNonDecreasingBy, IsStrictlyIncreasing}
use Rattle.std.proofs.lemmas.Bool.{cases_eq, eq-eqb, ne_eqb}
use Rattle.std.proofs.lemmas.List.{append-nil}
use Rattle.std.proofs.lemmas.List.Elements.{All-head, All-tail, All-cons, All-nil, filter-append}
use Rattle.std.proofs.lemmas.List.Sorted.{Contains-permutation}
use Rattle.std.proofs.lemmas.Option.{same_Some, none-some, slice_get_within, slice_get_read, slice_get-map, get_or_from_slice_get}
use Rattle.cx_core.proofs.ListLemmas.{item_below}

-- an item is among a list
abbrev pub Has : {X : Type 0} → List X → X → Type 0
Has [] z = ⊥
Has (x ∷ xs) z = (x ≡ z) ⊎ Has xs z

-- what holds of each item
abbrev pub Each : {X : Type 0} → (X → Type 0) → List X → Type 0
Each P [] = Unit {0}
Each P (x ∷ xs) = P x × Each P xs

-- the keys rise strictly
abbrev pub Rises : {X : Type 0} → (X → ℕ) → List X → Type 0
Rises key [] = Unit {0}
Rises key (x ∷ xs) = Each (λ y. key x < key y) xs × Rises key xs

-- the keys do not fall
abbrev pub Climbs : {X : Type 0} → (X → ℕ) → List X → Type 0
Climbs key [] = Unit {0}
Climbs key (x ∷ xs) = Each (λ y. key x ≤ key y) xs × Climbs key xs

-- what holds of each item holds of one that is among them
pub each_has : {X : Type 0} (P : X → Type 0) (xs : List X) (z : X) → Each P xs → Has xs z → P z
each_has P [] z e h = absurd h
each_has P (x ∷ xs) z e (inl s) = subst P s e.0
each_has P (x ∷ xs) z e (inr h) = each_has P xs z e.1 h

pub each_filter : {X : Type 0} (P : X → Type 0) (p : X → Bool) (xs : List X) → Each P xs → Each P (filter p xs)
each_filter P p [] e = tt
each_filter P p (x ∷ xs) e =
    elim (p x) as (λ b. Each P (cond b (x ∷ filter p xs) (filter p xs))) [
      | true ↦ (e.0, each_filter P p xs e.1)
      | false ↦ each_filter P p xs e.1
    ]

pub rises_filter : {X : Type 0} (key : X → ℕ) (p : X → Bool) (xs : List X) → Rises key xs → Rises key (filter p xs)
rises_filter key p [] r = tt
rises_filter key p (x ∷ xs) r =
    elim (p x) as (λ b. Rises key (cond b (x ∷ filter p xs) (filter p xs))) [
      | true ↦ (each_filter (λ y. key x < key y) p xs r.0, rises_filter key p xs r.1)
      | false ↦ rises_filter key p xs r.1
    ]

-- an item that passes the test stays among those that do
pub has_filter : {X : Type 0} (p : X → Bool) (xs : List X) (z : X) → Has xs z → p z ≡ true → Has (filter p xs) z
has_filter p [] z h is = absurd h
has_filter {X} p (x ∷ xs) z (inl s) is =
    subst (λ b. Has (cond b (x ∷ filter p xs) (filter p xs)) z) (sym (ap p s ∙ is)) (inl s)
has_filter p (x ∷ xs) z (inr h) is =
    let rest = has_filter p xs z h is in
    elim (p x) as (λ b. Has (cond b (x ∷ filter p xs) (filter p xs)) z) [
      | true ↦ inr rest
      | false ↦ rest
    ]

-- an item `z` of a filtered list is one of the list
pub filter_has : {X : Type 0} (p : X → Bool) (xs : List X) (z : X) → Has (filter p xs) z → Has xs z
filter_has p [] z h = absurd h
filter_has p (x ∷ xs) z h =
    (elim (p x) as (λ b. Has (cond b (x ∷ filter p xs) (filter p xs)) z → (x ≡ z) ⊎ Has xs z) [
      | true ↦ ⊎_elim (λ s. inl s) (λ h. inr (filter_has p xs z h))
      | false ↦ λ h. inr (filter_has p xs z h)
    ]) h

-- an item at an index is among the list
pub has_get : {X : Type 0} (xs : List X) (k : ℕ) (z : X) → slice_get xs k ≡ Some z → Has xs z
has_get [] k z at = absurd (none-some z at)
has_get (x ∷ xs) zero z at = inl (same_Some x z at)
has_get (x ∷ xs) (suc k) z at = inr (has_get xs k z at)

pub get_has : {X : Type 0} (xs : List X) (z : X) → Has xs z → (k : ℕ) × (slice_get xs k ≡ Some z)
get_has [] z h = absurd h
get_has (x ∷ xs) z (inl s) = (0, ap Some s)
get_has (x ∷ xs) z (inr h) = let r = get_has xs z h in (suc r.0, r.1)

pub has_contains : {X : Type 0} (xs : List X) (z : X) → Has xs z → Contains xs z
has_contains xs z h = let r = get_has xs z h in (r.0, slice_get_within xs r.0 z r.1, get_or_from_slice_get xs r.0 z z r.1)

pub contains_has : {X : Type 0} (xs : List X) (z : X) → Contains xs z → Has xs z
contains_has xs z c = has_get xs c.0 z (slice_get_read xs (length xs) c.0 z refl c.1 (sym c.2))

-- a list in another order has the same items
pub has_moved : {X : Type 0} (xs ys : List X) (z : X) → IsPermutation xs ys → Has xs z → Has ys z
has_moved xs ys z p h = contains_has ys z (Contains-permutation xs ys z p (has_contains xs z h))

-- two lists with the same items whose keys rise are one
pub same_items : {X : Type 0} (key : X → ℕ) (xs ys : List X) → Rises key xs → Rises key ys → ((z : X) → Has xs z → Has ys z) → ((z : X) → Has ys z → Has xs z) → xs ≡ ys
same_items key [] [] rx ry to from = refl
same_items key [] (y ∷ ys) rx ry to from = absurd (from y (inl refl))
same_items key (x ∷ xs) [] rx ry to from = absurd (to x (inl refl))
same_items {X} key (x ∷ xs) (y ∷ ys) rx ry to from =
    let heads : x ≡ y = first (to x (inl refl)) (from y (inl refl)) in
    let tails : xs ≡ ys = same_items key xs ys rx.1 ry.1
    (λ z h. later x y xs z ys heads (each_has (λ w. key x < key w) xs z rx.0 h) (to z (inr h)))
    (λ z h. later y x ys z xs (sym heads) (each_has (λ w. key y < key w) ys z ry.0 h) (from z (inr h))) in
    ap (λ w. w ∷ xs) heads ∙ ap (λ ws. y ∷ ws) tails
  where
    first : Has (y ∷ ys) x → Has (x ∷ xs) y → x ≡ y
    first (inl s) h = sym s
    first (inr g) (inl s) = s
    first (inr g) (inr h) =
        let a : key y < key x = each_has (λ w. key y < key w) ys x ry.0 g in
        let b : key x < key y = each_has (λ w. key x < key w) xs y rx.0 h in
        absurd (omega arith)

    -- an item `z` whose key is above that of the first item `v`, which is `u`, is among the rest `vs`
    later : (u v : X) (us : List X) (z : X) (vs : List X) → u ≡ v → key u < key z → Has (v ∷ vs) z → Has vs z
    later u v us z vs e up (inl s) = let same : key u ≡ key z = ap key (e ∙ s) in absurd (omega arith)
    later u v us z vs e up (inr h) = h

-- a list whose numbers do not fall and that has so many numbers in a row has as many items at least
pub room : (n p : ℕ) (xs : List ℕ) → Climbs (λ x. x) xs → ((t : ℕ) → p ≤ t → t < p + n → Has xs t) → n ≤ length xs
room zero p xs c all = omega arith
room (suc n) p [] c all = absurd (all p (omega arith) (omega arith))
room (suc n) p (x ∷ xs) c all =
    elim (cases_eq x p) [
      | inl e ↦ (
          let rest : n ≤ length xs = room n (p + 1) xs c.1 (λ t low high. skip x xs t (λ s. omega arith) (all t (omega arith) (omega arith))) in
          omega arith)
      | inr ne ↦ (
          let rest : suc n ≤ length xs = room_more (suc n) p x xs c ne all (λ h. room (suc n) p xs c.1 h) in
          omega arith)
    ]
  where
    skip : (x : ℕ) (xs : List ℕ) (t : ℕ) → (x ≡ t → ⊥) → Has (x ∷ xs) t → Has xs t
    skip x xs t ne (inl s) = absurd (ne s)
    skip x xs t ne (inr h) = h

    -- where the first number `x` is not `p`, all of the row from `p` on is among the rest `xs`, which is long enough for it
    room_more : (n p x : ℕ) (xs : List ℕ) → Climbs (λ x. x) (x ∷ xs) → x ≢ p → ((t : ℕ) → p ≤ t → t < p + n → Has (x ∷ xs) t) → (((t : ℕ) → p ≤ t → t < p + n → Has xs t) → n ≤ length xs) → n ≤ length xs
    room_more zero p x xs c ne all go = omega arith
    room_more (suc n) p x xs c ne all go =
        let here : Has xs p = skip x xs p ne (all p (omega arith) (omega arith)) in
        let low : x ≤ p = each_has (λ y. x ≤ y) xs p c.0 here in
        go (λ t from below. skip x xs t (λ s. ne (omega arith)) (all t from below))

-- numbers that do not fall, as many as there are in a row that they have, are that row
pub ranged : (p : ℕ) (xs : List ℕ) → Climbs (λ x. x) xs → ((t : ℕ) → p ≤ t → t < p + length xs → Has xs t) → (i x : ℕ) → slice_get xs i ≡ Some x → x ≡ p + i
ranged p [] c all i x at = absurd (none-some x at)
ranged p (y ∷ ys) c all i x at =
    let head : y ≡ p = first in
    at_place i at head (ranged (p + 1) ys c.1 (λ t low high. skip t (λ s. omega arith) (all t (omega arith) (omega arith))))
  where
    skip : (t : ℕ) → (y ≡ t → ⊥) → Has (y ∷ ys) t → Has ys t
    skip t ne (inl s) = absurd (ne s)
    skip t ne (inr h) = h

    first : y ≡ p
    first =
        elim (cases_eq y p) [
          | inl e ↦ e
          | inr ne ↦ (
              let here : Has ys p = skip p ne (all p (omega arith) (omega arith)) in
              let low : y ≤ p = each_has (λ z. y ≤ z) ys p c.0 here in
              let few : suc (length ys) ≤ length ys = room (suc (length ys)) p ys c.1 (λ t from below. skip t (λ s. ne (omega arith)) (all t from below)) in
              absurd (omega arith))
        ]

    at_place : (i : ℕ) → slice_get (y ∷ ys) i ≡ Some x → y ≡ p → ((i x : ℕ) → slice_get ys i ≡ Some x → x ≡ p + 1 + i) → x ≡ p + i
    at_place zero at head next = let s : y ≡ x = same_Some y x at in omega arith
    at_place (suc i) at head next = let s : x ≡ p + 1 + i = next i x at in omega arith

-- beside an item of one of two lists stands one of the other
pub zip_has : {A B : Type 0} (R : A → B → Type 0) (xs : List A) (ys : List B) (x : A) → AllZip R xs ys → Has xs x → (y : B) × Has ys y × R x y
zip_has R [] ys x z h = absurd h
zip_has R (a ∷ xs) [] x z h = absurd z
zip_has {A} {B} R (a ∷ xs) (b ∷ ys) x z (inl s) = (b, inl refl, subst (λ (w : A). R w b) s z.0)
zip_has R (a ∷ xs) (b ∷ ys) x z (inr h) = let r = zip_has R xs ys x z.1 h in (r.0, inr r.1, r.2)

-- beside an item `y` of the second of two lists stands one of the first
pub zip_back : {A B : Type 0} (R : A → B → Type 0) (xs : List A) (ys : List B) (y : B) → AllZip R xs ys → Has ys y → (x : A) × Has xs x × R x y
zip_back R xs [] y z h = absurd h
zip_back R [] (b ∷ ys) y z h = absurd z
zip_back {A} {B} R (a ∷ xs) (b ∷ ys) y z (inl s) = (a, inl refl, subst (λ (w : B). R a w) s z.0)
zip_back R (a ∷ xs) (b ∷ ys) y z (inr h) = let r = zip_back R xs ys y z.1 h in (r.0, inr r.1, r.2)

-- what holds of each item of one list holds of those beside them
pub zip_each : {A B : Type 0} (R : A → B → Type 0) (P : A → Type 0) (Q : B → Type 0) → ((a : A) (b : B) → R a b → P a → Q b) → (xs : List A) (ys : List B) → AllZip R xs ys → Each P xs → Each Q ys
zip_each R P Q f [] [] z e = tt
zip_each R P Q f (a ∷ xs) (b ∷ ys) z e = (f a b z.0 e.0, zip_each R P Q f xs ys z.1 e.1)
zip_each R P Q f _ _ z e = absurd z

-- keys that rise in one list rise in the other
pub zip_rises : {A B : Type 0} (R : A → B → Type 0) (m : A → ℕ) (n : B → ℕ) → ((a : A) (b : B) → R a b → n b ≡ m a) → (xs : List A) (ys : List B) → AllZip R xs ys → Rises m xs → Rises n ys
zip_rises R m n same [] [] z r = tt
zip_rises R m n same (a ∷ xs) (b ∷ ys) z r =
    (zip_each R (λ x. m a < m x) (λ y. n b < n y) (λ x y h up. let s : n b ≡ m a = same a b z.0 in let t : n y ≡ m x = same x y h in omega arith) xs ys z.1 r.0, zip_rises R m n same xs ys z.1 r.1)
zip_rises R m n same _ _ z r = absurd z

-- what holds of two items beside one another holds of each in the second list
pub zip_all : {A B : Type 0} (R : A → B → Type 0) (Q : B → Type 0) → ((a : A) (b : B) → R a b → Q b) → (xs : List A) (ys : List B) → AllZip R xs ys → Each Q ys
zip_all R Q f [] [] z = tt
zip_all R Q f (a ∷ xs) (b ∷ ys) z = (f a b z.0, zip_all R Q f xs ys z.1)
zip_all R Q f _ _ z = absurd z

-- what holds of an item at each index holds of each
pub each_get : {X : Type 0} (P : X → Type 0) (xs : List X) → ((k : ℕ) (z : X) → slice_get xs k ≡ Some z → P z) → Each P xs
each_get P [] all = tt
each_get P (x ∷ xs) all = (all 0 x refl, each_get P xs (λ k z at. all (suc k) z at))

-- keys in a row rise
pub rises_from : {X : Type 0} (key : X → ℕ) (p : ℕ) (xs : List X) → ((i : ℕ) (x : X) → slice_get xs i ≡ Some x → key x ≡ p + i) → Rises key xs
rises_from key p [] at = tt
rises_from key p (x ∷ xs) at =
    let head : key x ≡ p + 0 = at 0 x refl in (
      each_get (λ y. key x < key y) xs (λ k z there. let s : key z ≡ p + suc k = at (suc k) z there in omega arith),
      rises_from key (p + 1) xs (λ i y there. let s : key y ≡ p + suc i = at (suc i) y there in omega arith),
    )

-- keys that do not fall, as std says it
pub climbs_from : {X : Type 0} (key : X → ℕ) (xs : List X) → IsNonDecreasingBy key xs → Climbs (λ k. k) (map key xs)
climbs_from key [] up = tt
climbs_from {X} key (x ∷ xs) up =
    (each_map xs (λ k d within. up 0 (suc k) d (omega arith) (omega arith)), climbs_from key xs (λ i j d le within. up (suc i) (suc j) d (omega arith) (omega arith)))
  where
    each_map : (ys : List X) → ((k : ℕ) (d : X) → k < length ys → key x ≤ key (get_or ys k d)) → Each (λ n. key x ≤ n) (map key ys)
    each_map [] all = tt
    each_map (y ∷ ys) all = (all 0 y (omega arith), each_map ys (λ k d within. all (suc k) d (omega arith)))

-- the key `k` of an item `z` of a list is among the keys of the list
pub has_map : {X : Type 0} (key : X → ℕ) (xs : List X) (z : X) (k : ℕ) → Has xs z → key z ≡ k → Has (map key xs) k
has_map key [] z k h e = absurd h
has_map key (x ∷ xs) z k (inl s) e = inl (ap key s ∙ e)
has_map key (x ∷ xs) z k (inr h) e = inr (has_map key xs z k h e)

pub length_map : {X Y : Type 0} (f : X → Y) (xs : List X) → length (map f xs) ≡ length xs
length_map f [] = refl
length_map f (x ∷ xs) = ap suc (length_map f xs)

pub all_each : {X : Type 0} (P : X → Type 0) (xs : List X) → Each P xs → All P xs
all_each P [] e = All-nil P
all_each P (x ∷ xs) e = All-cons P x xs e.0 (all_each P xs e.1)

-- where all pass, all stay
pub filter_all : {X : Type 0} (p : X → Bool) (xs : List X) → Each (λ x. p x ≡ true) xs → filter p xs ≡ xs
filter_all p [] e = refl
filter_all p (x ∷ xs) e = ap (λ b. cond b (x ∷ filter p xs) (filter p xs)) e.0 ∙ ap (λ ys. x ∷ ys) (filter_all p xs e.1)

-- where none passes, none stays
pub filter_no : {X : Type 0} (p : X → Bool) (xs : List X) → Each (λ x. p x ≡ false) xs → filter p xs ≡ []
filter_no p [] e = refl
filter_no p (x ∷ xs) e = ap (λ b. cond b (x ∷ filter p xs) (filter p xs)) e.0 ∙ filter_no p xs e.1

pub each_all : {X : Type 0} (P : X → Type 0) (xs : List X) → All P xs → Each P xs
each_all P [] a = tt
each_all P (x ∷ xs) a = (All-head P x xs a, each_all P xs (All-tail P x xs a))

-- of an earlier client the lines stay, and the next one has its own
pub filter_other : {X : Type 0} (client : X → ℕ) (n i : ℕ) (xs mine : List X) → All (λ x. client x < n) xs → Each (λ x. client x ≡ n) mine → i < n → filter (λ x. client x == i) (xs ++ mine) ≡ filter (λ x. client x == i) xs
filter_other client n i xs mine below own less =
    filter-append (λ x. client x == i) xs mine
    ∙ ap (λ ys. filter (λ x. client x == i) xs ++ ys) (filter_no (λ x. client x == i) mine (each_get (λ x. (client x == i) ≡ false) mine (λ k z at. let e : client z ≡ n = each_has (λ x. client x ≡ n) mine z own (has_get mine k z at) in ne_eqb (client z) i (λ s. omega arith))))
    ∙ append-nil (filter (λ x. client x == i) xs)

pub filter_mine : {X : Type 0} (client : X → ℕ) (n : ℕ) (xs mine : List X) → All (λ x. client x < n) xs → Each (λ x. client x ≡ n) mine → filter (λ x. client x == n) (xs ++ mine) ≡ mine
filter_mine client n xs mine below own =
    filter-append (λ x. client x == n) xs mine
    ∙ ap (λ ys. ys ++ filter (λ x. client x == n) mine) (filter_no (λ x. client x == n) xs (each_get (λ x. (client x == n) ≡ false) xs (λ k z at. let e : client z < n = each_has (λ x. client x < n) xs z (each_all (λ x. client x < n) xs below) (has_get xs k z at) in ne_eqb (client z) n (λ s. omega arith))))
    ∙ filter_all (λ x. client x == n) mine (each_get (λ x. (client x == n) ≡ true) mine (λ k z at. eq-eqb (client z) n (each_has (λ x. client x ≡ n) mine z own (has_get mine k z at))))

pub each_append : {X : Type 0} (P : X → Type 0) (us vs : List X) → Each P us → Each P vs → Each P (us ++ vs)
each_append P [] vs e f = f
each_append P (u ∷ us) vs e f = (e.0, each_append P us vs e.1 f)

-- an item that stands before all others in order
pub pairs_cons : {X : Type 0} (R : X → X → Type 0) (x : X) (xs : List X) → Each (R x) xs → AllPairs R xs → AllPairs R (x ∷ xs)
pairs_cons R x xs head rest zero (suc j) d up within = all_each (R x) xs head j d (omega arith)
pairs_cons R x xs head rest (suc i) (suc j) d up within = rest i j d (omega arith) (omega arith)
pairs_cons R x xs head rest _ zero d up within = absurd (omega arith)

-- of a list whose items stand in order the first stands before each other
pub pairs_head : {X : Type 0} (R : X → X → Type 0) (x : X) (xs : List X) → AllPairs R (x ∷ xs) → Each (R x) xs
pairs_head R x xs a = each_get (R x) xs (λ k z at. subst (R x) (get_or_from_slice_get xs k z z at) (a 0 (suc k) z (omega arith) (let w = slice_get_within xs k z at in omega arith)))

-- where `R` holds of all pairs of a list in their order, it holds of those behind its first item `x`
pub pairs_tail : {X : Type 0} (R : X → X → Type 0) (x : X) (xs : List X) → AllPairs R (x ∷ xs) → AllPairs R xs
pairs_tail R x xs a i j d up within = a (suc i) (suc j) d (omega arith) (omega arith)

-- the keys of items in their order rise
pub pairs_rise : {X : Type 0} (key : X → ℕ) (xs : List X) → AllPairs (λ a b. key a < key b) xs → Rises key xs
pairs_rise key [] a = tt
pairs_rise key (x ∷ xs) a = (pairs_head (λ a b. key a < key b) x xs a, pairs_rise key xs (pairs_tail (λ a b. key a < key b) x xs a))

pub rises_pairs : {X : Type 0} (key : X → ℕ) (xs : List X) → Rises key xs → AllPairs (λ a b. key a < key b) xs
rises_pairs key [] r = λ i j d up within. absurd (omega arith)
rises_pairs key (x ∷ xs) r = pairs_cons (λ a b. key a < key b) x xs r.0 (rises_pairs key xs r.1)

-- two lists in order stand in order, the first before the second
pub pairs_append : {X : Type 0} (R : X → X → Type 0) (xs ys : List X) → AllPairs R xs → AllPairs R ys → ((x y : X) → Has xs x → Has ys y → R x y) → AllPairs R (xs ++ ys)
pairs_append R [] ys a b c = b
pairs_append R (x ∷ xs) ys a b c =
    pairs_cons R x (xs ++ ys)
    (each_append (R x) xs ys
    (pairs_head R x xs a)
    (each_get (R x) ys (λ k z at. c x z (inl refl) (has_get ys k z at))))
    (pairs_append R xs ys (pairs_tail R x xs a) b (λ u v h g. c u v (inr h) g))

-- the numbers of lines in turn rise
pub strictly_from : {X : Type 0} (f : X → ℕ) (xs : List X) → AllPairs (λ a b. f a < f b) xs → IsStrictlyIncreasing (map f xs)
strictly_from f xs pairs k within =
    let long = length_map f xs in
    let a = item_below xs k (omega arith) in
    let b = item_below xs (k + 1) (omega arith) in
    let x : get_or (map f xs) k 0 ≡ f a.0 = get_or_from_slice_get (map f xs) k (f a.0) 0 (slice_get-map f xs k ∙ ap (option_map f) a.1) in
    let y : get_or (map f xs) (k + 1) 0 ≡ f b.0 = get_or_from_slice_get (map f xs) (k + 1) (f b.0) 0 (slice_get-map f xs (k + 1) ∙ ap (option_map f) b.1) in
    let up : f (get_or xs k a.0) < f (get_or xs (k + 1) a.0) = pairs k (k + 1) a.0 (omega arith) (omega arith) in
    let u : f (get_or xs k a.0) ≡ f a.0 = ap f (get_or_from_slice_get xs k a.0 a.0 a.1) in
    let v : f (get_or xs (k + 1) a.0) ≡ f b.0 = ap f (get_or_from_slice_get xs (k + 1) b.0 a.0 b.1) in
    omega arith
