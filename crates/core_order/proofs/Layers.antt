-- Lists of operations by layers: those with one key, as they stand, and then those with the next.
use Rattle.std.proofs.Common.{◌≡◌, ◌≢◌, ◌+◌, ◌<◌, ◌≤◌, ◌==◌, ◌⊎◌, inl, inr, ℕ, zero, suc, cond, List, [], ◌∷◌, ◌++◌, refl, ap, sym, subst, ◌∙◌, arith}
use Rattle.std.proofs.lemmas.Bool.{cases_eq, eq-eqb, ne_eqb}
use Rattle.core_runs.specs.RealTime.{Operation}
use Rattle.core_order.specs.TotalOrder.{IsIn, StandsBefore}

-- ---- lists one behind the other

pub in_left : (xs ys : List Operation) (o : Operation) → IsIn xs o → IsIn (xs ++ ys) o
in_left [] ys o has = absurd has
in_left (x ∷ xs) ys o has = elim has [
  | inl here ↦ inl here
  | inr rest ↦ inr (in_left xs ys o rest)
]

pub in_right : (xs ys : List Operation) (o : Operation) → IsIn ys o → IsIn (xs ++ ys) o
in_right [] ys o has = has
in_right (x ∷ xs) ys o has = inr (in_right xs ys o has)

pub in_either : (xs ys : List Operation) (o : Operation) → IsIn (xs ++ ys) o → IsIn xs o ⊎ IsIn ys o
in_either [] ys o has = inr has
in_either (x ∷ xs) ys o has = elim has [
  | inl here ↦ inl (inl here)
  | inr rest ↦ elim (in_either xs ys o rest) [
    | inl left ↦ inl (inr left)
    | inr right ↦ inr right
  ]
]

pub before_left : (xs ys : List Operation) (a b : Operation) → StandsBefore xs a b → StandsBefore (xs ++ ys) a b
before_left [] ys a b is = absurd is
before_left (x ∷ xs) ys a b is = elim is [
  | inl here ↦ inl (here.0, in_left xs ys b here.1)
  | inr rest ↦ inr (before_left xs ys a b rest)
]

pub before_right : (xs ys : List Operation) (a b : Operation) → StandsBefore ys a b → StandsBefore (xs ++ ys) a b
before_right [] ys a b is = is
before_right (x ∷ xs) ys a b is = inr (before_right xs ys a b is)

pub before_across : (xs ys : List Operation) (a b : Operation) → IsIn xs a → IsIn ys b → StandsBefore (xs ++ ys) a b
before_across [] ys a b has other = absurd has
before_across (x ∷ xs) ys a b has other = elim has [
  | inl here ↦ inl (here, in_right xs ys b other)
  | inr rest ↦ inr (before_across xs ys a b rest other)
]

pub before_parts : (xs ys : List Operation) (a b : Operation) → StandsBefore (xs ++ ys) a b → StandsBefore xs a b ⊎ (StandsBefore ys a b ⊎ (IsIn xs a × IsIn ys b))
before_parts [] ys a b is = inr (inl is)
before_parts (x ∷ xs) ys a b is = elim is [
  | inl here ↦ elim (in_either xs ys b here.1) [
    | inl left ↦ inl (inl (here.0, left))
    | inr right ↦ inr (inr (inl here.0, right))
  ]
  | inr rest ↦ elim (before_parts xs ys a b rest) [
    | inl left ↦ inl (inr left)
    | inr other ↦ elim other [
      | inl right ↦ inr (inl right)
      | inr across ↦ inr (inr (inr across.0, across.1))
    ]
  ]
]

-- ---- those with one key

module _ (key : Operation → ℕ) where
  abbrev pub only_at : ℕ → List Operation → List Operation
  only_at k [] = []
  only_at k (x ∷ xs) = cond (key x == k) (x ∷ only_at k xs) (only_at k xs)

  only_mine : (k : ℕ) (x : Operation) (xs : List Operation) → key x ≡ k → only_at k (x ∷ xs) ≡ x ∷ only_at k xs
  only_mine k x xs is = ap (λ b. cond b (x ∷ only_at k xs) (only_at k xs)) (eq-eqb (key x) k is)

  only_other : (k : ℕ) (x : Operation) (xs : List Operation) → key x ≢ k → only_at k (x ∷ xs) ≡ only_at k xs
  only_other k x xs ne = ap (λ b. cond b (x ∷ only_at k xs) (only_at k xs)) (ne_eqb (key x) k ne)

  pub in_only : (k : ℕ) (xs : List Operation) (o : Operation) → IsIn xs o → key o ≡ k → IsIn (only_at k xs) o
  in_only k [] o has is = absurd has
  in_only k (x ∷ xs) o has is = elim has [
    | inl here ↦ subst (λ ys. IsIn ys o) (sym (only_mine k x xs (ap key (sym here) ∙ is))) (inl here)
    | inr rest ↦ elim (cases_eq (key x) k) [
      | inl mine ↦ subst (λ ys. IsIn ys o) (sym (only_mine k x xs mine)) (inr (in_only k xs o rest is))
      | inr ne ↦ subst (λ ys. IsIn ys o) (sym (only_other k x xs ne)) (in_only k xs o rest is)
    ]
  ]

  pub of_only : (k : ℕ) (xs : List Operation) (o : Operation) → IsIn (only_at k xs) o → IsIn xs o × (key o ≡ k)
  of_only k [] o has = absurd has
  of_only k (x ∷ xs) o has = elim (cases_eq (key x) k) [
    | inl mine ↦ (
        let parts : IsIn (x ∷ only_at k xs) o = subst (λ ys. IsIn ys o) (only_mine k x xs mine) has in
        elim parts [
          | inl here ↦ (inl here, ap key here ∙ mine)
          | inr rest ↦ (let r = of_only k xs o rest in (inr r.0, r.1))
        ])
    | inr ne ↦ (let r = of_only k xs o (subst (λ ys. IsIn ys o) (only_other k x xs ne) has) in (inr r.0, r.1))
  ]

  -- of two operations with the key `k`, the one that stands before the other in a list does so in the list's layer of that key
  pub before_only : (k : ℕ) (xs : List Operation) (a b : Operation) → StandsBefore xs a b → key a ≡ k → key b ≡ k → StandsBefore (only_at k xs) a b
  before_only k [] a b is at_a at_b = absurd is
  before_only k (x ∷ xs) a b is at_a at_b = elim is [
    | inl here ↦ subst (λ ys. StandsBefore ys a b) (sym (only_mine k x xs (ap key (sym here.0) ∙ at_a))) (inl (here.0, in_only k xs b here.1 at_b))
    | inr rest ↦ elim (cases_eq (key x) k) [
      | inl mine ↦ subst (λ ys. StandsBefore ys a b) (sym (only_mine k x xs mine)) (inr (before_only k xs a b rest at_a at_b))
      | inr ne ↦ subst (λ ys. StandsBefore ys a b) (sym (only_other k x xs ne)) (before_only k xs a b rest at_a at_b)
    ]
  ]

  -- an operation that stands before another in a list's layer of the key `k` stands before it in the list
  pub only_before : (k : ℕ) (xs : List Operation) (a b : Operation) → StandsBefore (only_at k xs) a b → StandsBefore xs a b
  only_before k [] a b is = absurd is
  only_before k (x ∷ xs) a b is = elim (cases_eq (key x) k) [
    | inl mine ↦ (
        let parts : StandsBefore (x ∷ only_at k xs) a b = subst (λ ys. StandsBefore ys a b) (only_mine k x xs mine) is in
        elim parts [
          | inl here ↦ inl (here.0, (of_only k xs b here.1).0)
          | inr rest ↦ inr (only_before k xs a b rest)
        ])
    | inr ne ↦ inr (only_before k xs a b (subst (λ ys. StandsBefore ys a b) (only_other k x xs ne) is))
  ]

  -- ---- by layers, of this many keys from one on

  abbrev pub layers : ℕ → ℕ → List Operation → List Operation
  layers k zero xs = []
  layers k (suc n) xs = only_at k xs ++ layers (k + 1) n xs

  pub in_layers : (n k : ℕ) (xs : List Operation) (o : Operation) → IsIn xs o → k ≤ key o → key o < k + n → IsIn (layers k n xs) o
  in_layers zero k xs o has from to = absurd (omega (arith, from, to))
  in_layers (suc n) k xs o has from to = elim (cases_eq (key o) k) [
    | inl here ↦ in_left (only_at k xs) (layers (k + 1) n xs) o (in_only k xs o has here)
    | inr ne ↦ in_right (only_at k xs) (layers (k + 1) n xs) o (in_layers n (k + 1) xs o has (omega (arith, from, ne)) (omega (arith, to)))
  ]

  pub of_layers : (n k : ℕ) (xs : List Operation) (o : Operation) → IsIn (layers k n xs) o → IsIn xs o × (k ≤ key o)
  of_layers zero k xs o has = absurd has
  of_layers (suc n) k xs o has = elim (in_either (only_at k xs) (layers (k + 1) n xs) o has) [
    | inl here ↦ (let r = of_only k xs o here in let is = r.1 in (r.0, omega (arith, is)))
    | inr rest ↦ (let r = of_layers n (k + 1) xs o rest in let from = r.1 in (r.0, omega (arith, from)))
  ]

  -- in layers one with a lower key stands first, and of two with one key the one that stood first
  pub layers_before : (n k : ℕ) (xs : List Operation) (a b : Operation) → IsIn xs a → IsIn xs b → k ≤ key a → key b < k + n → (key a < key b) ⊎ ((key a ≡ key b) × StandsBefore xs a b) → StandsBefore (layers k n xs) a b
  layers_before zero k xs a b has_a has_b from to first = absurd (elim first [
    | inl less ↦ omega (arith, from, to, less)
    | inr same ↦ (let is = same.0 in omega (arith, from, to, is))
  ])
  layers_before (suc n) k xs a b has_a has_b from to first = elim (cases_eq (key a) k) [
    | inl here ↦ elim first [
      | inl less ↦ before_across (only_at k xs) (layers (k + 1) n xs) a b (in_only k xs a has_a here) (in_layers n (k + 1) xs b has_b (omega (arith, here, less)) (omega (arith, to)))
      | inr same ↦ before_left (only_at k xs) (layers (k + 1) n xs) a b (before_only k xs a b same.1 here (sym same.0 ∙ here))
    ]
    | inr ne ↦ before_right (only_at k xs) (layers (k + 1) n xs) a b (layers_before n (k + 1) xs a b has_a has_b (omega (arith, from, ne)) (omega (arith, to)) first)
  ]

  pub layers_once : (n k : ℕ) (xs : List Operation) (o : Operation) → StandsBefore (layers k n xs) o o → StandsBefore xs o o
  layers_once zero k xs o twice = absurd twice
  layers_once (suc n) k xs o twice = elim (before_parts (only_at k xs) (layers (k + 1) n xs) o o twice) [
    | inl left ↦ only_before k xs o o left
    | inr other ↦ elim other [
      | inl right ↦ layers_once n (k + 1) xs o right
      | inr across ↦ (let is = (of_only k xs o across.0).1 in let from = (of_layers n (k + 1) xs o across.1).1 in absurd (omega (arith, is, from)))
    ]
  ]

-- a list that has one operation alone, once, is that one
pub one_alone : (xs : List Operation) (a : Operation) → IsIn xs a → ((o : Operation) → IsIn xs o → o ≡ a) → ((o : Operation) → StandsBefore xs o o → ⊥) → xs ≡ a ∷ []
one_alone [] a has all once = absurd has
one_alone (x ∷ []) a has all once = ap (λ o. o ∷ []) (all x (inl refl))
one_alone (x ∷ y ∷ xs) a has all once =
    let same : x ≡ y = all x (inl refl) ∙ sym (all y (inr (inl refl))) in
    absurd (once x (inl (refl, inl same)))
