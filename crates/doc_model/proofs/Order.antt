-- The order of keys, and lists of pairs whose keys rise.
use Rattle.std.proofs.Common.{◌≡◌, ℕ, Bool, true, false, cond, List, [], ◌∷◌, ◌++◌, refl, sym, ap, ◌∙◌, arith}
use Rattle.std.specs.List.{All, AllPairs, filter}
use Rattle.std.specs.Cmp.{IsTotalOrder}
use Rattle.std.specs.Ordering.{nat_cmp, ordering_then, ordering_reverse}
use Rattle.std.specs.declared.cmp.Ordering.{Ordering}
use Rattle.std.specs.declared.cmp.Ordering.TheVariants.{Less, Equal, Greater}
use Rattle.std.proofs.lemmas.Cmp.{nat_list_cmp_total, ranked, tied_itself}
use Rattle.std.proofs.lemmas.List.Elements.{All-cons, All-head, All-tail, All-append, All-filter, All-weaker}
use Rattle.std.proofs.lemmas.List.Kept.{AllPairs-cons}
use Rattle.cx_base.specs.Store.{Store, KeysRise, key_cmp}

-- a pair's key, and what is said of pairs by it
abbrev pub IsBelow : List ℕ → List ℕ × List ℕ → Type 0
IsBelow key p = key_cmp p.0 key ≡ Less

abbrev pub IsAbove : List ℕ → List ℕ × List ℕ → Type 0
IsAbove key p = key_cmp key p.0 ≡ Less

pub key_total : IsTotalOrder key_cmp
key_total = nat_list_cmp_total

-- keys that tie are equal
both_equal : (a b : Ordering) → ordering_then a b ≡ Equal → (a ≡ Equal) × (b ≡ Equal)
both_equal Less b h = cc
both_equal Equal b h = (refl, h)
both_equal Greater b h = cc

pub same_key : (a b : List ℕ) → key_cmp a b ≡ Equal → a ≡ b
same_key [] [] h = refl
same_key [] (y ∷ b) h = cc
same_key (x ∷ a) [] h = cc
same_key (x ∷ a) (y ∷ b) h =
    let parts = both_equal (nat_cmp x y) (key_cmp a b) h in
    let first : x ≡ y = ranked x y Equal (sym parts.0) in
    let rest = same_key a b parts.1 in
    cc

pub ties_itself : (key : List ℕ) → key_cmp key key ≡ Equal
ties_itself key = tied_itself key_total key

-- one key is above another where that one is below
reversed : (o : Ordering) → ordering_reverse o ≡ Less → o ≡ Greater
reversed Less h = cc
reversed Equal h = cc
reversed Greater h = refl

pub above_from_greater : (a b : List ℕ) → key_cmp a b ≡ Greater → key_cmp b a ≡ Less
above_from_greater a b h = key_total.antisymm b a ∙ ap ordering_reverse h

pub greater_from_above : (a b : List ℕ) → key_cmp b a ≡ Less → key_cmp a b ≡ Greater
greater_from_above a b h = reversed (key_cmp a b) (sym (key_total.antisymm b a) ∙ h)

pub below_both : (a b c : List ℕ) → key_cmp a b ≡ Less → key_cmp b c ≡ Less → key_cmp a c ≡ Less
below_both = key_total.trans

-- by places
pub keys_apart : (store : Store) → KeysRise store → AllPairs (λ p q. key_cmp p.0 q.0 ≡ Less) store
keys_apart [] rising = λ i j d lt within. absurd (omega arith)
keys_apart (p ∷ store) rising = AllPairs-cons (λ p q. key_cmp p.0 q.0 ≡ Less) p store rising.0 (keys_apart store rising.1)

-- where the keys of a store rise, so do those of the pairs that a test keeps
pub KeysRise-filter : (test : List ℕ × List ℕ → Bool) (store : Store) → KeysRise store → KeysRise (filter test store)
KeysRise-filter test [] rising = tt
KeysRise-filter test (p ∷ store) rising =
    elim (test p) as (λ b. KeysRise (cond b (p ∷ filter test store) (filter test store))) [
      | true ↦ (All-filter test (λ q. key_cmp p.0 q.0 ≡ Less) store rising.0, KeysRise-filter test store rising.1)
      | false ↦ KeysRise-filter test store rising.1
    ]

-- the keys of two stores in a row rise, where those of each do and some key is above the first store's and below the second's
pub KeysRise-append : (key : List ℕ) (front back : Store) → KeysRise front → KeysRise back → All (IsBelow key) front → All (IsAbove key) back → KeysRise (front ++ back)
KeysRise-append key [] back rises rest below above = rest
KeysRise-append key (p ∷ front) back rises rest below above =
    let first = All-head (IsBelow key) p front below in (
      All-append (λ q. key_cmp p.0 q.0 ≡ Less) front back rises.0
          (All-weaker (IsAbove key) (λ q. key_cmp p.0 q.0 ≡ Less) (λ q h. below_both p.0 key q.0 first h) back above),
      KeysRise-append key front back rises.1 rest (All-tail (IsBelow key) p front below) above,
    )

pub KeysRise-between : (key document : List ℕ) (front back : Store) → KeysRise front → KeysRise back → All (IsBelow key) front → All (IsAbove key) back → KeysRise (front ++ (key, document) ∷ back)
KeysRise-between key document [] back rises rest below above = (above, rest)
KeysRise-between key document (p ∷ front) back rises rest below above =
    let first = All-head (IsBelow key) p front below in (
      All-append (λ q. key_cmp p.0 q.0 ≡ Less) front ((key, document) ∷ back) rises.0
          (All-cons (λ q. key_cmp p.0 q.0 ≡ Less) (key, document) back first
          (All-weaker (IsAbove key) (λ q. key_cmp p.0 q.0 ≡ Less) (λ q h. below_both p.0 key q.0 first h) back above)),
      KeysRise-between key document front back rises.1 rest (All-tail (IsBelow key) p front below) above,
    )

-- a test that passes all keeps all, and one that passes none keeps none
pub filter_all : {A : Type 0} (test : A → Bool) (store : List A) → All (λ p. test p ≡ true) store → filter test store ≡ store
filter_all test [] h = refl
filter_all test (p ∷ store) h = rw (All-head (λ p. test p ≡ true) p store h) (ap (λ s. p ∷ s) (filter_all test store (All-tail (λ p. test p ≡ true) p store h)))

pub filter_none : {A : Type 0} (test : A → Bool) (store : List A) → All (λ p. test p ≡ false) store → filter test store ≡ []
filter_none test [] h = refl
filter_none test (p ∷ store) h = rw (All-head (λ p. test p ≡ false) p store h) (filter_none test store (All-tail (λ p. test p ≡ false) p store h))
