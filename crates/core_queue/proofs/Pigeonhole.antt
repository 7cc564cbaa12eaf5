-- More keys than places: two keys share a place.
use Rattle.std.proofs.Common.{◌≡◌, ◌≢◌, ◌<◌, ◌≤◌, ◌⊎◌, ℕ, zero, suc, inl, inr, subst, arith}
use Rattle.std.proofs.lemmas.Bool.{cases_eq}

-- the n + 1 keys from 0 to n cannot have places below n such that no two keys share one
pub pigeonhole : (n : ℕ) (R : ℕ → ℕ → Type 0) →
    ((i : ℕ) → i ≤ n → (v : ℕ) × R i v × (v < n)) →
    ((i k v : ℕ) → i ≤ n → k ≤ n → R i v → R k v → i ≡ k) → ⊥
pigeonhole zero R total apart = let last : (total 0 (omega arith)).0 < 0 = (total 0 (omega arith)).2 in omega arith
pigeonhole (suc n) R total apart =
    let last = total (suc n) (omega arith) in
    -- a place n goes to the key that has the last key's place
    pigeonhole n (λ i v. (R i v × (v ≢ n)) ⊎ (R i n × R (suc n) v))
    (λ i le. (
    let t = total i (omega arith) in
    elim (cases_eq t.0 n) [
      | inl e ↦ (
          let at : R i n = subst (R i) e t.1 in
          let ne : last.0 ≢ n = λ same. (
          let both : i ≡ suc n = apart i (suc n) n (omega arith) (omega arith) at (subst (R (suc n)) same last.1) in
          omega arith) in
          let below : last.0 < suc n = last.2 in
          (last.0, inr (at, last.1), omega arith))
      | inr ne ↦ (let below : t.0 < suc n = t.2 in (t.0, inl (t.1, ne), omega arith))
    ]))
    (λ i k v ile kle p q. elim p [
      | inl a ↦ elim q [
        | inl b ↦ apart i k v (omega arith) (omega arith) a.0 b.0
        | inr b ↦ (
            let both : i ≡ suc n = apart i (suc n) v (omega arith) (omega arith) a.0 b.1 in
            absurd (omega arith))
      ]
      | inr a ↦ elim q [
        | inl b ↦ (
            let both : k ≡ suc n = apart k (suc n) v (omega arith) (omega arith) b.0 a.1 in
            absurd (omega arith))
        | inr b ↦ apart i k n (omega arith) (omega arith) a.0 b.0
      ]
    ])
