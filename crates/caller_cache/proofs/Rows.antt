-- Rows of words, one after another.
use Rattle.std.proofs.Common.{◌≡◌, ◌+◌, ◌*◌, ◌<◌, ◌≤◌, inl, inr, ℕ, suc, ap, arith}
use Rattle.std.proofs.Math.Nat.{mul-le-mul_left, mul-suc}
use Rattle.std.proofs.lemmas.Bool.{cases_lt}

-- rows of words do not meet
pub row_before : (n q r : ℕ) → q < r → n * q + n ≤ n * r
row_before n q r below = let m = mul-le-mul_left {m = suc q} {n = r} n (omega (arith, below)) in let e = mul-suc n q in omega (arith, m, e)

-- in rows of `n` words, the word `i` of row `q` and the word `j` of row `r` stand at one place only where they are the same word of one row
pub same_row : (n q r i j : ℕ) → i < n → j < n → n * q + i ≡ n * r + j → (q ≡ r) × (i ≡ j)
same_row n q r i j small below same =
    elim (cases_lt q r) [
      | inl less ↦ (let gap = row_before n q r less in absurd (omega (arith, gap, same)))
      | inr least ↦ elim (cases_lt r q) [
        | inl more ↦ (let gap = row_before n r q more in absurd (omega (arith, gap, same)))
        | inr most ↦ (let e : q ≡ r = omega (arith, least, most) in (e, (let rows = ap (λ k. n * k) e in omega (arith, rows, same))))
      ]
    ]
