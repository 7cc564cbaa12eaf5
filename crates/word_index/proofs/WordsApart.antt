-- The first byte at which two words differ.
use Rattle.std.proofs.Common.{◌≡◌, ◌≢◌, ◌+◌, ◌-◌, ◌*◌, ◌/◌, ◌%◌, ◌^◌, ◌<◌, ◌≤◌, ℕ, zero, suc, List, get_or, refl, sym, ap, subst, ◌∙◌, inl, inr, arith}
use Rattle.std.proofs.lemmas.Bool.{cases_lt}
use Rattle.std.proofs.lemmas.Nat.{pow-add, xor_lt}
use Rattle.std.proofs.Math.Nat.{div-div-eq-div-mul}
use Rattle.std.proofs.lemmas.Nat.Bits.{bit_at_cat_low, bit_at_xor, bit_at-lt, bit_at-zero, bit_at-trailing_zeros, same_from_bits, same_from_bits_below}
use Rattle.std.specs.Int.{bit_at, trailing_zeros, w64}
use Rattle.std.specs.Int.Bits.{bit_xor}
use Rattle.cx_base.specs.Packing.{byte_at}
use Rattle.word_index.proofs.KeyOrders.{words_bytes}

-- a bit of a byte of a number
byte_bit : (x k i : ℕ) → i < 8 → bit_at (x / 2 ^ (8 * k) % 256) i ≡ bit_at x (8 * k + i)
byte_bit x k i below =
    let y = x / 2 ^ (8 * k) in
    let whole : y / 256 * 2 ^ 8 + y % 256 ≡ y = omega arith in
    sym (bit_at_cat_low (y / 256) 8 (y % 256) i below)
    ∙ ap (λ n. bit_at n i) whole
    ∙ ap (λ n. n % 2) (div-div-eq-div-mul x (2 ^ (8 * k)) (2 ^ i) ∙ ap (λ n. x / n) (sym (pow-add 2 (8 * k) i)))

-- two bits whose sum is even are the same
sum_even : (a b c : ℕ) → c ≡ (a + b) % 2 → c ≡ 0 → a < 2 → b < 2 → a ≡ b
sum_even a b c e none l m = omega (arith, e, none, l, m)

-- two numbers whose sum is odd are not the same
sum_odd : (a b c : ℕ) → c ≡ (a + b) % 2 → c ≡ 1 → a ≢ b
sum_odd a b c e one same = omega (arith, e, one, same)

-- where the bit `i` of the exclusive or of `x` and `y` is 0, both have the same bit there
same_bit : (x y i : ℕ) → bit_at (bit_xor x y) i ≡ 0 → bit_at x i ≡ bit_at y i
same_bit x y i none = sum_even (bit_at x i) (bit_at y i) (bit_at (bit_xor x y) i) (bit_at_xor x y i) none (bit_at-lt x i) (bit_at-lt y i)

-- where the bit `i` of the exclusive or of `x` and `y` is 1, they have different bits there
other_bit : (x y i : ℕ) → bit_at (bit_xor x y) i ≡ 1 → bit_at x i ≢ bit_at y i
other_bit x y i one = sum_odd (bit_at x i) (bit_at y i) (bit_at (bit_xor x y) i) (bit_at_xor x y i) one

-- words that differ have a bit that differs
pub xor_some : (x y : ℕ) → x ≢ y → 0 < bit_xor x y
xor_some x y ne = by (bit_xor x y) refl
  where
    by : (n : ℕ) → bit_xor x y ≡ n → 0 < n
    by zero e = absurd (ne (same_from_bits x y (λ i. same_bit x y i (ap (λ n. bit_at n i) e ∙ bit_at-zero i))))
    by (suc n) e = omega arith

-- the number of trailing zeros of the exclusive or of two different words is the lowest bit in which they differ
pub lowest : (x y t : ℕ) → x ≢ y → x < 2 ^ 64 → y < 2 ^ 64 → t ≡ trailing_zeros w64 (bit_xor x y) → (t < 64) × (bit_at (bit_xor x y) t ≡ 1) × ((i : ℕ) → i < t → bit_at (bit_xor x y) i ≡ 0)
lowest x y t ne a b is =
    subst (λ n. (n < 64) × (bit_at (bit_xor x y) n ≡ 1) × ((i : ℕ) → i < n → bit_at (bit_xor x y) i ≡ 0)) (sym is)
    (bit_at-trailing_zeros w64 (bit_xor x y) (xor_some x y ne) (xor_lt 64 x y a b))

-- bit t is the lowest that differs
module _ (x y t : ℕ) (below : (i : ℕ) → i < t → bit_at (bit_xor x y) i ≡ 0) (one : bit_at (bit_xor x y) t ≡ 1) where
  pub bytes_alike : (k : ℕ) → k < t / 8 → x / 2 ^ (8 * k) % 256 ≡ y / 2 ^ (8 * k) % 256
  bytes_alike k l =
      same_from_bits_below 8 (x / 2 ^ (8 * k) % 256) (y / 2 ^ (8 * k) % 256) (omega arith) (omega arith)
      (λ i b. byte_bit x k i b ∙ same_bit x y (8 * k + i) (below (8 * k + i) (omega (arith, l, b))) ∙ sym (byte_bit y k i b))

  pub bytes_apart : x / 2 ^ (8 * (t / 8)) % 256 ≢ y / 2 ^ (8 * (t / 8)) % 256
  bytes_apart e =
      let place : 8 * (t / 8) + t % 8 ≡ t = omega arith in
      let within : t % 8 < 8 = omega arith in
      other_bit x y t one
      (ap (λ n. bit_at x n) (sym place) ∙ sym (byte_bit x (t / 8) (t % 8) within)
      ∙ ap (λ n. bit_at n (t % 8)) e
      ∙ byte_bit y (t / 8) (t % 8) within ∙ ap (λ n. bit_at y n) place)

-- a byte of a word among words
pub byte_of : (words : List ℕ) (at b word : ℕ) → b < 8 → get_or words at 0 ≡ word → byte_at words (8 * at + b) ≡ word / 2 ^ (8 * b) % 256
byte_of words at b word below is =
    let q : (8 * at + b) / 8 ≡ at = omega (arith, below) in
    let r : (8 * at + b) % 8 ≡ b = omega (arith, below) in
    ap (λ p. get_or words p 0 / 2 ^ (8 * ((8 * at + b) % 8)) % 256) q
    ∙ ap (λ p. get_or words at 0 / 2 ^ (8 * p) % 256) r
    ∙ ap (λ w. w / 2 ^ (8 * b) % 256) is

-- words before one place are the same, and so are the first bytes of those there
pub bytes_before : (these those : List ℕ) (at b left right : ℕ) → b ≤ 8 → ((k : ℕ) → k < at → get_or these k 0 ≡ get_or those k 0) → get_or these at 0 ≡ left → get_or those at 0 ≡ right →
    ((k : ℕ) → k < b → left / 2 ^ (8 * k) % 256 ≡ right / 2 ^ (8 * k) % 256) → (k : ℕ) → k < 8 * at + b → byte_at these k ≡ byte_at those k
bytes_before these those at b left right few same l r alike k below = elim (cases_lt k (8 * at)) [ inl h ↦ words_bytes these those at same k h | inr h ↦ inside (k - 8 * at) (omega (arith, h)) (omega (arith, h, below)) ]
  where
    inside : (j : ℕ) → k ≡ 8 * at + j → j < b → byte_at these k ≡ byte_at those k
    inside j e within =
        let few_bytes : j < 8 = omega (arith, few, within) in
        ap (λ n. byte_at these n) e ∙ byte_of these at j left few_bytes l ∙ alike j within ∙ sym (byte_of those at j right few_bytes r) ∙ sym (ap (λ n. byte_at those n) e)
