-- Decimal numbers at the front of texts.
use Rattle.std.proofs.Common.{◌≡◌, ℕ, ◌^◌, ◌<◌, ◌≤◌, List, [], ◌∷◌, ◌++◌, length, ap, refl, arith}
use Rattle.std.proofs.lemmas.Fmt.{decimal_is_IsNumeral, decimal_injective}
use Rattle.std.specs.Fmt.{decimal}
use Rattle.std.specs.Char.{digit_value}
use Rattle.std.specs.Str.Parse.{AllDigits}

-- no digit
abbrev pub IsNoDigit : ℕ → Type 0
IsNoDigit b = 10 ≤ digit_value b

-- the text begins with a byte that is no digit
abbrev pub BeginsOutside : List ℕ → Type 0
BeginsOutside [] = ⊥
BeginsOutside (b ∷ text) = IsNoDigit b

-- digits end where the first byte stands that is none
same_digits : (ds es : List ℕ) (b : ℕ) (x y : List ℕ) → AllDigits 10 ds → AllDigits 10 es → IsNoDigit b
    → ds ++ b ∷ x ≡ es ++ b ∷ y → (ds ≡ es) × (x ≡ y)
same_digits [] [] b x y digits others ends e = (refl, cc)
same_digits [] (d ∷ es) b x y digits others ends e =
    let same : b ≡ d = cc in absurd (omega (arith, ap digit_value same, others.0))
same_digits (d ∷ ds) [] b x y digits others ends e =
    let same : d ≡ b = cc in absurd (omega (arith, ap digit_value same, digits.0))
same_digits (c ∷ ds) (d ∷ es) b x y digits others ends e =
    let first : c ≡ d = cc in
    let rest : ds ++ b ∷ x ≡ es ++ b ∷ y = cc in
    let found = same_digits ds es b x y digits.1 others.1 ends rest in
    let tail : ds ≡ es = found.0 in
    (cc, found.1)

-- the numbers at the front of equal texts are the same, and so is what follows
pub same_numbers : (m n b : ℕ) (x y : List ℕ) → m < 2 ^ 64 → n < 2 ^ 64 → IsNoDigit b
    → decimal m ++ b ∷ x ≡ decimal n ++ b ∷ y → (m ≡ n) × (x ≡ y)
same_numbers m n b x y m_fits n_fits ends e =
    let found = same_digits (decimal m) (decimal n) b x y (decimal_is_IsNumeral m m_fits).0.1 (decimal_is_IsNumeral n n_fits).0.1 ends e in
    (decimal_injective m n m_fits n_fits found.0, found.1)

digits_outside : (ds x y : List ℕ) → 0 < length ds → AllDigits 10 ds → BeginsOutside y → ds ++ x ≡ y → ⊥
digits_outside [] x y some digits outside e = omega arith
digits_outside (d ∷ ds) x [] some digits outside e = absurd outside
digits_outside (d ∷ ds) x (b ∷ y) some digits outside e =
    let same : d ≡ b = cc in omega (arith, ap digit_value same, digits.0)

-- a text that begins with no digit does not begin with a number
pub number_outside : (n : ℕ) (x y : List ℕ) → n < 2 ^ 64 → BeginsOutside y → decimal n ++ x ≡ y → ⊥
number_outside n x y fits outside e =
    digits_outside (decimal n) x y (decimal_is_IsNumeral n fits).0.0 (decimal_is_IsNumeral n fits).0.1 outside e
