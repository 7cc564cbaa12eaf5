-- Numbers and their decimal text are one to one.
use Rattle.std.proofs.Common.{◌≡◌, ◌≢◌, ℕ, suc, zero, ◌^◌, ◌<◌, Bool, true, false, cond, not, ◌&&◌, ◌||◌, eqb, ltb, List, [], ◌∷◌, length, get_or, drop, Option, None, Some, sym, refl, ap, ◌∙◌, arith, rules, inl, inr, subst, Result, Ok, Err, IfSome, IfNone}
use Rattle.std.specs.Prelude.{ℤ, pos, negsuc}
use Rattle.std.specs.List.{list_all}
use Rattle.std.specs.Char.{is_ascii_digit}
use Rattle.std.specs.Fmt.{decimal, signed_decimal}
use Rattle.std.specs.Str.Parse.{digits_value, starts_with_minus, ParsesUnsigned}
use Rattle.std.specs.Str.{IsUtf8}
use Rattle.std.specs.Result.{OkIff, result_ok}
use Rattle.std.proofs.lemmas.Str.{IsUtf8-from_ascii}
use Rattle.std.proofs.lemmas.Fmt.{IsAscii-from_digits, digits_decimal, digits_value-decimal, decimal-digits_value, decimal_nonempty, first_decimal, decimal_digit}
use Rattle.std.proofs.lemmas.Str.Parse.{IsNumeralModel, IsDigitsTest, numerals_by_value, not_in_digits, parse_digits}
use Rattle.std.proofs.lemmas.Bool.{cases_Bool, eqb-true, ne_eqb, lt-ltb, ltb-true}
use Rattle.std.proofs.lemmas.Bool.Decides.{nat_tests}
use Rattle.plain_text.specs.Number.{is_numeral, number_of, positive_of, negative_of, integer_of, is_i64}

-- a choice whose test is known
chosen : {A : Type 0} (b : Bool) (x y : A) → b ≡ true → cond b x y ≡ x
chosen b x y e = ap (λ t. cond t x y) e

not_chosen : {A : Type 0} (b : Bool) (x y : A) → (b ≡ true → ⊥) → cond b x y ≡ y
not_chosen true x y h = absurd (h refl)
not_chosen false x y h = refl

-- the test of all digits, and std's value of a numeral
pub all_digits : IsDigitsTest (λ ds. list_all is_ascii_digit ds ≡ true)
all_digits = search rules

pub numerals : IsNumeralModel (λ ds. list_all is_ascii_digit ds ≡ true) (digits_value 10)
numerals = numerals_by_value (λ ds. list_all is_ascii_digit ds ≡ true) all_digits

-- what a numeral is, part by part
numeral_parts : (n first : ℕ) (digits : Bool) → (ltb 0 n && digits && (not (eqb first 48) || eqb n 1)) ≡ true → (0 < n) × (digits ≡ true) × (first ≡ 48 → n ≡ 1)
numeral_parts n first digits h = (grind (arith, nat_tests), grind (arith, nat_tests), λ e. grind (arith, nat_tests))

pub is_numeral_parts : (text : List ℕ) → is_numeral text ≡ true → (0 < length text) × (list_all is_ascii_digit text ≡ true) × (get_or text 0 0 ≡ 48 → length text ≡ 1)
is_numeral_parts text h = numeral_parts (length text) (get_or text 0 0) (list_all is_ascii_digit text) h

numeral_from : (n first : ℕ) (digits : Bool) → 0 < n → digits ≡ true → (first ≡ 48 → n ≡ 1) → (ltb 0 n && digits && (not (eqb first 48) || eqb n 1)) ≡ true
numeral_from n first digits some all lone = grind (arith, nat_tests)

pub is_numeral_from : (text : List ℕ) → 0 < length text → list_all is_ascii_digit text ≡ true → (get_or text 0 0 ≡ 48 → length text ≡ 1) → is_numeral text ≡ true
is_numeral_from text some digits lone = numeral_from (length text) (get_or text 0 0) (list_all is_ascii_digit text) some digits lone

-- the decimal text of a number is a numeral
is_numeral_decimal : (n : ℕ) → n < 2 ^ 64 → is_numeral (decimal n) ≡ true
is_numeral_decimal zero h = ap is_numeral (decimal_digit 0 (omega arith))
is_numeral_decimal (suc n) h =
    let above : 48 < get_or (decimal (suc n)) 0 0 = first_decimal (suc n) (omega arith) h in
    is_numeral_from (decimal (suc n)) (decimal_nonempty (suc n) h) (digits_decimal numerals (suc n) h) (λ e. omega arith)

-- a number below 2^64 is read from its text
within : (test : Bool) (value n : ℕ) → test ≡ true → value ≡ n → n < 2 ^ 64 → cond (test && ltb value (2 ^ 64)) (Some value) None ≡ Some n
within test value n holds e h = grind (arith, nat_tests)

pub number_of-decimal : (n : ℕ) → n < 2 ^ 64 → number_of (decimal n) ≡ Some n
number_of-decimal n h =
    within (is_numeral (decimal n)) (digits_value 10 (decimal n)) n (is_numeral_decimal n h) (digits_value-decimal numerals n h) h

-- and from no other text
was_within : (test : Bool) (value n : ℕ) → cond (test && ltb value (2 ^ 64)) (Some value) None ≡ Some n → (test ≡ true) × (value ≡ n) × (n < 2 ^ 64)
was_within test value n h = (grind (arith, nat_tests), grind (arith, nat_tests), grind (arith, nat_tests))

pub decimal-number_of : (text : List ℕ) (n : ℕ) → number_of text ≡ Some n → (text ≡ decimal n) × (n < 2 ^ 64)
decimal-number_of text n h =
    let facts = was_within (is_numeral text) (digits_value 10 text) n h in
    let parts = is_numeral_parts text facts.0 in
    let value : digits_value 10 text ≡ n = facts.1 in
    let below : n < 2 ^ 64 = facts.2 in
    let small : digits_value 10 text < 2 ^ 64 = omega arith in
    (sym (decimal-digits_value numerals text parts.1 parts.0 parts.2 small) ∙ ap decimal value, below)

-- what a call answers whose result is the number
pub some_is_decimal : (text : List ℕ) (r : Option ℕ) → r ≡ number_of text → IfSome r (λ n. text ≡ decimal n)
some_is_decimal text None e = tt
some_is_decimal text (Some n) e = (decimal-number_of text n (sym e)).0

pub none_is_decimal : (text : List ℕ) (r : Option ℕ) → r ≡ number_of text → IfNone r ((n : ℕ) → n < 2 ^ 64 → text ≢ decimal n)
none_is_decimal text None e = λ n h is. let read = number_of-decimal n h in let same = ap number_of is in cc
none_is_decimal text (Some n) e = tt

-- what std parses of a numeral
parsed_value : {E : Type 0} (value : ℕ) (r : Result ℕ E) (n : ℕ) → 0 < n → OkIff r ((0 < n) × (value < 2 ^ 64)) value → result_ok r ≡ cond (ltb value (2 ^ 64)) (Some value) None
parsed_value value (Ok x) n some h = let small : value < 2 ^ 64 = h.0.1 in sym (chosen (ltb value (2 ^ 64)) (Some value) None (lt-ltb value (2 ^ 64) small) ∙ ap Some (sym h.1))
parsed_value value (Err e) n some h = sym (not_chosen (ltb value (2 ^ 64)) (Some value) None (λ t. h (some, ltb-true value (2 ^ 64) t)))

pub parsed_numeral : {E : Type 0} (text digits : List ℕ) (r : Result ℕ E) → is_numeral text ≡ true → digits ≡ text → ParsesUnsigned 64 10 digits r → result_ok r ≡ cond (ltb (digits_value 10 text) (2 ^ 64)) (Some (digits_value 10 text)) None
parsed_numeral {E} text digits r h e parses =
    let parts = is_numeral_parts text h in
    let here = subst (λ t. ParsesUnsigned {E = E} 64 10 t r) e parses in
    parsed_value (digits_value 10 text) r (length text) parts.0 (parse_digits numerals 64 text r here parts.1)

pub numeral_is_utf8 : (text : List ℕ) → is_numeral text ≡ true → IsUtf8 text
numeral_is_utf8 text h = IsUtf8-from_ascii text (IsAscii-from_digits text (numerals.to text (is_numeral_parts text h).1))

-- the same of a number with its sign
no_minus : (n : ℕ) → n < 2 ^ 64 → starts_with_minus (decimal n) ≡ false
no_minus n h = ne_eqb (get_or (decimal n) 0 0) 45 (not_in_digits numerals (decimal n) 45 (digits_decimal numerals n h) (λ r. omega arith) 0 (decimal_nonempty n h))

without_sign : (text : List ℕ) → starts_with_minus text ≡ false → integer_of text ≡ positive_of (number_of text)
without_sign text e = ap (λ b. cond b (negative_of (number_of (drop 1 text))) (positive_of (number_of text))) e

with_sign : (text : List ℕ) → starts_with_minus text ≡ true → integer_of text ≡ negative_of (number_of (drop 1 text))
with_sign text e = ap (λ b. cond b (negative_of (number_of (drop 1 text))) (positive_of (number_of text))) e

pub integer_of-signed_decimal : (z : ℤ) → is_i64 z ≡ true → integer_of (signed_decimal z) ≡ Some z
integer_of-signed_decimal (pos n) h =
    let below : n < 2 ^ 63 = ltb-true n (2 ^ 63) h in
    let small : n < 2 ^ 64 = omega arith in
    without_sign (decimal n) (no_minus n small) ∙ (ap positive_of (number_of-decimal n small) ∙ chosen (ltb n (2 ^ 63)) (Some (pos n)) None h)
integer_of-signed_decimal (negsuc n) h =
    let below : n < 2 ^ 63 = ltb-true n (2 ^ 63) h in
    let small : suc n < 2 ^ 64 = omega arith in
    with_sign (45 ∷ decimal (suc n)) refl ∙ (ap negative_of (number_of-decimal (suc n) small) ∙ chosen (ltb n (2 ^ 63)) (Some (negsuc n)) None h)

was_positive : (o : Option ℕ) (z : ℤ) → positive_of o ≡ Some z → (n : ℕ) × (o ≡ Some n) × (z ≡ pos n) × (ltb n (2 ^ 63) ≡ true)
was_positive None z h = cc
was_positive (Some n) z h = (n, refl, grind arith, grind arith)

was_negative : (o : Option ℕ) (z : ℤ) → negative_of o ≡ Some z → (n : ℕ) × (o ≡ Some (suc n)) × (z ≡ negsuc n) × (ltb n (2 ^ 63) ≡ true)
was_negative None z h = cc
was_negative (Some zero) z h = cc
was_negative (Some (suc n)) z h = (n, refl, grind arith, grind arith)

begins_with : (text : List ℕ) → starts_with_minus text ≡ true → text ≡ 45 ∷ drop 1 text
begins_with [] h = cc
begins_with (b ∷ text) h = ap (λ c. c ∷ text) (eqb-true b 45 h)

pub signed_decimal-integer_of : (text : List ℕ) (z : ℤ) → integer_of text ≡ Some z → (text ≡ signed_decimal z) × (is_i64 z ≡ true)
signed_decimal-integer_of text z h = elim (cases_Bool (starts_with_minus text)) [
  | inl minus ↦
      let was = was_negative (number_of (drop 1 text)) z (sym (with_sign text minus) ∙ h) in
      let back = decimal-number_of (drop 1 text) (suc was.0) was.1 in
      (begins_with text minus ∙ (ap (λ t. 45 ∷ t) back.0 ∙ ap signed_decimal (sym was.2)), ap is_i64 was.2 ∙ was.3)
  | inr plain ↦
      let was = was_positive (number_of text) z (sym (without_sign text plain) ∙ h) in
      let back = decimal-number_of text was.0 was.1 in
      (back.0 ∙ ap signed_decimal (sym was.2), ap is_i64 was.2 ∙ was.3)
]

pub none_is_signed : (text : List ℕ) (r : Option ℤ) → r ≡ integer_of text → IfNone r ((z : ℤ) → is_i64 z ≡ true → text ≢ signed_decimal z)
none_is_signed text None e = λ z h is. let read = integer_of-signed_decimal z h in let same = ap integer_of is in cc
none_is_signed text (Some z) e = tt
