-- Lines without line feeds and carriage returns, as they stand in a text.
use Rattle.std.specs.Prelude.{codes}
use Rattle.std.specs.Char.{digit_value}
use Rattle.std.specs.Fmt.{decimal}
use Rattle.std.specs.List.{list_all}
use Rattle.std.specs.Str.Parse.{AllDigits}
use Rattle.std.proofs.Common.{◌≡◌, ℕ, ◌^◌, ◌<◌, ◌&&◌, Bool, true, false, eqb, not, List, [], ◌∷◌, ◌++◌, refl, ap, ◌∙◌, arith}
use Rattle.std.proofs.lemmas.Bool.{and_parts, ne_eqb}
use Rattle.std.proofs.lemmas.Fmt.{decimal_is_IsNumeral}
use Rattle.std.proofs.lemmas.List.Folds.{list_all-append}
use Rattle.plain_text.specs.Lines.{onto, text_lines}

abbrev is_inside : ℕ → Bool
is_inside b = not (eqb b 10) && not (eqb b 13)

-- no byte of it ends a line
abbrev pub is_one_line : List ℕ → Bool
is_one_line text = list_all is_inside text

not_true : (b : Bool) → not b ≡ true → b ≡ false
not_true true e = absurd cc
not_true false e = refl

-- a line with its end stands first
pub line_first : (line rest : List ℕ) → is_one_line line ≡ true → text_lines ((line ++ codes "\n") ++ rest) ≡ line ∷ text_lines rest
line_first [] rest h = refl
line_first (b ∷ line) rest h =
    let parts = and_parts (is_inside b) (is_one_line line) h in
    let inside = and_parts (not (eqb b 10)) (not (eqb b 13)) parts.0 in
    rw (not_true (eqb b 10) inside.0, not_true (eqb b 13) inside.1) (ap (onto b) (line_first line rest parts.1))

pub joined : (a b : List ℕ) → is_one_line a ≡ true → is_one_line b ≡ true → is_one_line (a ++ b) ≡ true
joined a b h k = list_all-append is_inside a b ∙ rw (h, k) refl

digits_inside : (text : List ℕ) → AllDigits 10 text → is_one_line text ≡ true
digits_inside [] h = refl
digits_inside (b ∷ text) h =
    let no_feed : eqb b 10 ≡ false = ne_eqb b 10 (λ e. omega (arith, ap digit_value e, h.0)) in
    let no_return : eqb b 13 ≡ false = ne_eqb b 13 (λ e. omega (arith, ap digit_value e, h.0)) in
    rw (no_feed, no_return) (digits_inside text h.1)

pub number_inside : (n : ℕ) → n < 2 ^ 64 → is_one_line (decimal n) ≡ true
number_inside n h = digits_inside (decimal n) (decimal_is_IsNumeral n h).0.1
