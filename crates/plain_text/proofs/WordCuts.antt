-- Words: how a text is cut at a space, and which texts have none.
use Rattle.std.specs.Prelude.{IsUtf8, All, is_some}
use Rattle.std.specs.List.{position_or_len, before_first, after_first, list_all}
use Rattle.std.specs.Char.{digit_value}
use Rattle.std.specs.Fmt.{decimal, signed_decimal}
use Rattle.std.specs.Str.Parse.{AllDigits}
use Rattle.std.proofs.Common.{◌≡◌, ℕ, ◌+◌, ◌<◌, true, false, eqb, List, [], ◌∷◌, length, None, Some, refl, sym, ap, ◌∙◌, arith, inl, inr, suc, ◌^◌, ◌≤◌, Bool, not, ◌++◌, get_or, ℤ, pos, negsuc}
use Rattle.std.proofs.lemmas.Bool.{cases_Bool, eqb-true, true≢false, ltb-true, and_parts, ne_eqb}
use Rattle.std.proofs.lemmas.List.Sums.{passes_at_first, list_all-from_AllPass}
use Rattle.std.proofs.lemmas.Str.{IsUtf8-drop, IsCharBoundary-after_ascii}
use Rattle.std.proofs.lemmas.Fmt.{decimal_is_IsNumeral}
use Rattle.std.proofs.lemmas.Slice.Eq.{bytes_eq-Decides}
use Rattle.plain_text.specs.Words.{has_byte, is_byte, first_word, rest_of, is_word}
use Rattle.plain_text.specs.Number.{is_i64}
use Rattle.plain_text.proofs.Cuts.{cut_here, cut_later}

-- ---- words as a search finds them

pub words_cut : (text : List ℕ) → has_byte (is_byte 32) text ≡ true
    → (before_first (is_byte 32) text ≡ first_word text) × (Some (after_first (is_byte 32) text) ≡ rest_of text)
words_cut [] there = absurd cc
words_cut (b ∷ text) there =
    elim (cases_Bool (eqb b 32)) [
      | inl hit ↦ let here = cut_here (is_byte 32) b text hit in rw (here.1, here.2, hit) (refl, refl)
      | inr miss ↦
          let later = cut_later (is_byte 32) b text miss in
          let more = words_cut text (sym later.0 ∙ there) in
          rw (later.1, later.2, miss) (ap (λ (word : List ℕ). b ∷ word) more.0, more.1)
    ]

pub words_whole : (text : List ℕ) → has_byte (is_byte 32) text ≡ false → (text ≡ first_word text) × (None ≡ rest_of text)
words_whole [] none = (refl, refl)
words_whole (b ∷ text) none =
    elim (cases_Bool (eqb b 32)) [
      | inl hit ↦ absurd (true≢false (sym (cut_here (is_byte 32) b text hit).0 ∙ none))
      | inr miss ↦
          let more = words_whole text (sym (cut_later (is_byte 32) b text miss).0 ∙ none) in
          rw miss (ap (λ (word : List ℕ). b ∷ word) more.0, more.1)
    ]

-- what stands behind a space in UTF-8 is UTF-8
pub rest_is_utf8 : (text : List ℕ) → has_byte (is_byte 32) text ≡ true → IsUtf8 text → IsUtf8 (after_first (is_byte 32) text)
rest_is_utf8 text there utf8 =
    let at = position_or_len (is_byte 32) text in
    let within : at < length text = ltb-true at (length text) there in
    let space = eqb-true _ 32 (passes_at_first (is_byte 32) text 0 within) in
    IsUtf8-drop text (at + 1) utf8 (IsCharBoundary-after_ascii text at utf8 within (omega (arith, space)))

pub word_is : (name text : List ℕ) → is_word name text ≡ true → text ≡ name
word_is name text h = (bytes_eq-Decides text name).0 h

-- a text with a space is its first word, the space and the rest
pub spaced : (text rest : List ℕ) → rest_of text ≡ Some rest → text ≡ first_word text ++ 32 ∷ rest
spaced [] rest e = absurd cc
spaced (b ∷ text) rest e =
    elim (cases_Bool (eqb b 32)) [
      | inl hit ↦
          let same : text ≡ rest = let h : Some text ≡ Some rest = rw hit at e in cc in
          rw (hit) (ap (λ (first : ℕ). first ∷ text) (eqb-true b 32 hit) ∙ ap (λ (t : List ℕ). 32 ∷ t) same)
      | inr miss ↦ let h : rest_of text ≡ Some rest = rw miss at e in rw miss (ap (λ (t : List ℕ). b ∷ t) (spaced text rest h))
    ]

pub unspaced : (text : List ℕ) → rest_of text ≡ None → text ≡ first_word text
unspaced [] e = refl
unspaced (b ∷ text) e =
    elim (cases_Bool (eqb b 32)) [
      | inl hit ↦ let h : Some text ≡ None = rw hit at e in absurd cc
      | inr miss ↦ let h : rest_of text ≡ None = rw miss at e in rw miss (ap (λ (t : List ℕ). b ∷ t) (unspaced text h))
    ]

-- a text whose first word has this name
pub named : (name text rest : List ℕ) → is_word name (first_word text) ≡ true → rest_of text ≡ Some rest → text ≡ name ++ 32 ∷ rest
named name text rest is e = spaced text rest e ∙ ap (λ (word : List ℕ). word ++ 32 ∷ rest) (word_is name (first_word text) is)

-- a text with no space is its first word
pub whole_word : (text : List ℕ) → is_some (rest_of text) ≡ false → first_word text ≡ text
whole_word [] h = refl
whole_word (b ∷ text) h =
    elim (cases_Bool (eqb b 32)) [
      | inl hit ↦ let f : true ≡ false = rw hit at h in absurd cc
      | inr miss ↦ let more : is_some (rest_of text) ≡ false = rw miss at h in rw miss (ap (λ (t : List ℕ). b ∷ t) (whole_word text more))
    ]

-- ---- texts without a space

abbrev no_space : ℕ → Bool
no_space b = not (eqb b 32)

-- the text has no space
abbrev pub is_unspaced : List ℕ → Bool
is_unspaced text = list_all no_space text

unspaced_head : (b : ℕ) (text : List ℕ) → is_unspaced (b ∷ text) ≡ true → (eqb b 32 ≡ false) × (is_unspaced text ≡ true)
unspaced_head b text h =
    let parts = and_parts (no_space b) (is_unspaced text) h in
    elim (cases_Bool (eqb b 32)) [
      | inl hit ↦ let n : no_space b ≡ true = parts.0 in let f : false ≡ true = rw hit at n in absurd cc
      | inr miss ↦ (miss, parts.1)
    ]

-- a word ends at the first space
pub word_cut : (word text : List ℕ) → is_unspaced word ≡ true → (first_word (word ++ 32 ∷ text) ≡ word) × (rest_of (word ++ 32 ∷ text) ≡ Some text)
word_cut [] text h = (refl, refl)
word_cut (b ∷ word) text h =
    let parts = unspaced_head b word h in
    let more = word_cut word text parts.1 in
    rw parts.0 (ap (λ (w : List ℕ). b ∷ w) more.0, more.1)

-- or with the text
pub word_alone : (word : List ℕ) → is_unspaced word ≡ true → (first_word word ≡ word) × (rest_of word ≡ None)
word_alone [] h = (refl, refl)
word_alone (b ∷ word) h =
    let parts = unspaced_head b word h in
    let more = word_alone word parts.1 in
    rw parts.0 (ap (λ (w : List ℕ). b ∷ w) more.0, more.1)

-- visible bytes are no spaces
not_space : (b : ℕ) → 33 ≤ b → no_space b ≡ true
not_space b h = ap not (ne_eqb b 32 (λ e. omega arith))

pub visible_unspaced : (text : List ℕ) → All (λ b. (33 ≤ b) × (b ≤ 126)) text → is_unspaced text ≡ true
visible_unspaced text visible = list_all-from_AllPass no_space text (λ i d lt. not_space (get_or text i d) (visible i d lt).0)

digits_unspaced : (text : List ℕ) → AllDigits 10 text → is_unspaced text ≡ true
digits_unspaced [] h = refl
digits_unspaced (b ∷ text) h =
    let apart : eqb b 32 ≡ false = ne_eqb b 32 (λ e. omega (arith, ap digit_value e, h.0)) in
    rw apart (digits_unspaced text h.1)

pub decimal_unspaced : (n : ℕ) → n < 2 ^ 64 → is_unspaced (decimal n) ≡ true
decimal_unspaced n h = digits_unspaced (decimal n) (decimal_is_IsNumeral n h).0.1

pub signed_unspaced : (z : ℤ) → is_i64 z ≡ true → is_unspaced (signed_decimal z) ≡ true
signed_unspaced (pos n) h = let small : n < 2 ^ 63 = ltb-true n (2 ^ 63) h in decimal_unspaced n (omega arith)
signed_unspaced (negsuc n) h = let small : n < 2 ^ 63 = ltb-true n (2 ^ 63) h in decimal_unspaced (suc n) (omega arith)

-- the first byte of a number is a digit
digit_first : (text : List ℕ) → 0 < length text → AllDigits 10 text → (b : ℕ) × (rest : List ℕ) × (text ≡ b ∷ rest) × (digit_value b < 10)
digit_first [] some h = absurd (omega arith)
digit_first (b ∷ text) some h = (b, text, refl, h.0)

pub decimal_first : (n : ℕ) → n < 2 ^ 64 → (b : ℕ) × (rest : List ℕ) × (decimal n ≡ b ∷ rest) × (digit_value b < 10)
decimal_first n h = let is = decimal_is_IsNumeral n h in digit_first (decimal n) is.0.0 is.0.1
