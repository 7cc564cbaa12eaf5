-- The compact text of a value is a document, where it is short enough.
use Rattle.std.proofs.Common.{◌≡◌, ℕ, zero, suc, ◌+◌, ◌/◌, ◌%◌, ◌<◌, ◌≤◌, Bool, true, false, cond, ltb, leb, eqb, List, [], ◌∷◌, ◌++◌, length, refl, sym, subst, arith, inl, inr, pos, negsuc}
use Rattle.std.specs.Prelude.{All, IsUtf8, codes}
use Rattle.std.specs.Char.{digit_char}
use Rattle.std.specs.Fmt.{decimal, digit_glyph, digits_onto, digits}
use Rattle.std.specs.List.{list_all}
use Rattle.std.proofs.lemmas.Bool.{cases_Bool, and_parts, eqb-true, ltb-true, ltb-false, leb-true, true≢false}
use Rattle.std.proofs.lemmas.List.Elements.{All-nil, All-cons, All-append}
use lib.Utf8.{next, encode, encodes, scalar, scalars, scalar_cases}
use Rattle.json.specs.Print.{escape_letter, escape_byte, escape, quoted}
use Rattle.serde_json.specs.Data.{Num, unsigned, negative, float, Data, null, boolean, number, string, array, object, Items, no_items, item, Members, no_members, member}
use Rattle.serde_json.specs.Find.{is_float}
use Rattle.serde_json.specs.Written.{has_float, number_text, compact_text, comma_if, items_text, members_text}
use Rattle.cx_base.specs.Store.{IsDocument}

-- a byte that is no control character
abbrev IsPlain : ℕ → Type 0
IsPlain b = 32 ≤ b

abbrev ArePlain : List ℕ → Type 0
ArePlain bytes = All IsPlain bytes

one : (b : ℕ) (bytes : List ℕ) → 32 ≤ b → ArePlain bytes → ArePlain (b ∷ bytes)
one b bytes h rest = All-cons IsPlain b bytes h rest

none : ArePlain []
none = All-nil IsPlain

-- what holds of both branches of an `if`
either : (P : List ℕ → Type 0) (b : Bool) (x y : List ℕ) → (b ≡ true → P x) → (b ≡ false → P y) → P (cond b x y)
either P true x y first second = first refl
either P false x y first second = second refl

-- ---- numbers

glyph_plain : (d : ℕ) → 32 ≤ digit_glyph false d
glyph_plain d =
    elim (cases_Bool (ltb d 10)) [ inl low ↦ rw low (omega arith) | inr high ↦ rw high (omega arith) ]

digits_plain : (k n : ℕ) (after : List ℕ) → ArePlain after → ArePlain (digits_onto k 10 false n after)
digits_plain zero n after h = h
digits_plain (suc k) n after h =
    let longer = one (digit_glyph false (n % 10)) after (glyph_plain (n % 10)) h in
    either ArePlain (eqb (n / 10) 0) _ _ (λ _. longer) (λ _. digits_plain k (n / 10) (digit_glyph false (n % 10) ∷ after) longer)

decimal_plain : (n : ℕ) → ArePlain (decimal n)
unfolding digits
decimal_plain n = digits_plain 64 n [] none

number_plain : (n : Num) → ArePlain (number_text n)
number_plain (unsigned n) = decimal_plain n
number_plain (negative (pos n)) = decimal_plain n
number_plain (negative (negsuc n)) = one 45 (decimal (suc n)) (omega arith) (decimal_plain (suc n))
number_plain (float x) = none

-- ---- strings

char_plain : (d : ℕ) → 32 ≤ digit_char d
char_plain d =
    elim (cases_Bool (ltb d 10)) [ inl low ↦ rw low (omega arith) | inr high ↦ rw high (omega arith) ]

-- the letter of a short escape, where there is one
letter_plain : (x : ℕ) → 0 < escape_letter x → 32 ≤ escape_letter x
letter_plain x some =
    elim (cases_Bool (eqb x 34)) [
      | inl quote ↦ let is = eqb-true x 34 quote in rw quote (omega (arith, is))
      | inr no_quote ↦
          elim (cases_Bool (eqb x 92)) [
            | inl backslash ↦ let is = eqb-true x 92 backslash in rw (no_quote, backslash) (omega (arith, is))
            | inr no_backslash ↦
                rw (no_quote, no_backslash) (control (eqb x 8) (eqb x 12) (eqb x 10) (eqb x 13) (eqb x 9) (rw (no_quote, no_backslash) at some))
          ]
    ]
  where
    -- where one of the tests `a` to `e` for control characters passes, the letter of that one's escape is no control character
    control : (a b c d e : Bool) → 0 < cond a 98 (cond b 102 (cond c 110 (cond d 114 (cond e 116 0)))) → 32 ≤ cond a 98 (cond b 102 (cond c 110 (cond d 114 (cond e 116 0))))
    control true b c d e h = omega arith
    control false true c d e h = omega arith
    control false false true d e h = omega arith
    control false false false true e h = omega arith
    control false false false false true h = omega arith
    control false false false false false h = absurd (omega (arith, h))

-- the six bytes of a control character
abbrev long_escape : ℕ → List ℕ
long_escape x = 92 ∷ 117 ∷ 48 ∷ 48 ∷ digit_char (x / 16) ∷ digit_char (x % 16) ∷ []

long_plain : (x : ℕ) → ArePlain (long_escape x)
long_plain x =
    let last = one (digit_char (x % 16)) [] (char_plain (x % 16)) none in
    let two = one (digit_char (x / 16)) (digit_char (x % 16) ∷ []) (char_plain (x / 16)) last in
    let three = one 48 (digit_char (x / 16) ∷ digit_char (x % 16) ∷ []) (omega arith) two in
    let four = one 48 (48 ∷ digit_char (x / 16) ∷ digit_char (x % 16) ∷ []) (omega arith) three in
    let five = one 117 (48 ∷ 48 ∷ digit_char (x / 16) ∷ digit_char (x % 16) ∷ []) (omega arith) four in
    one 92 (117 ∷ 48 ∷ 48 ∷ digit_char (x / 16) ∷ digit_char (x % 16) ∷ []) (omega arith) five

escaped_plain : (x : ℕ) → ArePlain (escape_byte x)
unfolding escape_byte
escaped_plain x =
    either ArePlain (ltb 0 (escape_letter x)) (92 ∷ escape_letter x ∷ []) (cond (ltb x 32) (long_escape x) (x ∷ []))
    (λ short. one 92 (escape_letter x ∷ []) (omega arith) (one (escape_letter x) [] (letter_plain x (ltb-true 0 (escape_letter x) short)) none))
    (λ _. either ArePlain (ltb x 32) (long_escape x) (x ∷ []) (λ _. long_plain x) (λ plain. one x [] (ltb-false x 32 plain) none))

escape_plain : (s : List ℕ) → ArePlain (escape s)
escape_plain [] = none
escape_plain (x ∷ s) = All-append IsPlain (escape_byte x) (escape s) (escaped_plain x) (escape_plain s)

quoted_plain : (s : List ℕ) → ArePlain (quoted s)
quoted_plain s = one 34 (escape s ++ 34 ∷ []) (omega arith) (All-append IsPlain (escape s) (34 ∷ []) (escape_plain s) (one 34 [] (omega arith) none))

-- ---- values

comma_plain : (later : Bool) → ArePlain (comma_if later)
comma_plain true = one 44 [] (omega arith) none
comma_plain false = none

-- a text that is written out
written : (text : List ℕ) → list_all (leb 32) text ≡ true → ArePlain text
written [] h = none
written (b ∷ text) h =
    let parts = and_parts (leb 32 b) (list_all (leb 32) text) h in one b text (leb-true 32 b parts.0) (written text parts.1)

mutual
  text_plain : (d : Data) → ArePlain (compact_text d)
  text_plain null = written (codes "null") refl
  text_plain (boolean true) = written (codes "true") refl
  text_plain (boolean false) = written (codes "false") refl
  text_plain (number n) = number_plain n
  text_plain (string s) = quoted_plain s
  text_plain (array ds) = one 91 (items_text false ds) (omega arith) (items_plain false ds)
  text_plain (object ms) = one 123 (members_text false ms) (omega arith) (members_plain false ms)

  items_plain : (later : Bool) (ds : Items) → ArePlain (items_text later ds)
  items_plain later no_items = one 93 [] (omega arith) none
  items_plain later (item d ds) =
      All-append IsPlain (comma_if later) (compact_text d ++ items_text true ds) (comma_plain later)
      (All-append IsPlain (compact_text d) (items_text true ds) (text_plain d) (items_plain true ds))

  members_plain : (later : Bool) (ms : Members) → ArePlain (members_text later ms)
  members_plain later no_members = one 125 [] (omega arith) none
  members_plain later (member k d ms) =
      let rest = compact_text d ++ members_text true ms in
      All-append IsPlain (comma_if later) (quoted k ++ 58 ∷ rest) (comma_plain later)
      (All-append IsPlain (quoted k) (58 ∷ rest) (quoted_plain k)
      (one 58 rest (omega arith) (All-append IsPlain (compact_text d) (members_text true ms) (text_plain d) (members_plain true ms))))

-- ---- bytes

abbrev IsByte : ℕ → Type 0
IsByte b = b < 256

byte : (b : ℕ) (bytes : List ℕ) → b < 256 → All IsByte bytes → All IsByte (b ∷ bytes)
byte b bytes h rest = All-cons IsByte b bytes h rest

next_byte : (n : ℕ) → next n < 256
next_byte n = omega arith

encoded : (c : ℕ) → c < 1114112 → All IsByte (encode c)
unfolding encode
encoded c small =
    let tail = byte (next c) [] (next_byte c) (All-nil IsByte) in
    let two = byte (next (c / 64)) (next c ∷ []) (next_byte (c / 64)) tail in
    let three = byte (next (c / 4096)) (next (c / 64) ∷ next c ∷ []) (next_byte (c / 4096)) two in
    either (All IsByte) (ltb c 128) (c ∷ [])
    (cond (ltb c 2048) ((192 + c / 64) ∷ next c ∷ [])
    (cond (ltb c 65536) ((224 + c / 4096) ∷ next (c / 64) ∷ next c ∷ []) ((240 + c / 262144) ∷ next (c / 4096) ∷ next (c / 64) ∷ next c ∷ [])))
    (λ low. let h = ltb-true c 128 low in byte c [] (omega (arith, h)) (All-nil IsByte))
    (λ _. either (All IsByte) (ltb c 2048) ((192 + c / 64) ∷ next c ∷ [])
    (cond (ltb c 65536) ((224 + c / 4096) ∷ next (c / 64) ∷ next c ∷ []) ((240 + c / 262144) ∷ next (c / 4096) ∷ next (c / 64) ∷ next c ∷ []))
    (λ low. let h = ltb-true c 2048 low in byte (192 + c / 64) (next c ∷ []) (omega (arith, h)) tail)
    (λ _. either (All IsByte) (ltb c 65536) ((224 + c / 4096) ∷ next (c / 64) ∷ next c ∷ [])
    ((240 + c / 262144) ∷ next (c / 4096) ∷ next (c / 64) ∷ next c ∷ [])
    (λ low. let h = ltb-true c 65536 low in byte (224 + c / 4096) (next (c / 64) ∷ next c ∷ []) (omega (arith, h)) two)
    (λ _. byte (240 + c / 262144) (next (c / 4096) ∷ next (c / 64) ∷ next c ∷ []) (omega (arith, small)) three)))

all_encoded : (cs : List ℕ) → scalars cs ≡ true → All IsByte (encodes cs)
all_encoded [] h = All-nil IsByte
all_encoded (c ∷ cs) h =
    let parts = and_parts (scalar c) (scalars cs) h in
    let small : c < 1114112 = elim (scalar_cases c parts.0) [ inl low ↦ omega arith | inr high ↦ high.1 ] in
    All-append IsByte (encode c) (encodes cs) (encoded c small) (all_encoded cs parts.1)

utf8_bytes : (text : List ℕ) → IsUtf8 text → All IsByte text
utf8_bytes text (cs, (are, same)) = subst (All IsByte) same (all_encoded cs are)

-- ---- documents

longer : (k n : ℕ) (after : List ℕ) → 1 ≤ length after → 1 ≤ length (digits_onto k 10 false n after)
longer zero n after h = h
longer (suc k) n after h =
    either (λ text. 1 ≤ length text) (eqb (n / 10) 0) (digit_glyph false (n % 10) ∷ after) (digits_onto k 10 false (n / 10) (digit_glyph false (n % 10) ∷ after))
    (λ _. omega arith) (λ _. longer k (n / 10) (digit_glyph false (n % 10) ∷ after) (omega arith))

decimal_some : (n : ℕ) → 1 ≤ length (decimal n)
unfolding digits
decimal_some n =
    either (λ text. 1 ≤ length text) (eqb (n / 10) 0) (digit_glyph false (n % 10) ∷ []) (digits_onto 63 10 false (n / 10) (digit_glyph false (n % 10) ∷ []))
    (λ _. omega arith) (λ _. longer 63 (n / 10) (digit_glyph false (n % 10) ∷ []) (omega arith))

pub number_some : (n : Num) → is_float n ≡ false → 1 ≤ length (number_text n)
number_some (unsigned n) h = decimal_some n
number_some (negative (pos n)) h = decimal_some n
number_some (negative (negsuc n)) h = omega arith
number_some (float x) h = absurd (true≢false h)

text_some : (d : Data) → has_float d ≡ false → 1 ≤ length (compact_text d)
text_some (boolean true) h = omega arith
text_some (boolean false) h = omega arith
text_some (number n) h = number_some n h
text_some d h = omega arith

-- the text of a value, in a string
pub is_document : (text : List ℕ) (d : Data) → IsUtf8 text → text ≡ compact_text d → has_float d ≡ false → length text ≤ 1024 → IsDocument text
is_document text d utf8 same whole short =
    let plain : ArePlain text = subst ArePlain (sym same) (text_plain d) in
    let bytes = utf8_bytes text utf8 in
    record {
      some = subst (λ (t : List ℕ). 1 ≤ length t) (sym same) (text_some d whole);
      short = short;
      plain = λ k b below. (plain k b below, bytes k b below);
    }
