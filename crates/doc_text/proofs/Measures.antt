-- The measures of values that are read past.
use Rattle.std.proofs.Common.{◌≡◌, ℕ, ◌+◌, ◌*◌, ◌^◌, ◌<◌, ◌≤◌, Bool, true, false, cond, ltb, ◌||◌, List, [], ◌∷◌, ◌++◌, length, Option, Some, None, Ordering, Less, Equal, Greater, String, string_bytes, string_cmp, BTreeMap, refl, sym, ap, subst, ◌∙◌, arith, ℤ, pos, negsuc}
use Rattle.std.specs.Prelude.{option_map, option_and_then, unwrap_or}
use Rattle.std.specs.declared.alloc.Global.{Global}
use Rattle.std.specs.Fmt.{decimal, signed_decimal}
use Rattle.std.specs.Cmp.Lexicographic.{slice_cmp}
use Rattle.std.specs.Ordering.{nat_cmp, match_ordering}
use Rattle.std.specs.BTreeMap.{insert_entry}
use Rattle.std.proofs.lemmas.Bool.{ltb-true, true≢false}
use Rattle.std.proofs.lemmas.List.{length-append, append-nil}
use Rattle.plain_text.specs.Number.{is_i64, number_of as decimal_number_of, integer_of as decimal_integer_of}
use Rattle.plain_text.proofs.Numerals.{decimal-number_of, signed_decimal-integer_of}
use Rattle.json.specs.Token.{Token}
use Rattle.json.specs.Lex.{tokens}
use Rattle.json.specs.Json as json
use Rattle.json.specs.Json.{parse_map, if_last}
use Rattle.json.specs.Print.{escape_letter, escape_byte, escape, quoted, IsNumber, print_from, ArePrintable}
use Rattle.json.proofs.Grammar.{value_is}
use Rattle.json.proofs.Printed.Tokens.{tokens-print}
use Rattle.serde_json.specs.Find.{is_float, as_number}
use Rattle.serde_json.specs.Read.{read, number_of, of_json}
use Rattle.serde_json.proofs.Numbers.{number_of-decimal, number_of-negative}
use Rattle.doc_text.proofs.Documents.{number_some}
use Rattle.serde_json.specs.Data.{Num, unsigned, negative, Data, boolean, number, array, object, Items, no_items, item, Members, no_members, member, put}
use Rattle.serde_json.specs.Written.{has_float, members_have_float, compact_text, items_text, members_text}
use Rattle.doc_text.specs.Measure.{IsInteger, ReadsNumber, IsMeasure, member_count, AreMeasured, Describes}
use Rattle.doc_text.specs.declared.measure.Measure.{Measure}
use Rattle.doc_text.specs.declared.measured_members.MeasuredMembers.{MeasuredMembers}

-- ---- strings

either_length : (b : Bool) (x y : List ℕ) → 1 ≤ length x → 1 ≤ length y → 1 ≤ length (cond b x y)
either_length true x y first second = first
either_length false x y first second = second

escaped_some : (x : ℕ) → 1 ≤ length (escape_byte x)
unfolding escape_byte
escaped_some x = either_length (ltb 0 (escape_letter x)) _ _ (omega arith) (either_length (ltb x 32) _ _ (omega arith) (omega arith))

-- escapes make no text shorter
escape_longer : (s : List ℕ) → length s ≤ length (escape s)
escape_longer [] = omega arith
escape_longer (x ∷ s) = omega (arith, escaped_some x, escape_longer s, length-append (escape_byte x) (escape s))

pub quoted_longer : (s : List ℕ) → 2 + length s ≤ length (quoted s)
quoted_longer s = omega (arith, escape_longer s, length-append (escape s) (34 ∷ []))

-- ---- numbers and words

unsigned_text : (text : List ℕ) (n : ℕ) → text ≡ decimal n → n < 2 ^ 64 → IsInteger text
unsigned_text text n same fits = (unsigned n, ap number_of same ∙ number_of-decimal n fits, refl)

pub unsigned_integer : (text : List ℕ) (n : ℕ) → decimal_number_of text ≡ Some n → IsInteger text
unsigned_integer text n e = let is = decimal-number_of text n e in unsigned_text text n is.0 is.1

signed_text : (text : List ℕ) (z : ℤ) → text ≡ signed_decimal z → is_i64 z ≡ true → IsInteger text
signed_text text (pos n) same fits = let small : n < 2 ^ 63 = ltb-true n (2 ^ 63) fits in unsigned_text text n same (omega arith)
signed_text text (negsuc n) same fits = (negative (negsuc n), ap number_of same ∙ number_of-negative n (ltb-true n (2 ^ 63) fits), refl)

pub signed_integer : (text : List ℕ) (z : ℤ) → decimal_integer_of text ≡ Some z → IsInteger text
signed_integer text z e = let is = signed_decimal-integer_of text z e in signed_text text z is.0 is.1

pub integer_measured : (text : List ℕ) → IsInteger text → ReadsNumber text (record { has_float = false; least = 1 })
integer_measured text (n, e, plain) = (n, e, record { float = sym plain; least = number_some n plain })

number_tokens : (s : List ℕ) → IsNumber s → tokens s ≡ Token.number s ∷ []
unfolding print_from ArePrintable
number_tokens s is = ap tokens (sym (append-nil s)) ∙ tokens-print (Token.number s ∷ []) (is, tt)

-- the text of a number is read as the number
number_read : (s : List ℕ) → IsNumber s → read s ≡ option_map number (number_of s)
number_read s is =
    ap (λ (ts : List Token). option_and_then of_json (option_and_then (λ p. if_last p.0 p.1) (json.value 127 ts))) (number_tokens s is)
    ∙ ap (λ (r : Option (json.Json × List Token)). option_and_then of_json (option_and_then (λ p. if_last p.0 p.1) r)) (value_is 127 (Token.number s ∷ []))

number_some_value : (o : Option Num) (d : Data) → option_map number o ≡ Some d → (n : Num) × (o ≡ Some n) × (d ≡ number n)
number_some_value None d e = absurd cc
number_some_value (Some n) d e = (n, refl, cc)

number_no_value : (o : Option Num) → option_map number o ≡ None → o ≡ None
number_no_value None e = refl
number_no_value (Some n) e = absurd cc

-- a number's text `s` that is read as `d` has a measure, in which `b` says whether `d` is no 64-bit integer
pub number_measured : (s : List ℕ) (d : Data) (b : Bool) → IsNumber s → read s ≡ Some d → b ≡ unwrap_or (option_map is_float (as_number d)) false → ReadsNumber s (record { has_float = b; least = 0 })
number_measured s d b is e float_is =
    let found = number_some_value (number_of s) d (sym (number_read s is) ∙ e) in (
      found.0,
      found.1,
      record { float = float_is ∙ ap (λ (x : Data). unwrap_or (option_map is_float (as_number x)) false) found.2; least = omega arith },
    )

pub number_refused : (s : List ℕ) → IsNumber s → read s ≡ None → number_of s ≡ None
number_refused s is e = number_no_value (number_of s) (sym (number_read s is) ∙ e)

pub word_long : (b : Bool) → 4 ≤ length (compact_text (boolean b))
word_long true = omega arith
word_long false = omega arith

-- ---- arrays

-- the bytes of items, each with a comma or the closing bracket
abbrev pub items_weight : Items → ℕ
items_weight no_items = 0
items_weight (item d ds) = 1 + length (compact_text d) + items_weight ds

items_later : (ds : Items) → items_weight ds + 1 ≤ length (items_text true ds)
items_later no_items = omega arith
items_later (item d ds) = omega (arith, items_later ds, length-append (compact_text d) (items_text true ds))

pub items_heavy : (ds : Items) → 1 + items_weight ds ≤ length (compact_text (array ds))
items_heavy no_items = omega arith
items_heavy (item d ds) = omega (arith, items_later ds, length-append (compact_text d) (items_text true ds))

-- one more item behind those before it
pub item_behind : (before : Items → Items) (d : Data) (r : Option (Items × List Token)) → parse_map before (parse_map (item d) r) ≡ parse_map (λ rest. before (item d rest)) r
item_behind before d None = refl
item_behind before d (Some p) = refl

pub or_assoc : (a b c : Bool) → (a || (b || c)) ≡ ((a || b) || c)
or_assoc true b c = refl
or_assoc false b c = refl

-- ---- objects

-- the bytes of members, each with its colon and a comma or the closing brace
abbrev pub members_weight : Members → ℕ
members_weight no_members = 0
members_weight (member k d ms) = 4 + length k + length (compact_text d) + members_weight ms

members_later : (ms : Members) → members_weight ms + 1 ≤ length (members_text true ms)
members_later no_members = omega arith
members_later (member k d ms) =
    omega (arith, members_later ms, quoted_longer k, length-append (quoted k) (58 ∷ (compact_text d ++ members_text true ms)), length-append (compact_text d) (members_text true ms))

pub members_heavy : (ms : Members) → 1 + members_weight ms ≤ length (compact_text (object ms))
members_heavy no_members = omega arith
members_heavy (member k d ms) =
    omega (arith, members_later ms, quoted_longer k, length-append (quoted k) (58 ∷ (compact_text d ++ members_text true ms)), length-append (compact_text d) (members_text true ms))

count_weight : (ms : Members) → 4 * member_count ms ≤ members_weight ms
count_weight no_members = omega arith
count_weight (member k d ms) = omega (arith, count_weight ms)

-- an object with many keys is long
pub many_long : (ms : Members) → 256 ≤ member_count ms → 1025 ≤ length (compact_text (object ms))
many_long ms many = omega (arith, many, count_weight ms, members_heavy ms)

-- a new or other value under a key takes no key away
count-match : (o : Ordering) (n : ℕ) (a b c : Members) → n ≤ member_count a → n ≤ member_count b → n ≤ member_count c → n ≤ member_count (match_ordering o a b c)
count-match Less n a b c below at above = below
count-match Equal n a b c below at above = at
count-match Greater n a b c below at above = above

pub count-put : (k : List ℕ) (d : Data) (ms : Members) → member_count ms ≤ member_count (put k d ms)
count-put k d no_members = omega arith
count-put k d (member l e ms) =
    count-match (slice_cmp nat_cmp k l) (1 + member_count ms) (member k d (member l e ms)) (member l d ms) (member l e (put k d ms)) (omega arith) (omega arith) (omega (arith, count-put k d ms))

-- values without a fraction stay so
floats-match : (o : Ordering) (a b c : Members) → members_have_float a ≡ false → members_have_float b ≡ false → members_have_float c ≡ false → members_have_float (match_ordering o a b c) ≡ false
floats-match Less a b c below at above = below
floats-match Equal a b c below at above = at
floats-match Greater a b c below at above = above

neither : (a b : Bool) → a ≡ false → b ≡ false → (a || b) ≡ false
neither a b first second = rw (first, second)

neither_parts : (a b : Bool) → (a || b) ≡ false → (a ≡ false) × (b ≡ false)
neither_parts true b h = absurd cc
neither_parts false b h = (refl, h)

pub floats-put : (k : List ℕ) (d : Data) (ms : Members) → has_float d ≡ false → members_have_float ms ≡ false → members_have_float (put k d ms) ≡ false
floats-put k d no_members new old = neither (has_float d) false new refl
floats-put k d (member l e ms) new old =
    let parts = neither_parts (has_float e) (members_have_float ms) old in
    floats-match (slice_cmp nat_cmp k l) (member k d (member l e ms)) (member l d ms) (member l e (put k d ms))
    (neither (has_float d) (has_float e || members_have_float ms) new old)
    (neither (has_float d) (members_have_float ms) new parts.1)
    (neither (has_float e) (members_have_float (put k d ms)) parts.0 (floats-put k d ms new parts.1))

-- ---- entries beside members

abbrev pub Entry : Type 0
Entry = String Global × Measure

-- of entries `a`, `b` and `c` that measure members each, those that the ordering `o` chooses measure the members that it chooses
measured-match : (o : Ordering) (a b c : List Entry) (a' b' c' : Members) → AreMeasured a a' → AreMeasured b b' → AreMeasured c c' → AreMeasured (match_ordering o a b c) (match_ordering o a' b' c')
measured-match Less a b c a' b' c' below at above = below
measured-match Equal a b c a' b' c' below at above = at
measured-match Greater a b c a' b' c' below at above = above

-- entries that measure members, with the measure `m` of `d` put in at the key `k`, measure the members with `d` put in at that key
pub measured-put : (es : List Entry) (ms : Members) (k : String Global) (m : Measure) (d : Data) → IsMeasure m d → AreMeasured es ms → AreMeasured (insert_entry string_cmp es k m) (put (string_bytes k) d ms)
measured-put [] no_members k m d is are = (refl, is, tt)
measured-put (x ∷ es) (member l e ms) k m d is (key, first, more) =
    subst (λ (name : List ℕ). AreMeasured (insert_entry string_cmp (x ∷ es) k m) (match_ordering (slice_cmp nat_cmp (string_bytes k) name) (member (string_bytes k) d (member l e ms)) (member l d ms) (member l e (put (string_bytes k) d ms)))) key
    (measured-match (string_cmp k x.0) ((k, m) ∷ x ∷ es) ((x.0, m) ∷ es) (x ∷ insert_entry string_cmp es k m)
    (member (string_bytes k) d (member l e ms)) (member l d ms) (member l e (put (string_bytes k) d ms))
    (refl, is, (key, first, more)) (key, is, more) (key, first, measured-put es ms k m d is more))
measured-put _ _ k m d is are = absurd are

pub measured-length : (es : List Entry) (ms : Members) → AreMeasured es ms → length es ≡ member_count ms
measured-length [] no_members are = refl
measured-length (x ∷ es) (member l e ms) (key, first, more) = omega (arith, measured-length es ms more)
measured-length _ _ are = absurd are

pub or_false : (b : Bool) → (b || false) ≡ b
or_false true = refl
or_false false = refl

nothing_left : (es : List Entry) (rest : Members) → es ≡ [] → AreMeasured es rest → rest ≡ no_members
nothing_left [] no_members e are = refl
nothing_left [] (member l d ms) e are = absurd are
nothing_left (x ∷ es) rest e are = absurd cc

-- what was added up, where no entry is left
pub measured-end : (found : Bool) (least : ℕ) (es : List Entry) (rest ms : Members) → es ≡ [] → AreMeasured es rest
    → members_have_float ms ≡ (found || members_have_float rest) → least + members_weight rest ≤ 1 + members_weight ms
    → IsMeasure (record { has_float = found; least = least }) (object ms)
measured-end found least es rest ms ended are floats weight =
    let none : rest ≡ no_members = nothing_left es rest ended are in
    record {
      float = sym (floats ∙ ap (λ (r : Members). found || members_have_float r) none ∙ or_false found);
      least = omega (arith, weight, members_heavy ms);
    }

-- ---- what was noted of members

-- what is noted of many members still holds with `d`, each of whose numbers is a 64-bit integer, put in at the key `k`
pub described-many : (found : MeasuredMembers) (k : List ℕ) (m : Measure) (d : Data) (ms : Members) → found.are_many ≡ true → m.has_float ≡ false → IsMeasure m d → Describes found ms → Describes found (put k d ms)
described-many found k m d ms many plain is noted =
    let old = noted.many many in
    record {
      few = λ few. absurd (true≢false (sym many ∙ few));
      many = λ _. (omega (arith, old.0, count-put k d ms), floats-put k d ms (sym is.float ∙ plain) old.1);
    }

-- where few members are noted by their entries, those with the measure `m` of `d` put in measure the members with `d` put in
pub described-few : (members : BTreeMap (String Global) Measure) (found : MeasuredMembers) (k : String Global) (m : Measure) (d : Data) (ms : Members) → found.are_many ≡ false
    → members.entries ≡ insert_entry string_cmp found.members.entries k m → IsMeasure m d → Describes found ms → AreMeasured members.entries (put (string_bytes k) d ms)
described-few members found k m d ms few inserted is noted =
    subst (λ (es : List Entry). AreMeasured es (put (string_bytes k) d ms)) (sym inserted) (measured-put found.members.entries ms k m d is (noted.few few))
