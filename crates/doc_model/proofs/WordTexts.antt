-- Keys and documents, as tests of their bytes find them.
use Rattle.std.proofs.Common.{inl, inr, ◌≡◌, ℕ, zero, suc, ◌<◌, ◌≤◌, Bool, true, ◌&&◌, ◌==◌, nat_le, List, [], length, get_or, All, refl, sym, ap₂, subst, false, ◌⊎◌, zero-add, arith}
use Rattle.std.specs.Bool.{Decides}
use Rattle.std.specs.List.{list_all}
use Rattle.std.proofs.lemmas.List.{nil_from_length}
use Rattle.std.proofs.lemmas.Bool.{and_parts, and_from, leb-true, le-leb, eqb-true, cases_lt}
use Rattle.std.proofs.lemmas.Bool.Decides.{Decides-by_and, nat_tests, same_from_decides}
use Rattle.std.proofs.lemmas.List.FromFn.{length-map-range_with_len, get_or-map-range_with_len}
use Rattle.cx_base.specs.Packing.{byte_at, unpacked}
use Rattle.cx_base.specs.Store.{IsKey, IsDocument}
use Rattle.doc_model.specs.WordParts.{IsBetween, IsShortText, is_key, is_document, has_key_only, has_no_text}
use Rattle.std.proofs.Common.{Result, Ok, Err, IsErrAnd, IsErrOf}
use Rattle.doc_model.specs.declared.words.OpFault.{OpFault}
use Rattle.doc_model.specs.declared.words.OpFault.TheVariants.{BadOp, Memory}

visible_tests : (b : ℕ) → Decides (nat_le 33 b && nat_le b 126) ((33 ≤ b) × (b ≤ 126))
visible_tests b = (
  λ passes. (let parts = and_parts (nat_le 33 b) (nat_le b 126) passes in (leb-true 33 b parts.0, leb-true b 126 parts.1)),
  λ is. and_from (nat_le 33 b) (nat_le b 126) (le-leb 33 b is.0) (le-leb b 126 is.1),
)

visible_decides : (text : List ℕ) → Decides (list_all (λ b. nat_le 33 b && nat_le b 126) text) (All (λ b. (33 ≤ b) × (b ≤ 126)) text)
visible_decides text =
    Decides-by_and (λ b. nat_le 33 b && nat_le b 126) (λ b. (33 ≤ b) × (b ≤ 126)) (list_all (λ b. nat_le 33 b && nat_le b 126)) visible_tests refl (λ _ _. refl) text

plain_decides : (text : List ℕ) → Decides (list_all (nat_le 32) text) (All (λ b. 32 ≤ b) text)
plain_decides text =
    Decides-by_and (nat_le 32) (λ b. 32 ≤ b) (list_all (nat_le 32)) (λ b. (leb-true 32 b, le-leb 32 b)) refl (λ _ _. refl) text

-- the bytes of packed words
unpacked_byte : (words : List ℕ) (len k d : ℕ) → k < len → get_or (unpacked len words) k d ≡ byte_at words k
unpacked_byte words len k d within = get_or-map-range_with_len (byte_at words) 0 len k k d within (zero-add k)

-- where an answer decides of packed bytes that each is from 33 to 126, it is the test of the unpacked text
pub visible_unpacked : (words : List ℕ) (len : ℕ) (answer : Bool) → Decides answer ((i : ℕ) → i < len → IsBetween 33 126 (byte_at words i)) → answer ≡ list_all (λ b. nat_le 33 b && nat_le b 126) (unpacked len words)
visible_unpacked words len answer decides =
    let text = unpacked len words in
    let long : length (unpacked len words) ≡ len = length-map-range_with_len (byte_at words) 0 len in
    same_from_decides answer (list_all (λ b. nat_le 33 b && nat_le b 126) text) (
      λ yes k d below. subst (IsBetween 33 126) (sym (unpacked_byte words len k d (omega arith))) (decides.0 yes k (omega arith)),
      λ all. decides.1 (λ i within. subst (IsBetween 33 126) (unpacked_byte words len i 0 within) (all i 0 (omega arith))),
    ) (visible_decides text)

-- where an answer decides of packed bytes that each is 32 or more, it is the test of the unpacked text
pub plain_unpacked : (words : List ℕ) (len : ℕ) (answer : Bool) → Decides answer ((i : ℕ) → i < len → IsBetween 32 255 (byte_at words i)) → answer ≡ list_all (nat_le 32) (unpacked len words)
plain_unpacked words len answer decides =
    let text = unpacked len words in
    let long : length (unpacked len words) ≡ len = length-map-range_with_len (byte_at words) 0 len in
    same_from_decides answer (list_all (nat_le 32) text) (
      λ yes k d below. subst (λ b. 32 ≤ b) (sym (unpacked_byte words len k d (omega arith))) (decides.0 yes k (omega arith)).0,
      λ all. decides.1 (λ i within. (subst (λ b. 32 ≤ b) (unpacked_byte words len i 0 within) (all i 0 (omega arith)), omega arith)),
    ) (plain_decides text)

-- packed bytes pass as a key exactly where they are 1 to 64 and the test of each passes
pub key_by_test : (words : List ℕ) (len : ℕ) (answer : Bool) → answer ≡ list_all (λ b. nat_le 33 b && nat_le b 126) (unpacked len words) → is_key (unpacked len words) ≡ (nat_le 1 len && nat_le len 64 && answer)
key_by_test words len answer is_test =
    ap₂ (λ n b. nat_le 1 n && nat_le n 64 && b) (length-map-range_with_len (byte_at words) 0 len) (sym is_test)

-- packed bytes pass as a document exactly where they are 1 to 1,024 and the test of each passes
pub document_by_test : (words : List ℕ) (len : ℕ) (answer : Bool) → answer ≡ list_all (nat_le 32) (unpacked len words) → is_document (unpacked len words) ≡ (nat_le 1 len && nat_le len 1024 && answer)
document_by_test words len answer is_test =
    ap₂ (λ n b. nat_le 1 n && nat_le n 1024 && b) (length-map-range_with_len (byte_at words) 0 len) (sym is_test)

-- tests of a length that fail, and that pass
pub too_short_or_long : (len most : ℕ) (rest : Bool) → (len ≡ 0) ⊎ (most < len) → false ≡ (nat_le 1 len && nat_le len most && rest)
too_short_or_long len most rest out = grind (arith, nat_tests, out)

pub long_enough : (len most : ℕ) (rest : Bool) → 0 < len → len ≤ most → rest ≡ (nat_le 1 len && nat_le len most && rest)
long_enough len most rest some few = grind (arith, nat_tests)

pub key_from_test : (key : List ℕ) → is_key key ≡ true → IsKey key
key_from_test key passes =
    let lengths_and_bytes = and_parts (nat_le 1 (length key) && nat_le (length key) 64) (list_all (λ b. nat_le 33 b && nat_le b 126) key) passes in
    let lengths = and_parts (nat_le 1 (length key)) (nat_le (length key) 64) lengths_and_bytes.0 in
    record {
      some = leb-true 1 (length key) lengths.0;
      short = leb-true (length key) 64 lengths.1;
      visible = (visible_decides key).0 lengths_and_bytes.1;
    }

pub key_passes : (key : List ℕ) → IsKey key → is_key key ≡ true
key_passes key is =
    and_from (nat_le 1 (length key) && nat_le (length key) 64) (list_all (λ b. nat_le 33 b && nat_le b 126) key)
    (and_from (nat_le 1 (length key)) (nat_le (length key) 64) (le-leb 1 (length key) is.some) (le-leb (length key) 64 is.short))
    ((visible_decides key).1 is.visible)

pub document_from_test : (document : List ℕ) → IsShortText 1024 document → is_document document ≡ true → IsDocument document
document_from_test document is passes =
    let lengths_and_bytes = and_parts (nat_le 1 (length document) && nat_le (length document) 1024) (list_all (nat_le 32) document) passes in
    let lengths = and_parts (nat_le 1 (length document)) (nat_le (length document) 1024) lengths_and_bytes.0 in
    record {
      some = leb-true 1 (length document) lengths.0;
      short = leb-true (length document) 1024 lengths.1;
      plain = λ k d below. ((plain_decides document).0 lengths_and_bytes.1 k d below, is.bytes k d below);
    }

pub document_passes : (document : List ℕ) → IsDocument document → is_document document ≡ true
document_passes document is =
    and_from (nat_le 1 (length document) && nat_le (length document) 1024) (list_all (nat_le 32) document)
    (and_from (nat_le 1 (length document)) (nat_le (length document) 1024) (le-leb 1 (length document) is.some) (le-leb (length document) 1024 is.short))
    ((plain_decides document).1 (λ k d below. (is.plain k d below).0))

pub no_text : (most : ℕ) → IsShortText most []
no_text most = record { short = omega arith; bytes = λ k d below. absurd (omega arith) }

pub key_text : (key : List ℕ) → IsKey key → IsShortText 64 key
key_text key is = record { short = is.short; bytes = λ k d below. (let seen = is.visible k d below in omega arith) }

pub document_text : (document : List ℕ) → IsDocument document → IsShortText 1024 document
document_text document is = record { short = is.short; bytes = λ k d below. (is.plain k d below).1 }

pub only_key : (key document : List ℕ) → has_key_only key document ≡ true → IsKey key × (document ≡ [])
only_key key document passes =
    let parts = and_parts (is_key key) (length document == 0) passes in
    (key_from_test key parts.0, nil_from_length document (eqb-true (length document) 0 parts.1))

pub neither : (key document : List ℕ) → has_no_text key document ≡ true → (key ≡ []) × (document ≡ [])
neither key document passes =
    let parts = and_parts (length key == 0) (length document == 0) passes in
    (nil_from_length key (eqb-true (length key) 0 parts.0), nil_from_length document (eqb-true (length document) 0 parts.1))

-- ---- what holds of each number below n

abbrev pub AllBelow : (ℕ → Type 0) → ℕ → Type 0
AllBelow P zero = Unit {0}
AllBelow P (suc n) = AllBelow P n × P n

pub below : (P : ℕ → Type 0) (n : ℕ) → AllBelow P n → (k : ℕ) → k < n → P k
below P zero all k l = absurd (omega arith)
below P (suc n) all k l = elim (cases_lt k n) [
  | inl less ↦ below P n all.0 k less
  | inr last ↦ (let same : n ≡ k = omega arith in subst P same all.1)
]

-- out of memory is no refusal
pub memory_is_not_bad : {T : Type 0} (answer : Result T OpFault) → IsErrAnd answer (λ fault. fault ≡ Memory) → IsErrOf answer BadOp → ⊥
memory_is_not_bad (Ok x) memory bad = cc
memory_is_not_bad (Err e) memory bad = cc
