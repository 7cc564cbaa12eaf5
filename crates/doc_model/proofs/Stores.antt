-- What an operation keeps of a store.
use Rattle.std.proofs.Common.{◌≡◌, ℕ, suc, ◌^◌, ◌<◌, ◌≤◌, true, List, ◌∷◌, refl, arith}
use Rattle.std.specs.Prelude.{ℤ, pos, negsuc}
use Rattle.std.specs.List.{All}
use Rattle.std.specs.Fmt.{decimal, signed_decimal}
use Rattle.std.specs.Ordering.{is_lt}
use Rattle.std.specs.declared.cmp.Ordering.{Ordering}
use Rattle.std.specs.declared.cmp.Ordering.TheVariants.{Less, Equal, Greater}
use Rattle.std.proofs.lemmas.Bool.{ltb-true}
use Rattle.std.proofs.lemmas.Fmt.{digits_decimal, decimal_nonempty, length-decimal-le}
use Rattle.std.proofs.lemmas.Str.Parse.{digit_at}
use Rattle.std.proofs.lemmas.List.Elements.{All-append, All-cons, All-filter, All-from_get_or, filter_passes}
use Rattle.cx_base.specs.Store.{Store, KeysRise, key_cmp, IsKey, IsDocument, IsStore}
use Rattle.doc_model.specs.Meaning.{pairs_below, pairs_above, with_pair, without_key}
use Rattle.plain_text.specs.Number.{is_i64}
use Rattle.plain_text.proofs.Numerals.{numerals}
use Rattle.doc_model.proofs.Order.{IsBelow, IsAbove, KeysRise-filter, KeysRise-append, KeysRise-between}

-- what the pairs below and above a key have
is_less : (o : Ordering) → is_lt o ≡ true → o ≡ Less
is_less Less h = refl
is_less Equal h = cc
is_less Greater h = cc

all_below : (key : List ℕ) (store : Store) → All (IsBelow key) (pairs_below key store)
all_below key store = λ k d lt. is_less _ (filter_passes (λ p. is_lt (key_cmp p.0 key)) store k d lt)

all_above : (key : List ℕ) (store : Store) → All (IsAbove key) (pairs_above key store)
all_above key store = λ k d lt. is_less _ (filter_passes (λ p. is_lt (key_cmp key p.0)) store k d lt)

below_rises : (key : List ℕ) (store : Store) → KeysRise store → KeysRise (pairs_below key store)
below_rises key store rising = KeysRise-filter (λ p. is_lt (key_cmp p.0 key)) store rising

above_rises : (key : List ℕ) (store : Store) → KeysRise store → KeysRise (pairs_above key store)
above_rises key store rising = KeysRise-filter (λ p. is_lt (key_cmp key p.0)) store rising

-- the keys go on rising
pub with_pair_rises : (key document : List ℕ) (store : Store) → KeysRise store → KeysRise (with_pair key document store)
with_pair_rises key document store rising = KeysRise-between key document (pairs_below key store) (pairs_above key store) (below_rises key store rising) (above_rises key store rising) (all_below key store) (all_above key store)

pub without_key_rises : (key : List ℕ) (store : Store) → KeysRise store → KeysRise (without_key key store)
without_key_rises key store rising = KeysRise-append key (pairs_below key store) (pairs_above key store) (below_rises key store rising) (above_rises key store rising) (all_below key store) (all_above key store)

-- a pair within the limits keeps the limits
All-with_pair : (P : List ℕ × List ℕ → Type 0) (key document : List ℕ) (store : Store) → P (key, document) → All P store → All P (with_pair key document store)
All-with_pair P key document store here all =
    All-append P (pairs_below key store) ((key, document) ∷ pairs_above key store) (All-filter (λ p. is_lt (key_cmp p.0 key)) P store all)
    (All-cons P (key, document) (pairs_above key store) here (All-filter (λ p. is_lt (key_cmp key p.0)) P store all))

All-without_key : (P : List ℕ × List ℕ → Type 0) (key : List ℕ) (store : Store) → All P store → All P (without_key key store)
All-without_key P key store all =
    All-append P (pairs_below key store) (pairs_above key store) (All-filter (λ p. is_lt (key_cmp p.0 key)) P store all) (All-filter (λ p. is_lt (key_cmp key p.0)) P store all)

pub IsStore-with_pair : (key document : List ℕ) (store : Store) → IsKey key → IsDocument document → IsStore store → IsStore (with_pair key document store)
IsStore-with_pair key document store is_key is_document lawful = record {
  rising = with_pair_rises key document store lawful.rising;
  keys = All-with_pair (λ p. IsKey p.0) key document store is_key lawful.keys;
  documents = All-with_pair (λ p. IsDocument p.1) key document store is_document lawful.documents;
}

pub IsStore-without_key : (key : List ℕ) (store : Store) → IsStore store → IsStore (without_key key store)
IsStore-without_key key store lawful = record {
  rising = without_key_rises key store lawful.rising;
  keys = All-without_key (λ p. IsKey p.0) key store lawful.keys;
  documents = All-without_key (λ p. IsDocument p.1) key store lawful.documents;
}

-- the text of a 64-bit integer is a document
decimal_plain : (n : ℕ) → n < 2 ^ 64 → All (λ b. (32 ≤ b) × (b < 256)) (decimal n)
decimal_plain n h = All-from_get_or (λ b. (32 ≤ b) × (b < 256)) (decimal n) 0 (λ i lt.
    let digit = digit_at (decimal n) i (numerals.to (decimal n) (digits_decimal numerals n h)) lt in
    (omega arith, omega arith))

pub IsDocument-signed_decimal : (z : ℤ) → is_i64 z ≡ true → IsDocument (signed_decimal z)
IsDocument-signed_decimal (pos n) h =
    let fits : n < 2 ^ 63 = ltb-true n (2 ^ 63) h in
    let small : n < 2 ^ 64 = omega arith in
    record { some = decimal_nonempty n small; short = omega (arith, length-decimal-le 20 n (omega arith) (omega arith) small); plain = decimal_plain n small }
IsDocument-signed_decimal (negsuc n) h =
    let fits : n < 2 ^ 63 = ltb-true n (2 ^ 63) h in
    let small : suc n < 2 ^ 64 = omega arith in
    record {
      some = omega arith;
      short = omega (arith, length-decimal-le 20 (suc n) (omega arith) (omega arith) small);
      plain = All-cons (λ b. (32 ≤ b) × (b < 256)) 45 (decimal (suc n)) (omega arith, omega arith) (decimal_plain (suc n) small);
    }
