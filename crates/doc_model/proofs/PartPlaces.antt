-- Where the parts of words stand, and that words have no other parts.
use Rattle.std.proofs.Common.{◌≡◌, ℕ, ◌+◌, ◌-◌, ◌*◌, ◌^◌, ◌<◌, ◌≤◌, List, [], ◌++◌, length, get_or, take, drop, min, All, refl, sym, ap, ap₂, inl, inr, ◌∙◌, arith, append_assoc, zero-add, length-append, length-drop, subst}
use Rattle.std.proofs.lemmas.List.{append-nil, take_at, take_all, drop_at, drop_all, drop-drop, get_or_past, get_or-drop, get_or-take}
use Rattle.std.proofs.lemmas.Bool.{cases_lt}
use Rattle.std.proofs.lemmas.List.FromFn.{length-map-range_with_len, get_or-map-range_with_len}
use Rattle.std.proofs.lemmas.Slice.{take-put_mid}
use borrow.Rule.Slice.PartMut.{put_mid}
use Rattle.std.proofs.lemmas.List.Elements.{All-map, All-append, All-from_recursion}
use Rattle.std.specs.List.{range_with_len}
use Rattle.cx_base.specs.Packing.{packed, unpacked, packed_at, byte_at}
use Rattle.cx_base.proofs.PackingLemmas.{unpacked-packed, packed_fit}
use Rattle.doc_model.specs.Words.{head_words, words_in, words_with}
use Rattle.doc_model.specs.WordParts.{IsShortText}

-- eight words, a part of n words behind them, and a part to the end
pub written : (into head key document : List ℕ) (n : ℕ) → length head ≡ 8 → 8 + n ≤ length into → length key ≡ n →
    let middle = put_mid 8 (8 + n - 8) (head ++ drop 8 into) key in
    put_mid (8 + n) (length middle - (8 + n)) middle document ≡ head ++ (key ++ document)
written into head key document n head_long room key_long =
    let first = head ++ drop 8 into in
    let middle = put_mid 8 (8 + n - 8) (head ++ drop 8 into) key in
    let long : 8 ≤ length (head ++ drop 8 into) = simp length-append (omega arith) in
    let front : take (8 + n) middle ≡ head ++ key =
    take-put_mid 8 (8 + n - 8) first key (8 + n) (omega arith) long ∙ ap (λ t. t ++ key) (take_at head (drop 8 into) 8 head_long) in
    let back : drop (length middle - (8 + n)) (drop (8 + n) middle) ≡ [] =
    drop_all (length middle - (8 + n)) (drop (8 + n) middle) (simp length-drop (omega arith)) in
    ap (λ t. t ++ (document ++ drop (length middle - (8 + n)) (drop (8 + n) middle))) front
    ∙ ap (λ t. (head ++ key) ++ (document ++ t)) back
    ∙ ap (λ t. (head ++ key) ++ t) (append-nil document)
    ∙ append_assoc head key document

pub length-packed : (n : ℕ) (text : List ℕ) → length (packed n text) ≡ n
length-packed n text = length-map-range_with_len (packed_at text) 0 n

-- what is packed into as many words as it has
pub packed_as : (part text : List ℕ) (n m : ℕ) → part ≡ packed n text → length part ≡ m → part ≡ packed m text
packed_as part text n m is long = is ∙ ap (λ k. packed k text) (sym (length-packed n text) ∙ sym (ap length is) ∙ long)

module _ (m n kind : ℕ) (key document : List ℕ) (number : ℕ) where
  pub kind_in : get_or (words_in m n kind key document number) 0 0 ≡ kind
  unfolding words_in
  kind_in = refl

  pub key_length_in : get_or (words_in m n kind key document number) 1 0 ≡ length key
  unfolding words_in
  key_length_in = refl

  pub document_length_in : get_or (words_in m n kind key document number) 2 0 ≡ length document
  unfolding words_in
  document_length_in = refl

  pub number_in : get_or (words_in m n kind key document number) 3 0 ≡ number
  unfolding words_in
  number_in = refl

  pub key_in : take m (drop 8 (words_in m n kind key document number)) ≡ packed m key
  unfolding words_in
  key_in = take_at (packed m key) (packed n document) m (length-packed m key)

  pub document_in : take n (drop (8 + m) (words_in m n kind key document number)) ≡ packed n document
  unfolding words_in
  document_in =
      let behind : drop (8 + m) (head_words kind key document number ++ (packed m key ++ packed n document)) ≡ packed n document =
      sym (drop-drop m 8 (head_words kind key document number ++ (packed m key ++ packed n document)))
      ∙ drop_at (packed m key) (packed n document) m (length-packed m key) in
      ap (take n) behind ∙ take_all n (packed n document) (omega (arith, length-packed n document))

-- a byte behind the end is 0
bytes_small : (text : List ℕ) → All (λ b. b < 256) text → (i : ℕ) → get_or text i 0 < 256
bytes_small text small i = elim (cases_lt i (length text)) [
  | inl within ↦ small i 0 within
  | inr past ↦ omega (arith, get_or_past text i 0 past)
]

-- a text is read again from the words that hold it
pub text_again : (most n : ℕ) (text : List ℕ) → IsShortText most text → most ≤ 8 * n → unpacked (min (length text) most) (packed n text) ≡ text
text_again most n text is room =
    let short = is.short in
    ap (λ k. unpacked k (packed n text)) (omega arith) ∙ unpacked-packed n text (bytes_small text is.bytes) (omega arith)

-- parts are read again from their words
pub parts_again : (m n most_key most_document kind : ℕ) (key document : List ℕ) (number : ℕ) (words : List ℕ) →
    IsShortText most_key key → most_key ≤ 8 * m → IsShortText most_document document → most_document ≤ 8 * n → words ≡ words_in m n kind key document number →
    (get_or words 0 0 ≡ kind) × (unpacked (min (get_or words 1 0) most_key) (take m (drop 8 words)) ≡ key) × (unpacked (min (get_or words 2 0) most_document) (take n (drop (8 + m) words)) ≡ document) × (get_or words 3 0 ≡ number)
parts_again m n most_key most_document kind key document number words key_is key_room document_is document_room is =
    let at : ℕ → ℕ = λ i. get_or words i 0 in (
      ap (λ w. get_or w 0 0) is ∙ kind_in m n kind key document number,
      ap (λ w. unpacked (min (get_or w 1 0) most_key) (take m (drop 8 w))) is
          ∙ ap₂ (λ k w. unpacked (min k most_key) w) (key_length_in m n kind key document number) (key_in m n kind key document number)
          ∙ text_again most_key m key key_is key_room,
      ap (λ w. unpacked (min (get_or w 2 0) most_document) (take n (drop (8 + m) w))) is
          ∙ ap₂ (λ k w. unpacked (min k most_document) w) (document_length_in m n kind key document number) (document_in m n kind key document number)
          ∙ text_again most_document n document document_is document_room,
      ap (λ w. get_or w 3 0) is ∙ number_in m n kind key document number,
    )

-- the parts are the same
pub record SameParts (kind : ℕ) (key document : List ℕ) (number : ℕ) (kind' : ℕ) (key' document' : List ℕ) (number' : ℕ) : Type 0 where
  pub kinds : kind ≡ kind'
  pub keys : key ≡ key'
  pub documents : document ≡ document'
  pub numbers : number ≡ number'

-- parts that have the same words are the same
pub parts_same : (kind : ℕ) (key document : List ℕ) (number : ℕ) (kind' : ℕ) (key' document' : List ℕ) (number' : ℕ) →
    IsShortText 64 key → IsShortText 1024 document → IsShortText 64 key' → IsShortText 1024 document' →
    words_with kind key document number ≡ words_with kind' key' document' number' →
    SameParts kind key document number kind' key' document' number'
parts_same kind key document number kind' key' document' number' key_is document_is key'_is document'_is same =
    let words = words_with kind' key' document' number' in
    let one = parts_again 8 128 64 1024 kind key document number words key_is (omega arith) document_is (omega arith) (sym same) in
    let other = parts_again 8 128 64 1024 kind' key' document' number' words key'_is (omega arith) document'_is (omega arith) refl in
    record {
      kinds = sym one.0 ∙ other.0;
      keys = sym one.1 ∙ other.1;
      documents = sym one.2 ∙ other.2;
      numbers = sym one.3 ∙ other.3;
    }

-- what holds of parts holds of the same parts
pub carried : (P : ℕ → List ℕ → List ℕ → ℕ → Type 0) (kind : ℕ) (key document : List ℕ) (number : ℕ) (kind' : ℕ) (key' document' : List ℕ) (number' : ℕ) →
    SameParts kind key document number kind' key' document' number' → P kind key document number → P kind' key' document' number'
carried P kind key document number kind' key' document' number' same holds =
    subst (λ k. P k key' document' number') same.kinds
    (subst (λ k. P kind k document' number') same.keys
    (subst (λ d. P kind key d number') same.documents
    (subst (λ n. P kind key document n) same.numbers holds)))

-- what is read from words is a text
pub unpacked_text : (n most : ℕ) (words : List ℕ) → IsShortText most (unpacked (min n most) words)
unpacked_text n most words =
    let long = length-map-range_with_len (byte_at words) 0 (min n most) in
    record {
      short = omega arith;
      bytes = All-map (λ b. b < 256) (byte_at words) (range_with_len 0 (min n most)) (λ k d l. omega arith);
    }

-- ---- which words these are

module _ (m n kind : ℕ) (key document : List ℕ) (number : ℕ) where
  pub length-words : length (words_in m n kind key document number) ≡ 8 + (m + n)
  unfolding words_in
  length-words =
      let parts = length-append (packed m key) (packed n document) in
      let key_long = length-packed m key in
      let document_long = length-packed n document in
      omega arith

  pub key_word_in : (k : ℕ) → k < m → get_or (words_in m n kind key document number) (8 + k) 0 ≡ packed_at key k
  key_word_in k within =
      let words = words_in m n kind key document number in
      sym (get_or-drop 8 words k 0)
      ∙ sym (get_or-take m (drop 8 words) k 0 within)
      ∙ ap (λ part. get_or part k 0) (key_in m n kind key document number)
      ∙ get_or-map-range_with_len (packed_at key) 0 m k k 0 within (zero-add k)

  pub document_word_in : (k : ℕ) → k < n → get_or (words_in m n kind key document number) (8 + m + k) 0 ≡ packed_at document k
  document_word_in k within =
      let words = words_in m n kind key document number in
      sym (get_or-drop (8 + m) words k 0)
      ∙ sym (get_or-take n (drop (8 + m) words) k 0 within)
      ∙ ap (λ part. get_or part k 0) (document_in m n kind key document number)
      ∙ get_or-map-range_with_len (packed_at document) 0 n k k 0 within (zero-add k)

  pub words_fit : kind < 2 ^ 64 → IsShortText (8 * m) key → IsShortText (8 * n) document → 8 * m < 2 ^ 64 → 8 * n < 2 ^ 64 → number < 2 ^ 64 →
      All (λ w. w < 2 ^ 64) (words_in m n kind key document number)
  unfolding words_in
  words_fit kind_small key_is document_is key_room document_room number_small =
      let key_short = key_is.short in
      let document_short = document_is.short in
      let fits : ℕ → Type 0 = λ w. w < 2 ^ 64 in
      let texts = packed m key ++ packed n document in
      let zero_fits : 0 < 2 ^ 64 = omega arith in
      let key_length_fits : length key < 2 ^ 64 = omega arith in
      let document_length_fits : length document < 2 ^ 64 = omega arith in
      All-append fits (head_words kind key document number) texts
      (All-from_recursion fits (head_words kind key document number)
      (kind_small, (key_length_fits, (document_length_fits, (number_small, (zero_fits, (zero_fits, (zero_fits, (zero_fits, tt)))))))))
      (All-append fits (packed m key) (packed n document) (packed_fit m key (bytes_small key key_is.bytes)) (packed_fit n document (bytes_small document document_is.bytes)))
