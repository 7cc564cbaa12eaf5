-- Texts that are packed into words: what is behind them, and their bytes.
use Rattle.std.proofs.Common.{◌≡◌, ℕ, ◌+◌, ◌-◌, ◌*◌, ◌/◌, ◌%◌, ◌^◌, ◌<◌, ◌≤◌, inl, inr, List, length, get_or, drop, max, All, sym, ap, ap₂, subst, ◌∙◌, zero-add, arith}
use Rattle.std.specs.Int.{bit_at}
use Rattle.std.specs.Int.RustNames.{bit_or}
use Rattle.std.proofs.lemmas.Nat.{shr-shr, shr_le}
use Rattle.std.proofs.lemmas.Nat.Bits.{bit_at_or, bit_at-zero, same_from_bits}
use Rattle.std.proofs.lemmas.Bool.{cases_lt}
use Rattle.std.proofs.lemmas.List.{get_or_past, get_or_default, get_or-drop}
use Rattle.std.proofs.lemmas.List.FromFn.{length-map-range_with_len, get_or-map-range_with_len}
use Rattle.cx_base.specs.Packing.{byte_at, packed, packed_at, unpacked}
use Rattle.cx_base.proofs.PackingLemmas.{packed_byte, word_of_bytes}
use Rattle.doc_model.specs.WordParts.{IsBetween, IsPadded, IsShortText}

-- ---- words that are 0

-- neither number of two has a bit where both together have none
pub or_zero : (a b : ℕ) → bit_or a b ≡ 0 → (a ≡ 0) × (b ≡ 0)
or_zero a b e =
    let bits : (i : ℕ) → max (bit_at a i) (bit_at b i) ≡ 0 = λ i. sym (bit_at_or a b i) ∙ ap (λ n. bit_at n i) e ∙ bit_at-zero i in (
      same_from_bits a 0 (λ i. (let both = bits i in let none = bit_at-zero i in omega arith)),
      same_from_bits b 0 (λ i. (let both = bits i in let none = bit_at-zero i in omega arith)),
    )

zero_byte : (words : List ℕ) (i : ℕ) → get_or words (i / 8) 0 ≡ 0 → byte_at words i ≡ 0
zero_byte words i e =
    let none : 0 / 2 ^ (8 * (i % 8)) ≤ 0 = shr_le 0 (8 * (i % 8)) in
    ap (λ w. w / 2 ^ (8 * (i % 8)) % 256) e ∙ omega arith

-- a byte past one from which on none is set
byte_past : (w r j : ℕ) → w / 2 ^ (8 * r) ≡ 0 → r ≤ j → w / 2 ^ (8 * j) % 256 ≡ 0
byte_past w r j e past =
    let split : 8 * r + 8 * (j - r) ≡ 8 * j = omega arith in
    let none : 0 / 2 ^ (8 * (j - r)) ≤ 0 = shr_le 0 (8 * (j - r)) in
    let is : w / 2 ^ (8 * j) ≡ 0 / 2 ^ (8 * (j - r)) =
    ap (λ n. w / 2 ^ n) (sym split) ∙ sym (shr-shr w (8 * r) (8 * (j - r))) ∙ ap (λ n. n / 2 ^ (8 * (j - r))) e in
    omega arith

-- where no byte of a word is set from byte `r` on, nothing is left of the word from there on
past_bytes : (w r : ℕ) → w < 2 ^ 64 → ((j : ℕ) → r ≤ j → j < 8 → w / 2 ^ (8 * j) % 256 ≡ 0) → w / 2 ^ (8 * r) ≡ 0
past_bytes w r small none =
    let v = w / 2 ^ (8 * r) in
    let v_small : w / 2 ^ (8 * r) ≤ w = shr_le w (8 * r) in
    let beyond : (j : ℕ) → 8 ≤ j → w / 2 ^ (8 * j) % 256 ≡ 0 = λ j far. byte_past w 8 j (omega arith) far in
    let at : (m : ℕ) → w / 2 ^ (8 * r) / 2 ^ (8 * m) % 256 ≡ 0 = λ m. (
    let split : 8 * r + 8 * m ≡ 8 * (r + m) = omega arith in
    let is : w / 2 ^ (8 * r) / 2 ^ (8 * m) % 256 ≡ w / 2 ^ (8 * (r + m)) % 256 = ap (λ n. n % 256) (shr-shr w (8 * r) (8 * m)) ∙ ap (λ n. w / 2 ^ n % 256) split in
    is ∙ elim (cases_lt (r + m) 8) [ inl near ↦ none (r + m) (omega arith) near | inr far ↦ beyond (r + m) far ]) in
    let sum = word_of_bytes (w / 2 ^ (8 * r)) (omega arith) in
    let first : w / 2 ^ (8 * r) / 2 ^ 0 % 256 ≡ 0 = at 0 in
    omega (arith, sum, first, at 1, at 2, at 3, at 4, at 5, at 6, at 7)

-- ---- what is behind a text

-- the word in which a text ends, shifted by what it has of the text
pub padded_from : (words : List ℕ) (len : ℕ) → get_or words (len / 8) 0 / 2 ^ (8 * (len % 8)) ≡ 0 → ((k : ℕ) → len / 8 < k → get_or words k 0 ≡ 0) → IsPadded len words
padded_from words len here behind = λ i past. elim (cases_lt (len / 8) (i / 8)) [
  | inl more ↦ zero_byte words i (behind (i / 8) more)
  | inr same ↦ (
      let word : len / 8 ≡ i / 8 = omega arith in
      ap (λ k. get_or words k 0 / 2 ^ (8 * (i % 8)) % 256) (sym word) ∙ byte_past (get_or words (len / 8) 0) (len % 8) (i % 8) here (omega arith))
]

-- a byte of a word
byte_of_word : (words : List ℕ) (k j : ℕ) → j < 8 → byte_at words (8 * k + j) ≡ get_or words k 0 / 2 ^ (8 * j) % 256
byte_of_word words k j below =
    let word : (8 * k + j) / 8 ≡ k = omega arith in
    let byte : (8 * k + j) % 8 ≡ j = omega arith in
    ap₂ (λ m n. get_or words m 0 / 2 ^ (8 * n) % 256) word byte

-- the bytes of a word that are all between two numbers, where they stand
pub more_between : (words : List ℕ) (least most at : ℕ) → ((i : ℕ) → i < 8 → IsBetween least most (get_or words at 0 / 2 ^ (8 * i) % 256))
    → ((k : ℕ) → k < 8 * at → IsBetween least most (byte_at words k)) → (k : ℕ) → k < 8 * (at + 1) → IsBetween least most (byte_at words k)
more_between words least most at here before k below = elim (cases_lt k (8 * at)) [
  | inl less ↦ before k less
  | inr from ↦ (
      let place : 8 * at + (k - 8 * at) ≡ k = omega arith in
      let within : k - 8 * at < 8 = omega arith in
      let byte : get_or words at 0 / 2 ^ (8 * (k - 8 * at)) % 256 ≡ byte_at words k = sym (byte_of_word words at (k - 8 * at) within) ∙ ap (byte_at words) place in
      subst (IsBetween least most) byte (here (k - 8 * at) within))
]

-- where the first `len` bytes of packed words are between two numbers, so are all bytes of each whole word of them
pub word_between : (words : List ℕ) (least most len at : ℕ) → at < len / 8 → ((k : ℕ) → k < len → IsBetween least most (byte_at words k))
    → (i : ℕ) → i < 8 → IsBetween least most (get_or words at 0 / 2 ^ (8 * i) % 256)
word_between words least most len at whole all i below = subst (IsBetween least most) (byte_of_word words at i below) (all (8 * at + i) (omega arith))

pub padded_here : (words : List ℕ) (len : ℕ) → ((k : ℕ) → get_or words k 0 < 2 ^ 64) → IsPadded len words → get_or words (len / 8) 0 / 2 ^ (8 * (len % 8)) ≡ 0
padded_here words len small padded =
    past_bytes (get_or words (len / 8) 0) (len % 8) (small (len / 8)) (λ j past below. sym (byte_of_word words (len / 8) j below) ∙ padded (8 * (len / 8) + j) (omega arith))

pub padded_behind : (words : List ℕ) (len : ℕ) → ((k : ℕ) → get_or words k 0 < 2 ^ 64) → IsPadded len words → (k : ℕ) → len / 8 < k → get_or words k 0 ≡ 0
padded_behind words len small padded k past =
    let none = past_bytes (get_or words k 0) 0 (small k) (λ j from below. sym (byte_of_word words k j below) ∙ padded (8 * k + j) (omega arith)) in
    omega arith

-- words are padded behind `len` bytes where nothing of the word there is set from that byte on, and all words behind it are 0
pub padded_by : (words : List ℕ) (len : ℕ) → get_or words (len / 8) 0 / 2 ^ (8 * (len % 8)) ≡ 0 → All (λ w. w ≡ 0) (drop (len / 8 + 1) words) → IsPadded len words
padded_by words len here rest = padded_from words len here (λ k more. (
    let place : len / 8 + 1 + (k - (len / 8 + 1)) ≡ k = omega arith in
    ap (λ n. get_or words n 0) (sym place) ∙ sym (get_or-drop (len / 8 + 1) words (k - (len / 8 + 1)) 0)
    ∙ all_zero (drop (len / 8 + 1) words) rest (k - (len / 8 + 1))))
  where
    all_zero : (xs : List ℕ) → All (λ w. w ≡ 0) xs → (k : ℕ) → get_or xs k 0 ≡ 0
    all_zero xs all k = elim (cases_lt k (length xs)) [ inl within ↦ all k 0 within | inr past ↦ get_or_past xs k 0 past ]

pub rest_zero : (words : List ℕ) (len : ℕ) → ((k : ℕ) → get_or words k 0 < 2 ^ 64) → IsPadded len words → All (λ w. w ≡ 0) (drop (len / 8 + 1) words)
rest_zero words len small padded k d within =
    get_or_default (drop (len / 8 + 1) words) k d 0 within ∙ get_or-drop (len / 8 + 1) words k 0 ∙ padded_behind words len small padded (len / 8 + 1 + k) (omega arith)

-- ---- the text is packed

pub length_unpacked : (len : ℕ) (words : List ℕ) → length (unpacked len words) ≡ len
length_unpacked len words = length-map-range_with_len (byte_at words) 0 len

byte_again : (words : List ℕ) (len k j : ℕ) → IsPadded len words → j < 8 → get_or (unpacked len words) (8 * k + j) 0 ≡ get_or words k 0 / 2 ^ (8 * j) % 256
byte_again words len k j padded below = elim (cases_lt (8 * k + j) len) [
  | inl within ↦ get_or-map-range_with_len (byte_at words) 0 len (8 * k + j) (8 * k + j) 0 within (zero-add (8 * k + j)) ∙ byte_of_word words k j below
  | inr past ↦ get_or_past (unpacked len words) (8 * k + j) 0 (omega (arith, length_unpacked len words)) ∙ sym (padded (8 * k + j) past) ∙ byte_of_word words k j below
]

pub packed_again : (words : List ℕ) (len : ℕ) → ((k : ℕ) → get_or words k 0 < 2 ^ 64) → IsPadded len words → (k : ℕ) → packed_at (unpacked len words) k ≡ get_or words k 0
packed_again words len small padded k =
    let at : (j : ℕ) → j < 8 → get_or (unpacked len words) (8 * k + j) 0 ≡ get_or words k 0 / 2 ^ (8 * j) % 256 = λ j below. byte_again words len k j padded below in
    let place : 8 * k + 0 ≡ 8 * k = omega arith in
    let first : get_or (unpacked len words) (8 * k) 0 ≡ get_or words k 0 / 2 ^ (8 * 0) % 256 = ap (λ m. get_or (unpacked len words) m 0) (sym place) ∙ at 0 (omega arith) in
    let whole = word_of_bytes (get_or words k 0) (small k) in
    omega (arith, whole, first, at 1 (omega arith), at 2 (omega arith), at 3 (omega arith), at 4 (omega arith), at 5 (omega arith), at 6 (omega arith), at 7 (omega arith))

byte_small : (text : List ℕ) → All (λ b. b < 256) text → (i : ℕ) → get_or text i 0 < 256
byte_small text small i = elim (cases_lt i (length text)) [
  | inl within ↦ small i 0 within
  | inr past ↦ omega (arith, get_or_past text i 0 past)
]

-- behind a text that is packed
pub packed_padded : (n most : ℕ) (text : List ℕ) → IsShortText most text → IsPadded (length text) (packed n text)
packed_padded n most text is = λ i past. elim (cases_lt i (8 * n)) [
  | inl within ↦ packed_byte n i text (byte_small text is.bytes) within ∙ get_or_past text i 0 past
  | inr far ↦ zero_byte (packed n text) i (get_or_past (packed n text) (i / 8) 0 (omega (arith, length-map-range_with_len (packed_at text) 0 n)))
]
