-- Bytes in words.
use Rattle.std.proofs.Common.{◌≡◌, ℕ, zero, suc, ◌+◌, ◌*◌, ◌/◌, ◌%◌, ◌^◌, ◌<◌, ◌≤◌, List, length, get_or, refl, sym, ap, add-zero, zero-add, ◌∙◌, arith}
use Rattle.std.specs.List.{range_with_len, All}
use Rattle.std.proofs.lemmas.List.{get_or_past}
use Rattle.std.proofs.lemmas.List.FromFn.{fill_by_all, get_or-map-range_with_len}
use Rattle.std.proofs.lemmas.List.Elements.{All-map}
use Rattle.cx_base.specs.Packing.{byte_at, unpacked, packed_at, packed}

-- a fact of each number below 8
below_8 : (P : ℕ → Type 0) → P 0 → P 1 → P 2 → P 3 → P 4 → P 5 → P 6 → P 7 → (j : ℕ) → j < 8 → P j
below_8 P a b c d e f g h zero l = a
below_8 P a b c d e f g h (suc zero) l = b
below_8 P a b c d e f g h (suc (suc zero)) l = c
below_8 P a b c d e f g h (suc (suc (suc zero))) l = d
below_8 P a b c d e f g h (suc (suc (suc (suc zero)))) l = e
below_8 P a b c d e f g h (suc (suc (suc (suc (suc zero))))) l = f
below_8 P a b c d e f g h (suc (suc (suc (suc (suc (suc zero)))))) l = g
below_8 P a b c d e f g h (suc (suc (suc (suc (suc (suc (suc zero))))))) l = h
below_8 P a b c d e f g h (suc (suc (suc (suc (suc (suc (suc (suc j)))))))) l = absurd (omega arith)

-- a word past the bytes' end
pub packed_at-past : (bytes : List ℕ) (k : ℕ) → length bytes ≤ 8 * k → packed_at bytes k ≡ 0
packed_at-past bytes k past =
    omega (
      arith,
      get_or_past bytes (8 * k) 0 past,
      get_or_past bytes (8 * k + 1) 0 (omega arith),
      get_or_past bytes (8 * k + 2) 0 (omega arith),
      get_or_past bytes (8 * k + 3) 0 (omega arith),
      get_or_past bytes (8 * k + 4) 0 (omega arith),
      get_or_past bytes (8 * k + 5) 0 (omega arith),
      get_or_past bytes (8 * k + 6) 0 (omega arith),
      get_or_past bytes (8 * k + 7) 0 (omega arith),
    )

-- eight bytes as one number
bytes_sum : ℕ → ℕ → ℕ → ℕ → ℕ → ℕ → ℕ → ℕ → ℕ
bytes_sum a b c d e f g h = a + 2 ^ 8 * b + 2 ^ 16 * c + 2 ^ 24 * d + 2 ^ 32 * e + 2 ^ 40 * f + 2 ^ 48 * g + 2 ^ 56 * h

-- each of them read off it
module _ (a b c d e f g h : ℕ) (a_small : a < 256) (b_small : b < 256) (c_small : c < 256) (d_small : d < 256)
    (e_small : e < 256) (f_small : f < 256) (g_small : g < 256) (h_small : h < 256) where
  byte_0 : bytes_sum a b c d e f g h / 2 ^ 0 % 256 ≡ a
  unfolding bytes_sum
  byte_0 = omega arith

  byte_1 : bytes_sum a b c d e f g h / 2 ^ 8 % 256 ≡ b
  unfolding bytes_sum
  byte_1 = omega arith

  byte_2 : bytes_sum a b c d e f g h / 2 ^ 16 % 256 ≡ c
  unfolding bytes_sum
  byte_2 = omega arith

  byte_3 : bytes_sum a b c d e f g h / 2 ^ 24 % 256 ≡ d
  unfolding bytes_sum
  byte_3 = omega arith

  byte_4 : bytes_sum a b c d e f g h / 2 ^ 32 % 256 ≡ e
  unfolding bytes_sum
  byte_4 = omega arith

  byte_5 : bytes_sum a b c d e f g h / 2 ^ 40 % 256 ≡ f
  unfolding bytes_sum
  byte_5 = omega arith

  byte_6 : bytes_sum a b c d e f g h / 2 ^ 48 % 256 ≡ g
  unfolding bytes_sum
  byte_6 = omega arith

  byte_7 : bytes_sum a b c d e f g h / 2 ^ 56 % 256 ≡ h
  unfolding bytes_sum
  byte_7 = omega arith

-- a byte of the word that holds it
pub byte_in_word : (bytes : List ℕ) (k j : ℕ) → ((i : ℕ) → get_or bytes i 0 < 256) → j < 8 → packed_at bytes k / 2 ^ (8 * j) % 256 ≡ get_or bytes (8 * k + j) 0
unfolding bytes_sum
byte_in_word bytes k j small l =
    let at : ℕ → ℕ = λ i. get_or bytes (8 * k + i) 0 in
    let is : (i : ℕ) → get_or bytes (8 * k + i) 0 < 256 = λ i. small (8 * k + i) in
    let first : get_or bytes (8 * k) 0 ≡ get_or bytes (8 * k + 0) 0 = ap (λ n. get_or bytes n 0) (sym (add-zero (8 * k))) in
    ap (λ n. (n + 2 ^ 8 * at 1 + 2 ^ 16 * at 2 + 2 ^ 24 * at 3 + 2 ^ 32 * at 4 + 2 ^ 40 * at 5 + 2 ^ 48 * at 6 + 2 ^ 56 * at 7) / 2 ^ (8 * j) % 256) first
    ∙ below_8 (λ n. bytes_sum (at 0) (at 1) (at 2) (at 3) (at 4) (at 5) (at 6) (at 7) / 2 ^ (8 * n) % 256 ≡ at n)
    (byte_0 (at 0) (at 1) (at 2) (at 3) (at 4) (at 5) (at 6) (at 7) (is 0) (is 1) (is 2) (is 3) (is 4) (is 5) (is 6) (is 7))
    (byte_1 (at 0) (at 1) (at 2) (at 3) (at 4) (at 5) (at 6) (at 7) (is 0) (is 1) (is 2) (is 3) (is 4) (is 5) (is 6) (is 7))
    (byte_2 (at 0) (at 1) (at 2) (at 3) (at 4) (at 5) (at 6) (at 7) (is 0) (is 1) (is 2) (is 3) (is 4) (is 5) (is 6) (is 7))
    (byte_3 (at 0) (at 1) (at 2) (at 3) (at 4) (at 5) (at 6) (at 7) (is 0) (is 1) (is 2) (is 3) (is 4) (is 5) (is 6) (is 7))
    (byte_4 (at 0) (at 1) (at 2) (at 3) (at 4) (at 5) (at 6) (at 7) (is 0) (is 1) (is 2) (is 3) (is 4) (is 5) (is 6) (is 7))
    (byte_5 (at 0) (at 1) (at 2) (at 3) (at 4) (at 5) (at 6) (at 7) (is 0) (is 1) (is 2) (is 3) (is 4) (is 5) (is 6) (is 7))
    (byte_6 (at 0) (at 1) (at 2) (at 3) (at 4) (at 5) (at 6) (at 7) (is 0) (is 1) (is 2) (is 3) (is 4) (is 5) (is 6) (is 7))
    (byte_7 (at 0) (at 1) (at 2) (at 3) (at 4) (at 5) (at 6) (at 7) (is 0) (is 1) (is 2) (is 3) (is 4) (is 5) (is 6) (is 7)) j l

-- a word is the sum of its bytes at their places
pub word_of_bytes : (w : ℕ) → w < 2 ^ 64 →
    w % 256 + 2 ^ 8 * (w / 2 ^ 8 % 256) + 2 ^ 16 * (w / 2 ^ 16 % 256) + 2 ^ 24 * (w / 2 ^ 24 % 256) + 2 ^ 32 * (w / 2 ^ 32 % 256) + 2 ^ 40 * (w / 2 ^ 40 % 256) + 2 ^ 48 * (w / 2 ^ 48 % 256) + 2 ^ 56 * (w / 2 ^ 56 % 256) ≡ w
word_of_bytes w l = omega arith

-- the bytes of packed words are the bytes packed
pub packed_byte : (n i : ℕ) (bytes : List ℕ) → ((i : ℕ) → get_or bytes i 0 < 256) → i < 8 * n → byte_at (packed n bytes) i ≡ get_or bytes i 0
packed_byte n i bytes small l =
    let k = i / 8 in
    let within : i / 8 < n = omega arith in
    let below : i % 8 < 8 = omega arith in
    let place : 8 * (i / 8) + i % 8 ≡ i = omega arith in
    ap (λ w. w / 2 ^ (8 * (i % 8)) % 256) (get_or-map-range_with_len (packed_at bytes) 0 n (i / 8) (i / 8) 0 within (zero-add (i / 8)))
    ∙ byte_in_word bytes (i / 8) (i % 8) small below
    ∙ ap (λ m. get_or bytes m 0) place

pub unpacked-packed : (n : ℕ) (bytes : List ℕ) → ((i : ℕ) → get_or bytes i 0 < 256) → length bytes ≤ 8 * n → unpacked (length bytes) (packed n bytes) ≡ bytes
unpacked-packed n bytes small l =
    sym (fill_by_all (byte_at (packed n bytes)) bytes (length bytes) 0 refl (λ i below. sym (packed_byte n i bytes small (omega arith))))

-- the bytes of a word among others
word_byte : (words : List ℕ) (n k j : ℕ) → 8 * k + j < n → j < 8 → get_or (unpacked n words) (8 * k + j) 0 ≡ get_or words k 0 / 2 ^ (8 * j) % 256
word_byte words n k j within below =
    let word : (8 * k + j) / 8 ≡ k = omega arith in
    let byte : (8 * k + j) % 8 ≡ j = omega arith in
    get_or-map-range_with_len (byte_at words) 0 n (8 * k + j) (8 * k + j) 0 within (zero-add (8 * k + j))
    ∙ ap (λ m. get_or words m 0 / 2 ^ (8 * ((8 * k + j) % 8)) % 256) word
    ∙ ap (λ m. get_or words k 0 / 2 ^ (8 * m) % 256) byte

-- a word that is unpacked and packed again
pub packed_at-unpacked : (words : List ℕ) (k : ℕ) → get_or words k 0 < 2 ^ 64 → k < length words → packed_at (unpacked (8 * length words) words) k ≡ get_or words k 0
packed_at-unpacked words k small within =
    let n = 8 * length words in
    let at : (j : ℕ) → j < 8 → get_or (unpacked (8 * length words) words) (8 * k + j) 0 ≡ get_or words k 0 / 2 ^ (8 * j) % 256 = λ j l. word_byte words (8 * length words) k j (omega arith) l in
    let first : get_or (unpacked (8 * length words) words) (8 * k) 0 ≡ get_or words k 0 / 2 ^ (8 * 0) % 256 = ap (λ m. get_or (unpacked (8 * length words) words) m 0) (sym (add-zero (8 * k))) ∙ at 0 (omega arith) in
    let whole = word_of_bytes (get_or words k 0) small in
    omega (arith, whole, first, at 1 (omega arith), at 2 (omega arith), at 3 (omega arith), at 4 (omega arith), at 5 (omega arith), at 6 (omega arith), at 7 (omega arith))

pub packed-unpacked : (words : List ℕ) → ((i : ℕ) → get_or words i 0 < 2 ^ 64) → packed (length words) (unpacked (8 * length words) words) ≡ words
packed-unpacked words small =
    sym (fill_by_all (packed_at (unpacked (8 * length words) words)) words (length words) 0 refl (λ k below. sym (packed_at-unpacked words k (small k) below)))

word_small : (bytes : List ℕ) (k : ℕ) → ((i : ℕ) → get_or bytes i 0 < 256) → packed_at bytes k < 2 ^ 64
word_small bytes k small =
    omega (arith, small (8 * k), small (8 * k + 1), small (8 * k + 2), small (8 * k + 3), small (8 * k + 4), small (8 * k + 5), small (8 * k + 6), small (8 * k + 7))

-- packed bytes are words
pub packed_fit : (n : ℕ) (bytes : List ℕ) → ((i : ℕ) → get_or bytes i 0 < 256) → All (λ w. w < 2 ^ 64) (packed n bytes)
packed_fit n bytes small =
    All-map (λ w. w < 2 ^ 64) (packed_at bytes) (range_with_len 0 n) (λ k d l. word_small bytes (get_or (range_with_len 0 n) k d) small)
