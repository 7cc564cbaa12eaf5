-- How the bytes of packed keys compare.
use Rattle.std.proofs.Common.{◌≡◌, ◌≢◌, ◌*◌, ◌/◌, ◌%◌, ◌^◌, ◌<◌, ◌≤◌, ℕ, zero, suc, List, [], ◌∷◌, length, get_or, refl, sym, ap, zero-add, ◌∙◌, ◌⊎◌, inl, inr, arith}
use Rattle.std.specs.Ordering.{nat_cmp, ordering_then, MatchOrdering}
use Rattle.std.specs.Cmp.{ranks, nat_cmp_is}
use Rattle.std.specs.Cmp.Lexicographic.{slice_cmp}
use Rattle.std.specs.declared.cmp.Ordering.{Ordering}
use Rattle.std.specs.declared.cmp.Ordering.TheVariants.{Less, Equal, Greater}
use Rattle.std.proofs.lemmas.List.FromFn.{get_or-map-range_with_len, length-range_with_len}
use Rattle.std.proofs.lemmas.Bool.{cases_lt}
use Rattle.std.proofs.lemmas.List.{length-map}
use Rattle.cx_base.specs.Packing.{byte_at, unpacked}
use Rattle.cx_base.specs.Store.{key_cmp}

unpacked_at : (n : ℕ) (words : List ℕ) (k : ℕ) → k < n → get_or (unpacked n words) k 0 ≡ byte_at words k
unpacked_at n words k within = get_or-map-range_with_len (byte_at words) 0 n k k 0 within (zero-add k)

unpacked_long : (n : ℕ) (words : List ℕ) → length (unpacked n words) ≡ n
unpacked_long n words = rw length-map (length-range_with_len 0 n)

-- where words are the same, their bytes are
pub words_bytes : (left right : List ℕ) (whole : ℕ) → ((k : ℕ) → k < whole → get_or left k 0 ≡ get_or right k 0) → (k : ℕ) → k < 8 * whole → byte_at left k ≡ byte_at right k
words_bytes left right whole same k below = ap (λ w. w / 2 ^ (8 * (k % 8)) % 256) (same (k / 8) (omega arith))

-- two equal numbers compare as equal
tie : (x y : ℕ) → x ≡ y → nat_cmp x y ≡ Equal
tie x y e = sym (nat_cmp_is x y Equal e)

-- the order `o` of two numbers that differ is decided, whatever the order of the rest
apart_first : (x y : ℕ) (o rest : Ordering) → MatchOrdering o (x < y) (x ≡ y) (y < x) → x ≢ y → o ≡ ordering_then o rest
apart_first x y Less rest m ne = refl
apart_first x y Equal rest m ne = absurd (ne m)
apart_first x y Greater rest m ne = refl

-- the order `o` of two numbers with one added to each is that of the numbers
one_less : (x y : ℕ) (o : Ordering) → MatchOrdering o (suc x < suc y) (suc x ≡ suc y) (suc y < suc x) → MatchOrdering o (x < y) (x ≡ y) (y < x)
one_less x y Less m = omega (arith, m)
one_less x y Equal m = omega (arith, m)
one_less x y Greater m = omega (arith, m)

-- the first byte that differs tells the order
byte_tells : (xs ys : List ℕ) (i : ℕ) → i < length xs → i < length ys → ((k : ℕ) → k < i → get_or xs k 0 ≡ get_or ys k 0) → get_or xs i 0 ≢ get_or ys i 0 → nat_cmp (get_or xs i 0) (get_or ys i 0) ≡ key_cmp xs ys
byte_tells [] ys i a b same ne = absurd (omega arith)
byte_tells (x ∷ xs) [] i a b same ne = absurd (omega arith)
byte_tells (x ∷ xs) (y ∷ ys) zero a b same ne = apart_first x y (nat_cmp x y) (slice_cmp nat_cmp xs ys) (ranks x y) ne
byte_tells (x ∷ xs) (y ∷ ys) (suc i) a b same ne =
    byte_tells xs ys i (omega arith) (omega arith) (λ k l. same (suc k) (omega arith)) ne ∙ ap (λ o. ordering_then o (slice_cmp nat_cmp xs ys)) (sym (tie x y (same 0 (omega arith))))

-- where no byte that both lists have differs, the lengths give the order
length_tells : (xs ys : List ℕ) → ((k : ℕ) → k < length xs → k < length ys → get_or xs k 0 ≡ get_or ys k 0) → nat_cmp (length xs) (length ys) ≡ key_cmp xs ys
length_tells [] [] same = refl
length_tells [] (y ∷ ys) same = sym (nat_cmp_is 0 (suc (length ys)) Less (omega arith))
length_tells (x ∷ xs) [] same = sym (nat_cmp_is (suc (length xs)) 0 Greater (omega arith))
length_tells (x ∷ xs) (y ∷ ys) same =
    nat_cmp_is (length xs) (length ys) (nat_cmp (suc (length xs)) (suc (length ys))) (one_less (length xs) (length ys) (nat_cmp (suc (length xs)) (suc (length ys))) (ranks (suc (length xs)) (suc (length ys))))
    ∙ length_tells xs ys (λ k l r. same (suc k) (omega arith) (omega arith))
    ∙ ap (λ o. ordering_then o (slice_cmp nat_cmp xs ys)) (sym (tie x y (same 0 (omega arith) (omega arith))))

module _ (left right : List ℕ) (n m : ℕ) where
  -- packed words with the same bytes below `i` unpack to lists with the same items below `i`
  alike_below : (i : ℕ) → i ≤ n → i ≤ m → ((k : ℕ) → k < i → byte_at left k ≡ byte_at right k) → (k : ℕ) → k < i → get_or (unpacked n left) k 0 ≡ get_or (unpacked m right) k 0
  alike_below i a b same k l = unpacked_at n left k (omega arith) ∙ same k l ∙ sym (unpacked_at m right k (omega arith))

  -- where `x` and `y` are the first bytes that differ of two packed keys, at `i`, their order is the order of the keys
  pub apart_at : (i x y : ℕ) → i < n → i < m → ((k : ℕ) → k < i → byte_at left k ≡ byte_at right k) → x ≡ byte_at left i → y ≡ byte_at right i → x ≢ y → nat_cmp x y ≡ key_cmp (unpacked n left) (unpacked m right)
  apart_at i x y a b same f g ne =
      let long = unpacked_long n left in
      let other = unpacked_long m right in
      let mine : x ≡ get_or (unpacked n left) i 0 = f ∙ sym (unpacked_at n left i a) in
      let its : y ≡ get_or (unpacked m right) i 0 = g ∙ sym (unpacked_at m right i b) in
      ap (λ v. nat_cmp v y) mine ∙ ap (λ v. nat_cmp (get_or (unpacked n left) i 0) v) its
      ∙ byte_tells (unpacked n left) (unpacked m right) i (omega (arith, long)) (omega (arith, other)) (alike_below i (omega arith) (omega arith) same) (λ e. ne (mine ∙ e ∙ sym its))

  pub alike_to : (i : ℕ) → n ≤ i ⊎ m ≤ i → ((k : ℕ) → k < i → byte_at left k ≡ byte_at right k) → nat_cmp n m ≡ key_cmp (unpacked n left) (unpacked m right)
  alike_to i ends same =
      let long = unpacked_long n left in
      let other = unpacked_long m right in
      ap (λ v. nat_cmp v m) (sym long) ∙ ap (λ v. nat_cmp (length (unpacked n left)) v) (sym other)
      ∙ length_tells (unpacked n left) (unpacked m right) (λ k a b. (
      let inside : k < i = elim ends [ inl h ↦ omega (arith, long, a, h) | inr h ↦ omega (arith, other, b, h) ] in
      unpacked_at n left k (omega (arith, long, a)) ∙ same k inside ∙ sym (unpacked_at m right k (omega (arith, other, b)))))

-- the bytes of two texts differ first at `i`, where the one may have ended, with 0 behind its end, and the other has not: so the two texts compare as these bytes do
pub early_at : (left right : List ℕ) (n m i x y : ℕ) → (n ≤ i → byte_at left i ≡ 0) → i < m → ((k : ℕ) → k < i → byte_at left k ≡ byte_at right k) → x ≡ byte_at left i → y ≡ byte_at right i → x ≢ y →
    nat_cmp x y ≡ key_cmp (unpacked n left) (unpacked m right)
early_at left right n m i x y none b same f g ne = elim (cases_lt i n) [
  | inl h ↦ apart_at left right n m i x y h b same f g ne
  | inr h ↦ (
      let zero_is : x ≡ 0 = f ∙ none (omega (arith, h)) in
      let less : x < y = omega (arith, zero_is, ne) in
      sym (nat_cmp_is x y Less less) ∙ nat_cmp_is n m Less (omega (arith, h, b)) ∙ alike_to left right n m i (inl (omega (arith, h))) same)
]
