-- Where the words of replicas stand: each in the table, and no two at one place.
use Rattle.std.proofs.Common.{◌≡◌, ◌≢◌, ◌+◌, ◌*◌, ◌<◌, ◌≤◌, ◌⊎◌, ⊎_elim, inl, inr, ℕ, suc, List, length, drop, slice_index, ap, sym, ◌∙◌, arith}
use Rattle.std.proofs.lemmas.Bool.{cases_lt, cases_order}
use Rattle.std.proofs.lemmas.List.{get_or-take, get_or-drop, get_or_past, length-drop, length-take-le}
use Rattle.std.proofs.Math.Nat.{mul-le-mul_left, mul-suc}
use Rattle.cx_core.specs.declared.local.HeldExclusive.{HeldExclusive}
use Rattle.cx_core.specs.LawfulRegions.{HasWords, vol_word}
use Rattle.cx_core.specs.Layout.{per_at, replica_words, vol_at, word_count}
use Rattle.cx_core.specs.Region.{place_of}
use Rattle.cx_core.specs.State.{Instance}
use Rattle.cx_core.proofs.LayoutLemmas.{replica_within}

-- a replica ends before the next begins
ends : (n q r : ℕ) → q < r → n * q + n ≤ n * r
ends n q r below = let m = mul-le-mul_left {m = suc q} {n = r} n (omega (arith, below)) in let e = mul-suc n q in omega (arith, m, e)

-- two words of replicas at one place are one word
row_apart : (n q r i j : ℕ) → i < n → j < n → (q ≢ r) ⊎ (i ≢ j) → n * q + i ≢ n * r + j
row_apart n q r i j i_within j_within other same =
    ⊎_elim
    (λ (e : q ≡ r). ⊎_elim (λ (ne : q ≢ r). ne e) (λ (ne : i ≢ j). (let rows : n * q ≡ n * r = ap (λ m. n * m) e in ne (omega (arith, rows, same)))) other)
    (λ (order : (q < r) ⊎ (r < q)). ⊎_elim
    (λ less. (let gap = ends n q r less in omega (arith, gap, same)))
    (λ more. (let gap = ends n r q more in omega (arith, gap, same)))
    order)
    (cases_order q r)

module _ (callers region : ℕ) where
  -- the words that loads give stand in front of those of the medium
  pub vol_ends : (r i : ℕ) → r < 2 * callers → i < region → vol_at callers region r i < per_at callers region 0 0
  vol_ends r i small below = let gap = ends region r (2 * callers) small in omega (arith, gap)

  -- the words that loads give of two replicas `q` and `r`, or at two indices `i` and `j`, stand at different places
  pub vol_apart : (q r i j : ℕ) → i < region → j < region → (q ≢ r) ⊎ (i ≢ j) → vol_at callers region q i ≢ vol_at callers region r j
  vol_apart q r i j i_within j_within other same = row_apart region q r i j i_within j_within other (omega (arith, same))

  -- the words on the medium of two replicas `q` and `r`, or at two indices `i` and `j`, stand at different places
  pub per_apart : (q r i j : ℕ) → i < region → j < region → (q ≢ r) ⊎ (i ≢ j) → per_at callers region q i ≢ per_at callers region r j
  per_apart q r i j i_within j_within other same = row_apart region q r i j i_within j_within other (omega (arith, same))

  -- no word that loads give, of a replica `q`, stands where a word on the medium does
  pub vol_per_apart : (q r i j : ℕ) → q < 2 * callers → i < region → vol_at callers region q i ≢ per_at callers region r j
  vol_per_apart q r i j small within same = let before = vol_ends q i small within in omega (arith, before, same)

  -- a replica's words as a list
  pub replica_at : (words : List ℕ) (r i : ℕ) → i < region → slice_index (replica_words callers region words r) i ≡ slice_index words (vol_at callers region r i)
  replica_at words r i below =
      let place : vol_at callers region r 0 + i ≡ vol_at callers region r i = omega arith in
      get_or-take region (drop (vol_at callers region r 0) words) i 0 below ∙ get_or-drop (vol_at callers region r 0) words i 0 ∙ ap (slice_index words) place

  pub length-replica : (words : List ℕ) (r : ℕ) → r < 2 * callers → length words ≡ word_count callers region → length (replica_words callers region words r) ≡ region
  length-replica words r small long =
      length-take-le region (drop (vol_at callers region r 0) words) (omega (arith, length-drop (vol_at callers region r 0) words, replica_within callers region r small, long))

-- the place of the words that are held is that of the replica
pub held_place : (instance : Instance) (words : List ℕ) (h : HeldExclusive) → length words ≡ word_count instance.callers (length instance.base.words) → HasWords instance words h →
    vol_word instance words h.replica 0 ≡ place_of h.words
held_place instance words h long has =
    elim (cases_lt 0 (length instance.base.words)) [
      | inl some ↦ has.vol 0 some
      | inr none ↦ (
          let nothing : length instance.base.words ≡ 0 = omega arith in
          let rows : length instance.base.words * h.replica ≡ 0 = ap (λ n. n * h.replica) nothing ∙ omega arith in
          let all : length instance.base.words * (4 * instance.callers) ≡ 0 = ap (λ n. n * (4 * instance.callers)) nothing ∙ omega arith in
          get_or_past words (vol_at instance.callers (length instance.base.words) h.replica 0) 0 (omega (arith, rows, all, long))
          ∙ sym (get_or_past h.words 0 0 (omega (arith, has.long))))
    ]
