-- Words of a memory that are held back from it.
use Rattle.std.specs.Prelude.{◌≡◌, ◌≢◌, ◌%◌, ◌^◌, ◌<◌, ◌≤◌, ℕ, zero, suc, List, length, slice_index, slice_set, refl}
use Rattle.std.proofs.Common.{sym, subst, ◌∙◌, inl, inr, arith}
use Rattle.std.proofs.Math.Logic.{∥∥₁_map}
use Rattle.std.proofs.lemmas.Bool.{cases_eq}
use Rattle.std.proofs.lemmas.List.{length-set, get_or-set_same, get_or-set_other}
use Rattle.cx_base.specs.Memory.{Words, Always}
use Rattle.cx_base.specs.WordLaws.{Words-set}

-- what no access changes of a buffer: the references to the memory behind and to what is held back, and what none changes of that memory
pub record BufferFixed (Name Fixed : Type 0) : Type 0 where
  pub name : Name
  pub held : Name
  pub inner : Fixed
  pub whole : ℕ

-- none of the first `count` places is this one
abbrev pub IsFree : List ℕ → ℕ → ℕ → Type 0
IsFree places count at = (i : ℕ) → i < count → slice_index places i ≢ at

-- the hint of each of the first `count` places is set: the one of the place modulo 256
pub record AreHinted (places : List ℕ) (count : ℕ) (hints : List ℕ) : Type 0 where
  pub few : length hints ≡ 256
  pub set : (i : ℕ) → i < count → 1 ≤ slice_index hints (slice_index places i % 256)

-- the words in front are the words behind with those that are held back put over them
pub record Covers (count : ℕ) (places values under now : List ℕ) : Type 0 where
  pub long : length now ≡ length under
  pub held : (i : ℕ) → i < count → slice_index now (slice_index places i) ≡ slice_index values i
  pub free : (at : ℕ) → IsFree places count at → slice_index now at ≡ slice_index under at

-- `count` words are held back: each once, with what stands behind it in the memory.
pub record IsHeldBack {Key : Type 0} (stands : Key → List ℕ → Type 0) (size count : ℕ) (places found values : List ℕ) : Type 0 where
  pub few : count ≤ 192
  pub places_long : length places ≡ 192
  pub found_long : length found ≡ 192
  pub values_long : length values ≡ 192
  pub within : (i : ℕ) → i < count → slice_index places i < size
  pub small : (i : ℕ) → i < count → slice_index values i < 2 ^ 64
  pub apart : (i j : ℕ) → i < count → j < count → slice_index places i ≡ slice_index places j → i ≡ j
  pub known : Always stands (λ under. (i : ℕ) → i < count → slice_index under (slice_index places i) ≡ slice_index found i)

-- words in front stand for a key: some words behind do, and those in front are these with the words that are held back put over them
pub record Shows {Key : Type 0} (stands : Key → List ℕ → Type 0) (size count : ℕ) (places values : List ℕ) (key : Key) (now : List ℕ) : Type 0 where
  pub under : List ℕ
  pub stood : stands key under
  pub over : Covers count places values under now
  pub words : Words size now

module _ {Key : Type 0} where
  -- the words in front are as many as the memory has, each of 64 bits
  pub shows_words : {stands : Key → List ℕ → Type 0} (size count : ℕ) (places values : List ℕ) → (key : Key) (now : List ℕ) → Shows stands size count places values key now → Words size now
  shows_words size count places values key now s = s.words

-- the first words held back, as many as given, put over the words behind one by one
abbrev covered : ℕ → List ℕ → List ℕ → List ℕ → List ℕ
covered zero places values under = under
covered (suc n) places values under = slice_set (covered n places values under) (slice_index places n) (slice_index values n)

-- putting words over others leaves as many
covered_long : (n : ℕ) (places values under : List ℕ) → length (covered n places values under) ≡ length under
covered_long zero places values under = refl
covered_long (suc n) places values under = length-set (covered n places values under) (slice_index places n) (slice_index values n) ∙ covered_long n places values under

-- at a free place the words are as those behind
covered_free : (n : ℕ) (places values under : List ℕ) (at : ℕ) → IsFree places n at → slice_index (covered n places values under) at ≡ slice_index under at
covered_free zero places values under at free = refl
covered_free (suc n) places values under at free =
    get_or-set_other (covered n places values under) (slice_index places n) at (slice_index values n) 0 (λ e. free n (omega arith) (sym e))
    ∙ covered_free n places values under at (λ i l. free i (omega (arith, l)))

-- where no two words held back have the same place, at the place of each of them its value stands
covered_held : (n : ℕ) (places values under : List ℕ) → ((i : ℕ) → i < n → slice_index places i < length under) →
    ((i j : ℕ) → i < n → j < n → slice_index places i ≡ slice_index places j → i ≡ j) →
    (i : ℕ) → i < n → slice_index (covered n places values under) (slice_index places i) ≡ slice_index values i
covered_held zero places values under within apart i l = absurd (omega (arith, l))
covered_held (suc n) places values under within apart i l =
    let before = covered n places values under in
    elim (cases_eq i n) [
      | inl e ↦ subst (λ k. slice_index (slice_set before (slice_index places n) (slice_index values n)) (slice_index places k) ≡ slice_index values k) (sym e)
          (get_or-set_same before (slice_index places n) (slice_index values n) 0 (let w = within n (omega arith) in omega (arith, w, covered_long n places values under)))
      | inr other ↦
          get_or-set_other before (slice_index places n) (slice_index places i) (slice_index values n) 0 (λ e. other (apart i n l (omega arith) e))
          ∙ covered_held n places values under (λ j m. within j (omega (arith, m))) (λ j k m o. apart j k (omega (arith, m)) (omega (arith, o))) i (let d : i ≢ n = other in omega (arith, l, d))
    ]

-- words of 64 bits stay so where such words are put over them
covered_words : (size n : ℕ) (places values under : List ℕ) → ((i : ℕ) → i < n → slice_index values i < 2 ^ 64) → Words size under → Words size (covered n places values under)
covered_words size zero places values under small w = w
covered_words size (suc n) places values under small w =
    Words-set size (covered n places values under) (slice_index places n) (slice_index values n) (small n (omega arith)) (covered_words size n places values under (λ i l. small i (omega (arith, l))) w)

module _ {Key : Type 0} where
  -- some words in front stand for a key, since some behind do
  pub shows_some : {stands : Key → List ℕ → Type 0} (size count : ℕ) (places found values : List ℕ) → IsHeldBack stands size count places found values →
      ((key : Key) (now : List ℕ) → stands key now → Words size now) →
      ∥ ((key : Key) × (now : List ℕ) × stands key now) ∥₁ →
      ∥ ((key : Key) × (now : List ℕ) × Shows stands size count places values key now) ∥₁
  shows_some size count places found values is words some =
      ∥∥₁_map some (λ p. (
      let w = words p.0 p.1 p.2 in (
        p.0,
        covered count places values p.1,
        record {
          under = p.1;
          stood = p.2;
          over = record {
            long = covered_long count places values p.1;
            held = covered_held count places values p.1 (λ i l. (let b = is.within i l in omega (arith, b, w.long))) is.apart;
            free = covered_free count places values p.1;
          };
          words = covered_words size count places values p.1 is.small w;
        },
      )))
