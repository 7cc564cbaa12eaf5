-- The word at an address of pairs that rise, and one pair more.
use Rattle.std.proofs.Common.{◌≡◌, ◌+◌, ◌-◌, ◌<◌, ◌≤◌, ◌==◌, ◌⊎◌, ℕ, zero, suc, List, [], ◌∷◌, ◌++◌, length, take, set, replicate, get_or, get_or-set_same, get_or-set_other, refl, ap, sym, subst, ◌∙◌, arith, inl, inr, if◌then◌else◌}
use Rattle.std.specs.List.{All}
use Rattle.std.proofs.lemmas.Bool.{cases_eq, eq-eqb, ne_eqb}
use Rattle.std.proofs.lemmas.List.{ext_get_or, get_or-replicate, length-replicate, length-set, take_all, take_more}
use Rattle.std.proofs.lemmas.List.Elements.{All-cons, All-head, All-nil, All-push, All-tail, All-weaker}
use Rattle.std.proofs.lemmas.List.FromFn.{get_or-map-range_with_len, length-map-range_with_len}
use Rattle.recovery.specs.Images.{Gives, RiseFrom, image_word, words_from}

-- every pair has an address below this one
abbrev pub Below : ℕ → List (ℕ × ℕ) → Type 0
Below at pairs = All (λ (p : ℕ × ℕ). p.0 < at) pairs

pub word_here : (p : ℕ × ℕ) (pairs : List (ℕ × ℕ)) (at : ℕ) → p.0 ≡ at → image_word (p ∷ pairs) at ≡ p.1
word_here p pairs at e = ap (λ b. if b then p.1 else image_word pairs at) (eq-eqb p.0 at e)

pub word_other : (p : ℕ × ℕ) (pairs : List (ℕ × ℕ)) (at : ℕ) → (p.0 ≡ at → ⊥) → image_word (p ∷ pairs) at ≡ image_word pairs at
word_other p pairs at apart = ap (λ b. if b then p.1 else image_word pairs at) (ne_eqb p.0 at apart)

-- an address that no pair reaches has the word 0
pub word_past : (pairs : List (ℕ × ℕ)) (at : ℕ) → Below at pairs → image_word pairs at ≡ 0
word_past [] at below = refl
word_past (p ∷ pairs) at below =
    let first : p.0 < at = All-head (λ (q : ℕ × ℕ). q.0 < at) p pairs below in
    word_other p pairs at (λ e. omega (arith, first, e)) ∙ word_past pairs at (All-tail (λ (q : ℕ × ℕ). q.0 < at) p pairs below)

-- one pair more has its value at its address, and leaves the other words
pub pushed_here : (pairs : List (ℕ × ℕ)) (p : ℕ × ℕ) → Below p.0 pairs → image_word (pairs ++ p ∷ []) p.0 ≡ p.1
pushed_here [] p below = word_here p [] p.0 refl
pushed_here (q ∷ pairs) p below =
    let first : q.0 < p.0 = All-head (λ (r : ℕ × ℕ). r.0 < p.0) q pairs below in
    word_other q (pairs ++ p ∷ []) p.0 (λ e. omega (arith, first, e)) ∙ pushed_here pairs p (All-tail (λ (r : ℕ × ℕ). r.0 < p.0) q pairs below)

pub pushed_other : (pairs : List (ℕ × ℕ)) (p : ℕ × ℕ) (at : ℕ) → (p.0 ≡ at → ⊥) → image_word (pairs ++ p ∷ []) at ≡ image_word pairs at
pushed_other [] p at apart = word_other p [] at apart
pushed_other (q ∷ pairs) p at apart = ap (λ w. if q.0 == at then q.1 else w) (pushed_other pairs p at apart)

-- one pair more leaves the addresses rising, where its address is above the others
pub pushed_rises : (from : ℕ) (pairs : List (ℕ × ℕ)) (p : ℕ × ℕ) → RiseFrom from pairs → Below p.0 pairs → from ≤ p.0 → RiseFrom from (pairs ++ p ∷ [])
pushed_rises from [] p rising below above = (above, tt)
pushed_rises from (q ∷ pairs) p rising below above =
    let first : q.0 < p.0 = All-head (λ (r : ℕ × ℕ). r.0 < p.0) q pairs below in
    (rising.0, pushed_rises (q.0 + 1) pairs p rising.1 (All-tail (λ (r : ℕ × ℕ). r.0 < p.0) q pairs below) (omega (arith, first)))

-- the pairs in front of one have addresses below its own
pub from_below : (from : ℕ) (pairs : List (ℕ × ℕ)) (i : ℕ) (d : ℕ × ℕ) → RiseFrom from pairs → i < length pairs → from ≤ (get_or pairs i d).0
from_below from [] i d rising within = absurd (omega (arith, within))
from_below from (q ∷ pairs) zero d rising within = rising.0
from_below from (q ∷ pairs) (suc i) d rising within =
    let next : q.0 + 1 ≤ (get_or pairs i d).0 = from_below (q.0 + 1) pairs i d rising.1 (omega (arith, within)) in
    omega (arith, rising.0, next)

pub front_below : (from : ℕ) (pairs : List (ℕ × ℕ)) (i : ℕ) (d : ℕ × ℕ) → RiseFrom from pairs → i < length pairs → Below (get_or pairs i d).0 (take i pairs)
front_below from [] i d rising within = absurd (omega (arith, within))
front_below from (q ∷ pairs) zero d rising within = All-nil (λ (r : ℕ × ℕ). r.0 < q.0)
front_below from (q ∷ pairs) (suc i) d rising within =
    let small : i < length pairs = omega (arith, within) in
    let next : q.0 + 1 ≤ (get_or pairs i d).0 = from_below (q.0 + 1) pairs i d rising.1 small in
    All-cons (λ (r : ℕ × ℕ). r.0 < (get_or pairs i d).0) q (take i pairs) (omega (arith, next)) (front_below (q.0 + 1) pairs i d rising.1 small)

-- no word is given yet, one more that is not 0 is, and one that is 0
pub gives_none : (word : ℕ → ℕ) → Gives word 0 []
gives_none word = record {
  rising = tt;
  below = All-nil (λ (q : ℕ × ℕ). q.0 < 0);
  some = All-nil (λ (q : ℕ × ℕ). 0 < q.1);
  words = λ k small. absurd (omega (arith, small));
}

module _ (word : ℕ → ℕ) (at : ℕ) (pairs : List (ℕ × ℕ)) (gives : Gives word at pairs) where
  lower : Below (at + 1) pairs
  lower = All-weaker (λ (q : ℕ × ℕ). q.0 < at) (λ (q : ℕ × ℕ). q.0 < at + 1) (λ q small. omega (arith, small)) pairs gives.below

  pub gives_word : (v : ℕ) (new : List (ℕ × ℕ)) → v ≡ word at → (v ≡ 0 → ⊥) → new ≡ pairs ++ (at, v) ∷ [] → Gives word (at + 1) new
  gives_word v new is some pushed = subst (Gives word (at + 1)) (sym pushed) (record {
    rising = pushed_rises 0 pairs (at, v) gives.rising gives.below (omega arith);
    below = All-push (λ (q : ℕ × ℕ). q.0 < at + 1) pairs (at, v) lower (omega arith);
    some = All-push (λ (q : ℕ × ℕ). 0 < q.1) pairs (at, v) gives.some (omega (arith, some));
    words = λ k small. elim (cases_eq at k) [
      | inl e ↦ subst (λ n. image_word (pairs ++ (at, v) ∷ []) n ≡ word n) e (pushed_here pairs (at, v) gives.below ∙ is)
      | inr apart ↦ pushed_other pairs (at, v) k apart ∙ gives.words k (omega (arith, small, apart))
    ];
  })

  pub gives_zero : (v : ℕ) (new : List (ℕ × ℕ)) → v ≡ word at → v ≡ 0 → new ≡ pairs → Gives word (at + 1) new
  gives_zero v new is none same = subst (Gives word (at + 1)) (sym same) (record {
    rising = gives.rising;
    below = lower;
    some = gives.some;
    words = λ k small. elim (cases_eq at k) [
      | inl e ↦ subst (λ n. image_word pairs n ≡ word n) e (word_past pairs at gives.below ∙ sym none ∙ is)
      | inr apart ↦ gives.words k (omega (arith, small, apart))
    ];
  })

-- the words from an address on, as the first so many pairs give them
pub record HasRead (pairs : List (ℕ × ℕ)) (from count i : ℕ) (words : List ℕ) : Type 0 where
  pub long : length words ≡ count
  pub each : (k : ℕ) → k < count → get_or words k 0 ≡ image_word (take i pairs) (from + k)

pub read_none : (pairs : List (ℕ × ℕ)) (from count : ℕ) → HasRead pairs from count 0 (replicate count 0)
read_none pairs from count = record { long = length-replicate count 0; each = λ k small. get_or-replicate count k 0 0 small }

module _ (pairs : List (ℕ × ℕ)) (from count i : ℕ) (words : List ℕ) (rising : RiseFrom 0 pairs) (within : i < length pairs) (has : HasRead pairs from count i words) where
  abbrev pair : ℕ × ℕ
  pair = get_or pairs i (0, 0)

  more : take (i + 1) pairs ≡ take i pairs ++ pair ∷ []
  more = take_more pairs i (0, 0) within

  pub read_put : (new : List ℕ) → from ≤ pair.0 → pair.0 - from < count → new ≡ set words (pair.0 - from) pair.1 → HasRead pairs from count (i + 1) new
  read_put new above inside put = subst (HasRead pairs from count (i + 1)) (sym put) (record {
    long = length-set words (pair.0 - from) pair.1 ∙ has.long;
    each = λ k small. subst (λ (ps : List (ℕ × ℕ)). get_or (set words (pair.0 - from) pair.1) k 0 ≡ image_word ps (from + k)) (sym more) (elim (cases_eq (pair.0 - from) k) [
      | inl e ↦ (
          let there : from + k ≡ pair.0 = omega (arith, e, above) in
          let held : pair.0 - from < length words = omega (arith, inside, has.long) in
          ap (λ n. get_or (set words (pair.0 - from) pair.1) n 0) (sym e)
          ∙ get_or-set_same words (pair.0 - from) pair.1 0 held
          ∙ sym (pushed_here (take i pairs) pair (front_below 0 pairs i (0, 0) rising within))
          ∙ ap (image_word (take i pairs ++ pair ∷ [])) (sym there))
      | inr apart ↦ (
          let other : pair.0 ≡ from + k → ⊥ = λ e. apart (omega (arith, e)) in
          get_or-set_other words (pair.0 - from) k pair.1 0 (λ e. apart (sym e))
          ∙ has.each k small
          ∙ sym (pushed_other (take i pairs) pair (from + k) other))
    ]);
  })

  pub read_skip : (new : List ℕ) → (pair.0 < from) ⊎ (count ≤ pair.0 - from) → new ≡ words → HasRead pairs from count (i + 1) new
  read_skip new outside same = subst (HasRead pairs from count (i + 1)) (sym same) (record {
    long = has.long;
    each = λ k small. (
        let other : pair.0 ≡ from + k → ⊥ = λ e. elim outside [ inl low ↦ omega (arith, low, e) | inr high ↦ omega (arith, high, small, e) ] in
        subst (λ (ps : List (ℕ × ℕ)). get_or words k 0 ≡ image_word ps (from + k)) (sym more) (has.each k small ∙ sym (pushed_other (take i pairs) pair (from + k) other)));
  })

pub read_all : (pairs : List (ℕ × ℕ)) (from count i : ℕ) (words : List ℕ) → length pairs ≤ i → HasRead pairs from count i words → words ≡ words_from pairs from count
read_all pairs from count i words end has =
    ext_get_or 0 words (words_from pairs from count) (has.long ∙ sym (length-map-range_with_len (image_word pairs) from count)) (λ k small. (
    let inside : k < count = omega (arith, small, has.long) in
    has.each k inside
    ∙ ap (λ (ps : List (ℕ × ℕ)). image_word ps (from + k)) (take_all i pairs end)
    ∙ sym (get_or-map-range_with_len (image_word pairs) from count k (from + k) 0 inside refl)))
