-- Line after line is made equal to the root's region.
use Rattle.std.proofs.Common.{◌≡◌, ◌≢◌, ◌+◌, ◌-◌, ◌*◌, ◌%◌, ◌<◌, ◌≤◌, ◌⊎◌, inl, inr, ℕ, List, length, map, slice_index, refl, ap, sym, subst, ◌∙◌, arith}
use Rattle.std.proofs.Math.ListN.{get_or-map}
use Rattle.std.proofs.Math.Nat.{mod-eq_of_lt, mul-add-mod_self_left}
use Rattle.std.proofs.lemmas.Bool.{cases_eq, cases_lt}
use Rattle.std.proofs.lemmas.List.{length-map}
use Rattle.std.proofs.lemmas.Nat.{mod_below}
use Rattle.pmem_model.specs.Medium.{MediumState, IsDirtyMark, durable_word, fenced, fenced_at, word_in, medium_word}
use Rattle.pmem_model.specs.declared.medium.Mark.{Mark}
use Rattle.pmem_model.specs.declared.medium.Mark.TheVariants.{Durable, Dirty, Pending}
use Rattle.pmem_model.specs.declared.medium.Word.{Word}
use Rattle.recovery.specs.Reopened.{IsEqualLine, IsLineCopied, IsReopened, value_at}

-- the lines in front of one have the values of the root's region, which is as it was, and no later word changed
pub record Copies (region from line : ℕ) (old new : MediumState) : Type 0 where
  pub long : length new.words ≡ length old.words
  pub lines : length new.stores ≡ length old.stores
  pub later : (at : ℕ) → 8 * line ≤ at → medium_word new at ≡ medium_word old at
  pub own : (k i : ℕ) → k < region → i < 8 → medium_word new (8 * (from + k) + i) ≡ medium_word old (8 * (from + k) + i)
  pub values : (other i : ℕ) → other < line → i < 8 → value_at new (8 * other + i) ≡ value_at old (8 * (from + other % region) + i)
  pub waits : (at : ℕ) → (medium_word new at).mark ≡ Dirty → (medium_word old at).mark ≡ Dirty
  pub unstored : (other : ℕ) → line ≤ other → slice_index new.stores other ≡ slice_index old.stores other
  pub idle : (other : ℕ) → IsEqualLine old (from + other % region) other → slice_index new.stores other ≡ slice_index old.stores other

-- a word in a line lies outside every other line
apart : (line other i : ℕ) → other ≢ line → i < 8 → (8 * other + i < 8 * line) ⊎ (8 * line + 8 ≤ 8 * other + i)
apart line other i differs below = elim (cases_lt other line) [ inl less ↦ inl (omega arith) | inr more ↦ inr (let up : line < other = elim (cases_lt line other) [ inl u ↦ u | inr d ↦ absurd (differs (omega arith)) ] in omega arith) ]

module _ (region from replica line : ℕ) (old cur new : MediumState) (some : 0 < region) (start : from ≡ region * replica) (copies : Copies region from line old cur) (is : IsLineCopied (from + line % region) line cur new) where
  abbrev source : ℕ
  source = from + line % region

  -- a line of the root's region is its own source
  home : (k : ℕ) → k < region → from + k ≡ line → line % region ≡ k
  home k below e = ap (λ n. n % region) (sym e ∙ ap (λ n. n + k) start) ∙ mul-add-mod_self_left region replica k ∙ mod-eq_of_lt below

  source_kept : (i : ℕ) → i < 8 → value_at cur (8 * source + i) ≡ value_at old (8 * source + i)
  source_kept i below = ap (λ (w : Word). w.value) (copies.own (line % region) i (mod_below line region some) below)

  own_more : (k i : ℕ) → k < region → i < 8 → medium_word new (8 * (from + k) + i) ≡ medium_word old (8 * (from + k) + i)
  own_more k i inside below =
      elim (cases_eq (from + k) line) [
        | inl e ↦ (
            let itself : source ≡ line = ap (λ n. from + n) (home k inside e) ∙ e in
            ap (λ (m : MediumState). medium_word m (8 * (from + k) + i)) (is.same (λ j small. ap (λ n. value_at cur (8 * n + j)) (sym itself))) ∙ copies.own k i inside below)
        | inr differs ↦ is.outside (8 * (from + k) + i) (apart line (from + k) i differs below) ∙ copies.own k i inside below
      ]

  less : (other : ℕ) → other < line + 1 → other ≢ line → other < line
  less other inside differs = elim (cases_lt other line) [ inl l ↦ l | inr m ↦ absurd (differs (omega arith)) ]

  values_more : (other i : ℕ) → other < line + 1 → i < 8 → value_at new (8 * other + i) ≡ value_at old (8 * (from + other % region) + i)
  values_more other i inside below =
      elim (cases_eq other line) [
        | inl e ↦ subst (λ n. value_at new (8 * n + i) ≡ value_at old (8 * (from + n % region) + i)) (sym e) (is.values i below ∙ source_kept i below)
        | inr differs ↦ ap (λ (w : Word). w.value) (is.outside (8 * other + i) (apart line other i differs below)) ∙ copies.values other i (less other inside differs) below
      ]

  idle_more : (other : ℕ) → IsEqualLine old (from + other % region) other → slice_index new.stores other ≡ slice_index old.stores other
  idle_more other equal =
      elim (cases_eq other line) [
        | inl e ↦ (
            let here : IsEqualLine old source line = subst (λ n. IsEqualLine old (from + n % region) n) e equal in
            let now : IsEqualLine cur source line = λ i below. (ap (λ (w : Word). w.value) (copies.later (8 * line + i) (omega arith)) ∙ here i below ∙ sym (source_kept i below)) in
            subst (λ n. slice_index new.stores n ≡ slice_index old.stores n) (sym e) (ap (λ (m : MediumState). slice_index m.stores line) (is.same now) ∙ copies.unstored line (omega arith)))
        | inr differs ↦ is.others other differs ∙ copies.idle other equal
      ]

  pub copies_more : Copies region from (line + 1) old new
  copies_more = record {
    long = is.long ∙ copies.long;
    lines = is.lines ∙ copies.lines;
    later = λ at le. is.outside at (inr (omega arith)) ∙ copies.later at (omega arith);
    own = own_more;
    values = values_more;
    waits = λ at waits. copies.waits at (is.waits at waits);
    unstored = λ other le. is.others other (λ e. omega arith) ∙ copies.unstored other (omega arith);
    idle = idle_more;
  }

-- a fence keeps each value, and what is dirty after it was waiting
fenced_value : (m : Mark) (w : Word) → (fenced_at m w).value ≡ w.value
fenced_value Durable w = refl
fenced_value Dirty w = refl
fenced_value Pending w = refl

fenced_waits : (m : Mark) (w : Word) → w.mark ≡ m → IsDirtyMark (fenced_at m w).mark → w.mark ≡ Dirty
fenced_waits Durable w e dirty = absurd (subst IsDirtyMark e dirty)
fenced_waits Dirty w e dirty = e
fenced_waits Pending w e dirty = absurd dirty

module _ (region regions from replica line : ℕ) (old cur new : MediumState) (some : 0 < region) (start : from ≡ region * replica) (all : region * regions ≤ line) (copies : Copies region from line old cur)
    (words : new.words ≡ map fenced cur.words) (stores : new.stores ≡ cur.stores) where
  word_is : (at : ℕ) → medium_word new at ≡ fenced (medium_word cur at)
  word_is at = ap (λ ws. word_in ws at) words ∙ get_or-map fenced cur.words at (durable_word 0)

  own_line : (line : ℕ) → from ≤ line → line < from + region → from + line % region ≡ line
  own_line k ge below =
      let inside : k - from < region = omega arith in
      let e : k ≡ region * replica + (k - from) = omega (arith, start) in
      let m : k % region ≡ k - from = ap (λ n. n % region) e ∙ mul-add-mod_self_left region replica (k - from) ∙ mod-eq_of_lt inside in
      omega arith

  kept_words : (line i : ℕ) → from ≤ line → line < from + region → i < 8 → medium_word new (8 * line + i) ≡ fenced (medium_word old (8 * line + i))
  kept_words k i ge below small =
      let there : from + (k - from) ≡ k = omega arith in
      word_is (8 * k + i) ∙ ap fenced (subst (λ n. medium_word cur (8 * n + i) ≡ medium_word old (8 * n + i)) there (copies.own (k - from) i (omega arith) small))

  pub reopened : IsReopened region regions from old new
  reopened = record {
    long = ap length words ∙ length-map cur.words fenced ∙ copies.long;
    lines = ap length stores ∙ copies.lines;
    values = λ k i inside below. ap (λ (w : Word). w.value) (word_is (8 * k + i)) ∙ fenced_value _ (medium_word cur (8 * k + i)) ∙ copies.values k i (omega arith) below;
    clean = λ at dirty. (
        let waits = fenced_waits _ (medium_word cur at) refl (subst (λ (w : Word). IsDirtyMark w.mark) (word_is at) dirty) in
        subst IsDirtyMark (sym (copies.waits at waits)) tt);
    idle = λ k inside equal. ap (λ (ns : List ℕ). slice_index ns k) stores ∙ copies.idle k equal;
    own = λ k ge below. ap (λ (ns : List ℕ). slice_index ns k) stores ∙ copies.idle k (λ i small. ap (λ n. value_at old (8 * n + i)) (sym (own_line k ge below)));
    kept = kept_words;
  }
