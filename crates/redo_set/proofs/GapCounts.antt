-- How many gaps a set leaves, counted as their ends are found one behind another.
use Rattle.std.proofs.Common.{◌≡◌, ◌≢◌, ◌+◌, ◌-◌, ◌*◌, ◌/◌, ◌<◌, ◌≤◌, inl, inr, ℕ, zero, suc, true, false, List, slice_index, refl, ap, sym, ◌∙◌, arith, ne_eqb, eq-eqb, if◌then◌else◌, Result, Ok, Err}
use Rattle.std.proofs.lemmas.Bool.{cases_eq, or_from, or_left, or_right}
use Rattle.table_invariant.specs.Seats.{Seated, StepsBy}
use Rattle.redo_set.specs.Gaps.{HasAddress, IsNextLine, LeavesGap, NotesGaps, gaps_of, is_among, lines_to, steps_on}

among_some : (set : List ℕ) (n m count : ℕ) → m < count → slice_index set (2 * m + 1) / 8 ≡ n → is_among set n count ≡ true
unfolding is_among
among_some set n m zero below is = absurd (omega (arith, below))
among_some set n m (suc c) below is = elim (cases_eq m c) [
  | inl e ↦ or_left _ _ (eq-eqb _ n (ap (λ i. slice_index set (2 * i + 1) / 8) (sym e) ∙ is))
  | inr ne ↦ or_right _ _ (among_some set n m c (omega (arith, below, ne)) is)
]

among_none : (set : List ℕ) (n count : ℕ) → ((m : ℕ) → m < count → slice_index set (2 * m + 1) / 8 ≢ n) → is_among set n count ≡ false
unfolding is_among
among_none set n zero none = refl
among_none set n (suc c) none = or_from _ _ (ne_eqb _ n (none c (omega arith))) (among_none set n c (λ m below. none m (omega (arith, below))))

pub lines_none : (set : List ℕ) → 0 ≡ lines_to set 0
unfolding lines_to
lines_none set = refl

-- a line with an address counts, and one with none does not
line_more : (set : List ℕ) (n : ℕ) → HasAddress set (suc n) → lines_to set (suc n) ≡ lines_to set n + 1
unfolding lines_to
line_more set n has = ap (λ b. lines_to set n + (if b then 1 else 0)) (among_some set (suc n) has.0 (slice_index set 0) has.1 has.2)

line_none : (set : List ℕ) (n : ℕ) → ((m : ℕ) → m < slice_index set 0 → slice_index set (2 * m + 1) / 8 ≢ suc n) → lines_to set (suc n) ≡ lines_to set n
unfolding lines_to
line_none set n none =
    let same : lines_to set n + 0 ≡ lines_to set n = omega arith in
    ap (λ b. lines_to set n + (if b then 1 else 0)) (among_none set (suc n) (slice_index set 0) none) ∙ same

-- no line within a gap counts
none_between : (set : List ℕ) (from to n : ℕ) → LeavesGap set from to → from ≤ n → n < to → lines_to set n ≡ lines_to set from
none_between set from to zero gap least below = ap (lines_to set) (let e : 0 ≡ from = omega (arith, least) in e)
none_between set from to (suc n) gap least below = elim (cases_eq (suc n) from) [
  | inl e ↦ ap (lines_to set) e
  | inr ne ↦
      line_none set n (λ m few is. elim (gap m few) [
        | inl low ↦ (let here : slice_index set (2 * m + 1) / 8 ≡ suc n = is in omega (arith, low, here, least, ne))
        | inr high ↦ (let here : slice_index set (2 * m + 1) / 8 ≡ suc n = is in omega (arith, high, here, below))
      ])
      ∙ none_between set from to n gap (omega (arith, least, ne)) (omega (arith, below))
]

-- the next line with an address is one more, and behind the last one there is none
pub next_more : (set : List ℕ) (lines from next : ℕ) → IsNextLine set lines from next → next ≢ lines → lines_to set next ≡ lines_to set from + 1
next_more set lines from zero is apart = elim is.ends [
  | inl e ↦ absurd (apart e)
  | inr has ↦ (let above = has.0 in absurd (omega (arith, above)))
]
next_more set lines from (suc n) is apart = elim is.ends [
  | inl e ↦ absurd (apart e)
  | inr has ↦ (let above = has.0 in line_more set n has.1 ∙ ap (λ k. k + 1) (none_between set from (suc n) n is.gap (omega (arith, above)) (omega arith)))
]

pub next_last : (set : List ℕ) (lines from next : ℕ) → IsNextLine set lines from next → next ≡ lines → from ≤ lines - 1 → lines_to set (lines - 1) ≡ lines_to set from
next_last set lines from next is end least = elim (cases_eq lines 0) [
  | inl e ↦ ap (lines_to set) (let same : lines - 1 ≡ from = omega (arith, e, least) in same)
  | inr some ↦ none_between set from next (lines - 1) is.gap least (omega (arith, end, some))
]

lines_rise : (set : List ℕ) (m n : ℕ) → m ≤ n → lines_to set m ≤ lines_to set n
unfolding lines_to
lines_rise set m zero order = (let e : lines_to set m ≡ lines_to set 0 = ap (lines_to set) (let z : m ≡ 0 = omega (arith, order) in z) in omega (arith, e))
lines_rise set m (suc n) order = elim (cases_eq m (suc n)) [
  | inl e ↦ (let same : lines_to set m ≡ lines_to set (suc n) = ap (lines_to set) e in omega (arith, same))
  | inr ne ↦ (let least = lines_rise set m n (omega (arith, order, ne)) in omega (arith, least))
]

-- where n lines count before the end, there are more than n gaps
pub more_gaps : (set : List ℕ) (lines at n : ℕ) → n ≡ lines_to set at → at ≤ lines - 1 → n < gaps_of set lines
more_gaps set lines at n count order = (let least = lines_rise set at (lines - 1) order in omega (arith, count, least))

-- ---- steps

pub steps_next : (k s : ℕ) → steps_on (k + 1) s ≡ steps_on (suc k) s
steps_next k s = ap (λ n. steps_on n s) (let e : k + 1 ≡ suc k = omega arith in e)

pub steps_most : (n s : ℕ) → steps_on n s ≤ s + n
steps_most zero s = omega arith
steps_most (suc n) s = (let most = steps_most n s in omega (arith, most))

-- no more steps were made than gaps were to be noted
pub notes_most : {A E : Type 0} (n most : ℕ) (before after : Seated) (result : Result A E) → n ≤ most → NotesGaps n before after result → StepsBy most before after
notes_most n most before after (Ok x) few is = (let all = steps_most n before.known.local.steps in omega (arith, few, is, all))
notes_most n most before after (Err e) few part =
    let all = steps_most part.0 before.known.local.steps in
    let under = part.1 in
    let is = part.2 in
    omega (arith, few, under, is, all)
