-- The opening state has the parts on locks and on regions.
use Rattle.std.proofs.Common.{◌≡◌, ◌+◌, ◌-◌, ◌*◌, ◌<◌, ◌≤◌, inl, inr, ℕ, zero, suc, List, [], ◌∷◌, ◌++◌, Some, length, replicate, slice_index, refl, ap, sym, subst, ◌∙◌, arith, length-append}
use Rattle.std.proofs.lemmas.Bool.{cases_eq, cases_lt}
use Rattle.std.proofs.lemmas.List.{get_or_append_left, get_or-append_right, get_or_past, get_or-replicate, length-replicate}
use Rattle.std.proofs.lemmas.Nat.{mod-mul-add}
use Rattle.std.proofs.lemmas.Option.{none-some}
use Rattle.std.proofs.Math.Nat.{mul-suc}
use Rattle.std.specs.List.{range_with_len}
use Rattle.cx_base.specs.Codes.{root_replica_of}
use Rattle.cx_core.specs.declared.entry.Base.{Base}
use Rattle.cx_core.specs.declared.local.Local.{Local}
use Rattle.cx_core.specs.History.{full_image}
use Rattle.cx_core.specs.LawfulLocks.{FewRights, Locks, marks, pin}
use Rattle.cx_core.specs.LawfulRegions.{Regions, per_word, vol_word}
use Rattle.cx_core.specs.Layout.{cur_at, lock_at, max_word, per_at, replicas_at, vol_at}
use Rattle.cx_core.specs.Region.{place_of}
use Rattle.cx_core.specs.Rights.{holds, is_on}
use Rattle.cx_core.specs.State.{Instance, copies, opening_code, opening_local, opening_locals, opening_words}
use Rattle.cx_core.proofs.HistoryLemmas.{begins}
use Rattle.cx_core.proofs.StateLemmas.{length-opening, opening_at}
use Rattle.cx_core.proofs.Sums.{on_other, on_same, total_nothing}

-- what stands in front of the locks, and of the words of replicas
abbrev front : ℕ → Base → List ℕ
front callers base = (opening_code callers base.place ∷ opening_code callers base.place ∷ base.place ∷ base.place ∷ []) ++ replicate callers max_word

abbrev locks_and_front : ℕ → Base → List ℕ
locks_and_front callers base = front callers base ++ (1 ∷ []) ++ replicate (2 * callers - 1) 0

abbrev head : ℕ → Base → List ℕ
head callers base = locks_and_front callers base ++ replicate (18752 * callers) 0

front_long : (callers : ℕ) (base : Base) → length (front callers base) ≡ 4 + callers
front_long callers base = simp (length-replicate {A = ℕ}) (omega arith)

locks_long : (callers : ℕ) (base : Base) → 1 ≤ callers → length (locks_and_front callers base) ≡ 4 + 3 * callers
locks_long callers base some = simp (length-append {A = ℕ}, length-replicate {A = ℕ}) (omega arith)

head_long : (callers : ℕ) (base : Base) → 1 ≤ callers → length (head callers base) ≡ replicas_at callers
head_long callers base some =
    length-append (locks_and_front callers base) (replicate (18752 * callers) 0) ∙ omega (arith, locks_long callers base some, length-replicate {A = ℕ} (18752 * callers) 0)

-- CUR is the opening code
code_there : (callers : ℕ) (base : Base) → slice_index (opening_words callers base) cur_at ≡ opening_code callers base.place
unfolding opening_words
code_there callers base = refl

-- lock 0 is 1, and each other lock is 0
lock_words : (callers r : ℕ) (base : Base) → 1 ≤ callers → r < 2 * callers → slice_index (opening_words callers base) (lock_at callers r) ≡ is_on r (Some 0)
unfolding opening_words
lock_words callers r base some small =
    let at = lock_at callers r in
    let one : List ℕ = 1 ∷ [] in
    let rest : List ℕ = replicate (2 * callers - 1) 0 in
    let one_long : length (front callers base ++ one) ≡ 5 + callers = length-append (front callers base) one ∙ omega (arith, front_long callers base) in
    let in_head : at < length (head callers base) = omega (arith, head_long callers base some) in
    let in_locks : at < length (locks_and_front callers base) = omega (arith, locks_long callers base some) in
    get_or_append_left (head callers base) (copies (4 * callers) base.words) 0 at in_head
    ∙ get_or_append_left (locks_and_front callers base) (replicate (18752 * callers) 0) 0 at in_locks
    ∙ elim (cases_eq r 0) [
      | inl e ↦ (
          let here : at < length (front callers base ++ one) = omega arith in
          let zero_ : at - (4 + callers) ≡ 0 = omega arith in
          get_or_append_left (front callers base ++ one) rest 0 at here
          ∙ get_or-append_right (front callers base) one (4 + callers) at 0 (front_long callers base) (omega arith)
          ∙ ap (slice_index one) zero_
          ∙ sym (on_same 0 r (sym e)))
      | inr ne ↦ (
          let within : at - (5 + callers) < 2 * callers - 1 = omega arith in
          get_or-append_right (front callers base ++ one) rest (5 + callers) at 0 one_long (omega arith)
          ∙ get_or-replicate {A = ℕ} (2 * callers - 1) (at - (5 + callers)) 0 0 within
          ∙ sym (on_other 0 r (λ e. ne (sym e))))
    ]

-- no caller has a right
pub opening_locks : (callers : ℕ) (base : Base) → 1 ≤ callers → Locks callers (opening_words callers base) (opening_locals callers base.place)
opening_locks callers base some =
    let place = base.place in
    let code = opening_code callers place in
    record {
      each = λ q small. (
          let nobody = total_nothing (marks callers q) (opening_local callers place) (range_with_len 0 callers) (λ x. omega arith) in
          let unheld = total_nothing (holds q) (opening_local callers place) (range_with_len 0 callers) (λ x. refl) in
          let replica : root_replica_of callers code ≡ 0 = mod-mul-add place (2 * callers) 0 (omega arith) in
          let on : pin callers q (slice_index (opening_words callers base) cur_at) ≡ is_on q (Some 0) = ap (λ n. is_on q (Some (root_replica_of callers n))) (code_there callers base) ∙ ap (λ n. is_on q (Some n)) replica in
          record {
            counted = omega (arith, nobody, on, lock_words callers q base some small);
            one = omega (arith, unheld);
            alone = λ held. absurd (omega (arith, unheld));
          });
      few = λ c l there. (
          let none : FewRights callers (opening_local callers place c) = record { two = omega arith; below = λ r held. absurd (omega arith); apart = λ r. omega arith } in
          subst (FewRights callers) (sym (opening_at callers place c l there).1) none);
    }

-- a word of one of some copies
copies_at : (n : ℕ) (xs : List ℕ) (k i : ℕ) → k < n → i < length xs → slice_index (copies n xs) (length xs * k + i) ≡ slice_index xs i
copies_at zero xs k i inside below = absurd (omega arith)
copies_at (suc n) xs zero i inside below =
    let at : length xs * 0 + i ≡ i = omega arith in
    ap (slice_index (xs ++ copies n xs)) at ∙ get_or_append_left xs (copies n xs) 0 i below
copies_at (suc n) xs (suc k) i inside below =
    let row = mul-suc (length xs) k in
    let rest : length xs * suc k + i - length xs ≡ length xs * k + i = omega (arith, row) in
    get_or-append_right xs (copies n xs) (length xs) (length xs * suc k + i) 0 refl (omega (arith, row)) ∙ ap (slice_index (copies n xs)) rest ∙ copies_at n xs k i (omega arith) below

module _ (instance : Instance) (some : 1 ≤ instance.callers) where
  abbrev words : List ℕ
  words = opening_words instance.callers instance.base

  -- word i of copy k
  copy_word : (k i : ℕ) → k < 4 * instance.callers → i < length instance.base.words → slice_index words (replicas_at instance.callers + (length instance.base.words * k + i)) ≡ slice_index instance.base.words i
  unfolding opening_words
  copy_word k i inside below =
      let from = replicas_at instance.callers in
      let all = copies (4 * instance.callers) instance.base.words in
      let at = from + (length instance.base.words * k + i) in
      let rest : at - from ≡ length instance.base.words * k + i = omega arith in
      get_or-append_right (head instance.callers instance.base) all from at 0 (head_long instance.callers instance.base some) (omega arith)
      ∙ ap (slice_index all) rest ∙ copies_at (4 * instance.callers) instance.base.words k i inside below

  opening_vol : (r i : ℕ) → r < 2 * instance.callers → i < length instance.base.words → vol_word instance words r i ≡ slice_index instance.base.words i
  opening_vol r i small below =
      let at : vol_at instance.callers (length instance.base.words) r i ≡ replicas_at instance.callers + (length instance.base.words * r + i) = omega arith in
      ap (slice_index words) at ∙ copy_word r i (omega arith) below

  opening_per : (r i : ℕ) → r < 2 * instance.callers → i < length instance.base.words → per_word instance words r i ≡ slice_index instance.base.words i
  opening_per r i small below =
      let at : per_at instance.callers (length instance.base.words) r i ≡ replicas_at instance.callers + (length instance.base.words * (2 * instance.callers + r) + i) = omega arith in
      ap (slice_index words) at ∙ copy_word (2 * instance.callers + r) i (omega arith) below

  opening_place : (r : ℕ) → r < 2 * instance.callers → vol_word instance words r 0 ≡ place_of instance.base.words
  opening_place r small = elim (cases_lt 0 (length instance.base.words)) [
    | inl more ↦ opening_vol r 0 small more
    | inr none ↦ (
        let nothing : length instance.base.words ≡ 0 = omega arith in
        let row : length instance.base.words * r ≡ 0 = ap (λ n. n * r) nothing ∙ omega arith in
        let all : length instance.base.words * (4 * instance.callers) ≡ 0 = ap (λ n. n * (4 * instance.callers)) nothing ∙ omega arith in
        get_or_past words (vol_at instance.callers (length instance.base.words) r 0) 0 (omega (arith, row, all, length-opening instance.callers instance.base some))
        ∙ sym (get_or_past instance.base.words 0 0 (omega arith)))
  ]

  -- every replica is the base, which is the full image after its place
  pub opening_regions : place_of instance.base.words ≡ instance.base.place → Regions instance [] words (opening_locals instance.callers instance.base.place)
  opening_regions placed =
      let image = full_image instance.step instance.base [] in
      let at = opening_at instance.callers instance.base.place in
      record {
        unheld = λ r small _. (
            let place : vol_word instance words r 0 ≡ instance.base.place = opening_place r small ∙ placed in
            let is : instance.base.words ≡ image (vol_word instance words r 0) = sym (begins instance.step instance.base []) ∙ ap image (sym place) in
            record {
              from = omega (arith, place);
              to = omega (arith, place);
              vol = λ i below. opening_vol r i small below ∙ ap (λ ws. slice_index ws i) is;
              per = λ i below. opening_per r i small below ∙ ap (λ ws. slice_index ws i) is;
            });
        held = λ c l there h has. absurd (none-some h (sym (ap (λ (x : Local). x.exclusive) (at c l there).1) ∙ has));
        loaded = λ c l there h has. absurd (none-some h (sym (ap (λ (x : Local). x.shared) (at c l there).1) ∙ has));
      }
