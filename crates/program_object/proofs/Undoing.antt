-- Stores that are put back.
use Rattle.std.proofs.Common.{◌≡◌, ◌+◌, ◌<◌, ℕ, zero, suc, cond, true, false, List, length, slice_index, slice_set, refl, subst, sym, ap, ◌∙◌, add-one, arith}
use Rattle.std.proofs.lemmas.List.{get_or-set_same, get_or-set_other, set-set, set-get_or}
use Rattle.std.proofs.lemmas.Bool.{lt-ltb}
use Rattle.std.proofs.Common.{◌≤◌, ◌||◌, nat_le, Bool, Option, None}
use Rattle.std.proofs.lemmas.Bool.{le-ltb, lt-leb}
use Rattle.program_machine.specs.Machine.{Machine, following_place, with_part}
use Rattle.program_code.specs.declared.instruction.Unit.{Unit}
use Rattle.program_machine.specs.declared.machine.RunEnd.{RunEnd}
use Rattle.program_machine.specs.declared.machine.RunFault.TheVariants as fault_kind
use Rattle.program_machine.specs.declared.machine.Wish.{Wish}
use Rattle.program_machine.specs.declared.machine.Wish.TheVariants.{Stores}
use Rattle.program_object.specs.Run.{undone, put, Undo, RunState, Granted, end_by_fault, is_outside, store_noted, state}

-- undoing `n` stores is the same by lists that agree in their first `n` places and words
undone_same : (size n : ℕ) (p q v w now : List ℕ) → ((i : ℕ) → i < n → slice_index p i ≡ slice_index q i) → ((i : ℕ) → i < n → slice_index v i ≡ slice_index w i) →
    undone size n p v now ≡ undone size n q w now
undone_same size zero p q v w now hp hv = refl
undone_same size (suc n) p q v w now hp hv =
    undone_same size n p q v w (put size now (slice_index p n) (slice_index v n)) (λ i l. hp i (omega (arith, l))) (λ i l. hv i (omega (arith, l)))
    ∙ ap (λ a. undone size n q w (put size now a (slice_index v n))) (hp n (omega arith))
    ∙ ap (λ b. undone size n q w (put size now (slice_index q n) b)) (hv n (omega arith))

-- a store that was made and is put back leaves the words as they were
put_back : (size at v : ℕ) (before : List ℕ) → at < size → put size (slice_set before at v) at (slice_index before at) ≡ before
put_back size at v before within =
    ap (λ b. cond b (slice_set (slice_set before at v) at (slice_index before at)) (slice_set before at v)) (lt-ltb at size within)
    ∙ set-set before at v (slice_index before at)
    ∙ set-get_or before at 0

-- undoing one store more, and then all stores before it, leads to what undoing those before it leads to
pub undone_more : (size n at v old : ℕ) (p w before : List ℕ) → n < length p → n < length w → at < size → old ≡ slice_index before at →
    undone size (n + 1) (slice_set p n at) (slice_set w n old) (slice_set before at v) ≡ undone size n p w before
undone_more size n at v old p w before lp lw within is =
    let q = slice_set p n at in
    let u = slice_set w n old in
    ap (λ k. undone size k q u (slice_set before at v)) (add-one n)
    ∙ ap (λ a. undone size n q u (put size (slice_set before at v) a (slice_index u n))) (get_or-set_same p n at 0 lp)
    ∙ ap (λ b. undone size n q u (put size (slice_set before at v) at b)) (get_or-set_same w n old 0 lw ∙ is)
    ∙ ap (undone size n q u) (put_back size at v before within)
    ∙ undone_same size n q p u w before
    (λ i l. get_or-set_other p n i at 0 (λ e. omega (arith, l, e)))
    (λ i l. get_or-set_other w n i old 0 (λ e. omega (arith, l, e)))

-- a choice by a test that does not hold is the second of the two
chosen : {A : Type 0} (b : Bool) (x y : A) → b ≡ false → cond b x y ≡ y
chosen b x y e = ap (λ b. cond b x y) e

-- what a run has after a store at `place`, where the word `w` was there
abbrev stored : Machine → Undo → ℕ → Unit → ℕ → ℕ → List ℕ → ℕ → Option RunEnd × RunState
stored m undo place u address value before w = (None, record { machine = record m { at = following_place m.at }; stores = undo.count + 1; image = slice_set before place (with_part u address w value) })

-- a store by a run that may store, within the object and with room in the undo, is granted: the word has another part, and its old value is noted
pub granted_store : (writes : Bool) (words place : ℕ) (u : Unit) (address value word : ℕ) (m : Machine) (undo : Undo) (before : List ℕ) →
    8 ≤ place → place < words → writes ≡ true → undo.count < 256 → length undo.places ≡ 256 → length undo.words ≡ 256 → slice_index before place ≡ word →
    Granted writes words (Stores place u address value) m undo before None (record m { at = following_place m.at }) (store_noted undo place word) (slice_set before place (with_part u address word value))
granted_store writes words place u address value word m undo before from below allowed few lp lw is = record {
  does =
      chosen (is_outside place words) _ _ (ap (λ b. b || nat_le words place) (le-ltb place 8 from) ∙ lt-leb words place below)
      ∙ ap (λ b. cond b (cond (nat_le 256 undo.count) (end_by_fault m fault_kind.Stores address, state m undo before) (stored m undo place u address value before (slice_index before place))) (end_by_fault m fault_kind.ReadOnly address, state m undo before)) allowed
      ∙ chosen (nat_le 256 undo.count) _ _ (lt-leb 256 undo.count few)
      ∙ ap (stored m undo place u address value before) is;
  back = undone_more words undo.count place (with_part u address word value) word undo.places undo.words before (omega (arith, lp, few)) (omega (arith, lw, few)) below (sym is);
  still = λ no. cc;
}

-- a store was granted where the words after it, and what was kept to undo it, are known by equations
pub granted_store_at : (writes : Bool) (words place : ℕ) (u : Unit) (address value word changed : ℕ) (w : Wish) (m : Machine) (undo undo' : Undo) (before now : List ℕ) →
    w ≡ Stores place u address value → 8 ≤ place → place < words → writes ≡ true → undo.count < 256 → length undo.places ≡ 256 → length undo.words ≡ 256 → slice_index before place ≡ word →
    undo' ≡ store_noted undo place word → now ≡ slice_set before place changed → changed ≡ with_part u address word value →
    Granted writes words w m undo before None (record m { at = following_place m.at }) undo' now
granted_store_at writes words place u address value word changed w m undo undo' before now iw from below allowed few lp lw is pu en ec =
    subst (λ (x : Wish). Granted writes words x m undo before None (record m { at = following_place m.at }) undo' now) (sym iw)
    (subst (λ (v : Undo). Granted writes words (Stores place u address value) m undo before None (record m { at = following_place m.at }) v now) (sym pu)
    (subst (λ (n : List ℕ). Granted writes words (Stores place u address value) m undo before None (record m { at = following_place m.at }) (store_noted undo place word) n) (sym (en ∙ ap (slice_set before place) ec))
    (granted_store writes words place u address value word m undo before from below allowed few lp lw is)))
