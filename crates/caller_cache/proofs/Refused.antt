-- The replicas that refused a caller, as marks.
use Rattle.std.proofs.Common.{◌≡◌, ◌+◌, ◌*◌, ◌<◌, ◌≤◌, ◌==◌, ◌&&◌, ◌||◌, inl, inr, ℕ, zero, suc, Bool, true, false, cond, List, [], ◌∷◌, ◌++◌, length, map, replicate, set, refl, ap, sym, ◌∙◌, arith, eq-eqb, ne_eqb, slice_index_or}
use Rattle.std.proofs.lemmas.Bool.{cases_Bool, cases_eq}
use Rattle.std.proofs.lemmas.List.{get_or-set_other, get_or-set_same, length-set}
use Rattle.std.proofs.lemmas.List.{ext_get_or}
use Rattle.std.proofs.lemmas.List.FromFn.{get_or-map-range_with_len, length-map-range_with_len}
use Rattle.std.specs.List.{list_all, range_with_len}
use Rattle.cx_core.specs.declared.local.Local.{Local}
use Rattle.cx_core.specs.LockEvents.{has_all, is_in, refused_by, with_number}
use Rattle.cx_core.specs.State.{one_more}
use Rattle.caller_cache.specs.declared.summary.CachedLocal.{CachedLocal}
use Rattle.caller_cache.specs.Summaries.{summary_of}

abbrev pub marks_of : List ℕ → List Bool
marks_of xs = map (is_in xs) (range_with_len 0 16)

-- a test that agrees on the numbers of a range
all_same : (f g : ℕ → Bool) (from n : ℕ) → ((i : ℕ) → from ≤ i → i < from + n → f i ≡ g i) → list_all f (range_with_len from n) ≡ list_all g (range_with_len from n)
all_same f g from zero same = refl
all_same f g from (suc n) same =
    let first = same from (omega arith) (omega arith) in
    let rest = all_same f g (from + 1) n (λ i a b. same i (omega arith) (omega arith)) in
    ap (λ b. b && list_all f (range_with_len (from + 1) n)) first ∙ ap (λ b. g from && b) rest

-- whether all replicas are marked
pub all_marked : (callers : ℕ) (marks : List Bool) (xs : List ℕ) → callers ≤ 8 → marks ≡ marks_of xs → list_all (λ r. slice_index_or marks r false) (range_with_len 0 (2 * callers)) ≡ has_all callers xs
all_marked callers marks xs few is =
    all_same (λ r. slice_index_or marks r false) (is_in xs) 0 (2 * callers) (λ i _ below.
    ap (λ ms. slice_index_or ms i false) is ∙ get_or-map-range_with_len (is_in xs) 0 16 i i false (omega arith) (omega arith))

absorbs : (b : Bool) → b ≡ (b || false)
absorbs true = refl
absorbs false = refl

full : (b : Bool) → true ≡ (b || true)
full true = refl
full false = refl

is_in_more : (xs : List ℕ) (x y : ℕ) → is_in (xs ++ x ∷ []) y ≡ (is_in xs y || (x == y))
is_in_more [] x y = sym (absorbs (x == y))
is_in_more (z ∷ xs) x y = ap (λ b. (z == y) || b) (is_in_more xs x y) ∙ shift (z == y) (is_in xs y) (x == y)
  where
    shift : (a b c : Bool) → (a || (b || c)) ≡ ((a || b) || c)
    shift true b c = refl
    shift false b c = refl

-- one replica marked more
is_in_with : (xs : List ℕ) (x y : ℕ) → is_in (with_number xs x) y ≡ (is_in xs y || (x == y))
is_in_with xs x y =
    elim (cases_Bool (is_in xs x)) [
      | inl e ↦ ap (λ b. is_in (cond b xs (xs ++ x ∷ [])) y) e ∙ there e
      | inr e ↦ ap (λ b. is_in (cond b xs (xs ++ x ∷ [])) y) e ∙ is_in_more xs x y
    ]
  where
    there : is_in xs x ≡ true → is_in xs y ≡ (is_in xs y || (x == y))
    there e = elim (cases_eq x y) [
      | inl same ↦ ap (is_in xs) (sym same) ∙ e ∙ full (is_in xs y) ∙ ap (λ b. is_in xs y || b) (sym (eq-eqb x y same))
      | inr apart ↦ absorbs (is_in xs y) ∙ ap (λ b. is_in xs y || b) (sym (ne_eqb x y apart))
    ]

pub marked_more : (marks : List Bool) (xs : List ℕ) (r : ℕ) → r < 16 → marks ≡ marks_of xs → set marks r true ≡ marks_of (with_number xs r)
marked_more marks xs r small is =
    let long : length marks ≡ 16 = ap length is ∙ length-map-range_with_len (is_in xs) 0 16 in
    ext_get_or false (set marks r true) (marks_of (with_number xs r)) (length-set marks r true ∙ long ∙ sym (length-map-range_with_len (is_in (with_number xs r)) 0 16)) (λ i within. (
    let below : i < 16 = omega (arith, length-set marks r true, long, within) in
    let new : slice_index_or (marks_of (with_number xs r)) i false ≡ (is_in xs i || (r == i)) = get_or-map-range_with_len (is_in (with_number xs r)) 0 16 i i false below (omega arith) ∙ is_in_with xs r i in
    elim (cases_eq i r) [
      | inl e ↦ ap (λ k. slice_index_or (set marks r true) k false) e ∙ get_or-set_same marks r true false (omega (arith, long)) ∙ full (is_in xs i) ∙ ap (λ b. is_in xs i || b) (sym (eq-eqb r i (sym e))) ∙ sym new
      | inr ne ↦ get_or-set_other marks r i true false ne ∙ ap (λ ms. slice_index_or ms i false) is ∙ get_or-map-range_with_len (is_in xs) 0 16 i i false below (omega arith) ∙ absorbs (is_in xs i) ∙ ap (λ b. is_in xs i || b) (sym (ne_eqb r i (λ s. ne (sym s)))) ∙ sym new
    ]))

-- the numbers after an exclusive try that was refused, where each replica then was or not
abbrev pub after_refusal : Bool → ℕ → CachedLocal → CachedLocal
after_refusal all r m = record m { refused = cond all (replicate 16 false) (set m.refused r true); met = cond all (one_more m.met) m.met; steps = one_more m.steps }

-- after the replica `r` refused an exclusive try, the numbers that code reads are those of the local state after the try
pub summary_refused : (callers r found : ℕ) (l : Local) (m : CachedLocal) (all : Bool) → callers ≤ 8 → r < 2 * callers → m ≡ summary_of l →
    list_all (λ q. slice_index_or (set m.refused r true) q false) (range_with_len 0 (2 * callers)) ≡ all → after_refusal all r m ≡ summary_of (refused_by callers r l found)
summary_refused callers r found l m all few small is each =
    let marks : set m.refused r true ≡ marks_of (with_number l.refused r) = marked_more m.refused l.refused r (omega arith) (ap (λ (x : CachedLocal). x.refused) is) in
    let same : all ≡ has_all callers (with_number l.refused r) = sym each ∙ all_marked callers (set m.refused r true) (with_number l.refused r) few marks in
    let inside : set (summary_of l).refused r true ≡ marks_of (with_number l.refused r) = sym (ap (λ (x : CachedLocal). set x.refused r true) is) ∙ marks in
    ap (λ b. after_refusal b r m) same
    ∙ ap (after_refusal (has_all callers (with_number l.refused r)) r) is
    ∙ ap (λ ms. record (summary_of (refused_by callers r l found)) { refused = ms }) (ap (λ ms. cond (has_all callers (with_number l.refused r)) (replicate 16 false) ms) inside ∙ both (has_all callers (with_number l.refused r)))
  where
    both : (b : Bool) → cond b (replicate 16 false) (marks_of (with_number l.refused r)) ≡ marks_of (cond b [] (with_number l.refused r))
    both true = refl
    both false = refl
