-- The state with which a core opens: it is whole, and the lists in it grow by one copy.
use Rattle.std.proofs.Common.{◌≡◌, ◌+◌, ◌*◌, ◌<◌, ◌≤◌, ℕ, length, Some, length-append, zero, suc, List, [], ◌∷◌, ◌++◌, replicate, refl, ap, sym, subst, ◌∙◌, append_assoc, add-one, arith}
use Rattle.std.proofs.lemmas.List.{append-nil, length-replicate}
use Rattle.std.proofs.lemmas.List.FromFn.{length-map-range_with_len, get_or-map-range_with_len}
use Rattle.std.proofs.lemmas.Option.{slice_get_within, get_or_from_slice_get, none-some}
use Rattle.std.specs.List.{slice_get}
use Rattle.cx_core.specs.declared.entry.Base.{Base}
use Rattle.cx_core.specs.declared.local.Local.{Local}
use Rattle.cx_core.specs.Layout.{word_count}
use Rattle.cx_core.specs.State.{IsWhole, copies, opening_local, opening_locals, opening_words, opening_state}

copies-suc : (n : ℕ) (xs : List ℕ) → xs ++ copies n xs ≡ copies n xs ++ xs
copies-suc zero xs = append-nil xs
copies-suc (suc n) xs = ap (λ ys. xs ++ ys) (copies-suc n xs) ∙ sym (append_assoc xs (copies n xs) xs)

pub copies_more : (n : ℕ) (xs : List ℕ) → copies (n + 1) xs ≡ copies n xs ++ xs
copies_more n xs = rw add-one (copies-suc n xs)

replicate-suc : (n a : ℕ) → a ∷ replicate n a ≡ replicate n a ++ a ∷ []
replicate-suc zero a = refl
replicate-suc (suc n) a = ap (λ ys. a ∷ ys) (replicate-suc n a)

pub replicate_more : (n a : ℕ) → replicate (n + 1) a ≡ replicate n a ++ a ∷ []
replicate_more n a = rw add-one (replicate-suc n a)

length-copies : (n : ℕ) (xs : List ℕ) → length (copies n xs) ≡ length xs * n
length-copies zero xs = omega arith
length-copies (suc n) xs = length-append xs (copies n xs) ∙ omega (arith, length-copies n xs)

-- the words with which a table opens are as many as it has
pub length-opening : (callers : ℕ) (base : Base) → 1 ≤ callers → length (opening_words callers base) ≡ word_count callers (length base.words)
unfolding opening_words
length-opening callers base some =
    simp (length-append {A = ℕ}, length-replicate {A = ℕ}) (omega (arith, length-copies (4 * callers) base.words))

-- each opening local state is its caller's
pub opening_at : (callers place caller : ℕ) (l : Local) → slice_get (opening_locals callers place) caller ≡ Some l → (caller < callers) × (l ≡ opening_local callers place caller)
opening_at callers place caller l at =
    let f = opening_local callers place in
    let within : caller < callers = omega (arith, slice_get_within (opening_locals callers place) caller l at, length-map-range_with_len f 0 callers) in
    (within, sym (get_or_from_slice_get (opening_locals callers place) caller l l at) ∙ get_or-map-range_with_len f 0 callers caller caller l within (omega arith))

-- what a core opens with is whole
pub opening_whole : (callers lines : ℕ) (base : Base) → 1 ≤ callers → callers ≤ 8 → 1168 ≤ length base.words →
    IsWhole (record { callers = callers; lines = lines; base = base; state = opening_state callers base })
opening_whole callers lines base some few slots = record {
  some = some;
  few = few;
  slots = slots;
  long = length-opening callers base some;
  count = length-map-range_with_len (opening_local callers base.place) 0 callers;
  numbers = λ caller l at. ap (λ (x : Local). x.number) (opening_at callers base.place caller l at).1;
  entries = λ caller l at i x there. absurd (none-some x (subst (λ (y : Local). slice_get y.own i ≡ Some x) (opening_at callers base.place caller l at).1 there));
}
