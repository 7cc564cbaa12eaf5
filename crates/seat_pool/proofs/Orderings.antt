-- Callers that are put in order.
use Rattle.std.proofs.Common.{◌≡◌, ◌≢◌, ◌<◌, ◌≤◌, ◌+◌, ◌==◌, ℕ, zero, suc, Bool, true, false, List, [], ◌∷◌, ◌++◌, drop, get_or, length, map, take, sym, refl, ap, ◌∙◌, subst, arith}
use Rattle.std.specs.Prelude.{All, slice_index_or}
use Rattle.std.specs.List.{range_with_len, remove}
use Rattle.std.proofs.lemmas.Bool.Decides.{nat_tests}
use Rattle.std.proofs.lemmas.List.{length-append}
use Rattle.std.proofs.Math.Seq.{take-suc}
use Rattle.std.proofs.lemmas.List.Elements.{All-append, All-drop, All-cons, All-get_or, All-head, All-nil, All-push, All-tail, All-take}
use Rattle.std.proofs.lemmas.List.FromFn.{length-range_with_len}
use Rattle.table_invariant.specs.Running.{IsSeatOf, Running}
use Rattle.table_invariant.specs.Seats.{Seated}
use Rattle.cx_service.specs.Closes.{seat_of, seats_of}
use Rattle.cx_service.specs.declared.close.Handed.{Handed}
use Rattle.cx_service.specs.declared.close.Handed.TheVariants.{Idle, Linked, Stopped}
use Rattle.cx_table.specs.Remains.{AreSeats}
use Rattle.seat_pool.specs.Gathering.{IsNumberAt, IsHandedOf, IsOrdering, handed_number, one_at}
use Rattle.seat_pool.specs.Pooling.{total_weight}
use Rattle.seat_pool.proofs.Poolings.{total_both, units}

one_here : (m : ℕ) → one_at m m ≡ 1
one_here zero = refl
one_here (suc m) = one_here m

pub one_else : (m n : ℕ) → n ≢ m → one_at m n ≡ 0
one_else zero zero apart = absurd (apart refl)
one_else zero (suc n) apart = refl
one_else (suc m) zero apart = refl
one_else (suc m) (suc n) apart = one_else m n (λ e. apart (ap suc e))

-- a number stands among those from a on
stands : (a k n : ℕ) → k < n → 0 < total_weight (one_at (a + k)) (range_with_len a n)
stands a k zero lt = absurd (omega (arith, lt))
stands a zero (suc n) lt =
    let here : one_at (a + 0) a ≡ 1 = (let same : a + 0 ≡ a = omega arith in ap (λ q. one_at q a) same ∙ one_here a) in
    omega (arith, here)
stands a (suc k) (suc n) lt =
    let rest = stands (a + 1) k n (omega (arith, lt)) in
    let same : total_weight (one_at (a + suc k)) (range_with_len (a + 1) n) ≡ total_weight (one_at (a + 1 + k)) (range_with_len (a + 1) n) = (let same : a + suc k ≡ a + 1 + k = omega arith in ap (λ q. total_weight (one_at q) (range_with_len (a + 1) n)) same) in
    omega (arith, rest, same)

-- a number above all of the n numbers from a on does not stand among them
not_below : (m a n : ℕ) → a + n ≤ m → total_weight (one_at m) (range_with_len a n) ≡ 0
not_below m a zero most = refl
not_below m a (suc n) most =
    let here : one_at m a ≡ 0 = one_else m a (λ e. absurd (omega (arith, e, most))) in
    let rest = not_below m (a + 1) n (omega (arith, most)) in
    omega (arith, here, rest)

pub range_push : (a n : ℕ) → range_with_len a (suc n) ≡ range_with_len a n ++ (a + n) ∷ []
range_push a zero = (let same : a ≡ a + 0 = omega arith in ap (λ (k : ℕ). k ∷ []) same)
range_push a (suc n) = (let same : a + 1 + n ≡ a + suc n = omega arith in ap (λ l. a ∷ l) (range_push (a + 1) n ∙ ap (λ (k : ℕ). range_with_len (a + 1) n ++ k ∷ []) same))

total_map : {A : Type 0} (h : ℕ → ℕ) (g : A → ℕ) (xs : List A) → total_weight h (map g xs) ≡ total_weight (λ x. h (g x)) xs
total_map h g [] = refl
total_map h g (x ∷ xs) = ap (λ k. h (g x) + k) (total_map h g xs)

map_push : {A B : Type 0} (g : A → B) (xs : List A) (y : A) → map g (xs ++ y ∷ []) ≡ map g xs ++ g y ∷ []
map_push g [] y = refl
map_push g (x ∷ xs) y = ap (λ l. g x ∷ l) (map_push g xs y)

-- a list weighs what its item at `i` weighs and what the list without that item does
total_removed : {A : Type 0} (f : A → ℕ) (xs : List A) (i : ℕ) (d : A) → i < length xs → total_weight f xs ≡ f (get_or xs i d) + total_weight f (take i xs ++ drop (suc i) xs)
total_removed f [] i d lt = absurd (omega (arith, lt))
total_removed f (x ∷ xs) zero d lt = refl
total_removed f (x ∷ xs) (suc i) d lt = (let rest = total_removed f xs i d (omega (arith, lt)) in omega (arith, rest))

map_twice : (xs : List Handed) → map (λ (s : Seated). s.known.local.number) (map seat_of xs) ≡ map handed_number xs
map_twice [] = refl
map_twice (x ∷ xs) = ap (λ l. handed_number x ∷ l) (map_twice xs)

-- none of the first ones has the number, nor the next
pub none_more : {A : Type 0} (f : A → ℕ) (xs : List A) (i : ℕ) (d : A) → i < length xs → total_weight f (take i xs) ≡ 0 → f (get_or xs i d) ≡ 0 → total_weight f (take (i + 1) xs) ≡ 0
none_more f xs i d lt none next =
    let same : i + 1 ≡ suc i = omega arith in
    let more : total_weight f (take (i + 1) xs) ≡ total_weight f (take i xs ++ get_or xs i d ∷ []) = ap (λ k. total_weight f (take k xs)) same ∙ ap (total_weight f) (take-suc xs i d lt) in
    omega (arith, more, total_both f (take i xs) (get_or xs i d ∷ []), none, next)

pub none_at : (ys xs : List Handed) (i wanted : ℕ) (x : Handed) → ys ≡ xs → i < length ys → total_weight (λ (g : Handed). one_at wanted (handed_number g)) (take i xs) ≡ 0 → x ≡ get_or ys i x → handed_number x ≢ wanted
    → total_weight (λ (g : Handed). one_at wanted (handed_number g)) (take (i + 1) xs) ≡ 0
none_at ys xs i wanted x same lt none is apart =
    none_more (λ (g : Handed). one_at wanted (handed_number g)) xs i x (subst (λ (l : List Handed). i < length l) same lt) none
    (ap (λ (g : Handed). one_at wanted (handed_number g)) (ap (λ (l : List Handed). get_or l i x) (sym same) ∙ sym is) ∙ one_else wanted (handed_number x) apart)

pub not_none : (n : ℕ) (b : Bool) → b ≡ false → b ≡ (n == 0) → 0 < n
not_none n b is test = grind (arith, nat_tests)

pub is_none : (n : ℕ) (b : Bool) → b ≡ true → b ≡ (n == 0) → n ≡ 0
is_none n b is test = grind (arith, nat_tests)

module _ {O : Type 0} (r : Running O) where
  pub ordering_goes_on : (all gathered out after more : List Handed) (place : ℕ) (x : Handed) → IsOrdering r all gathered out → IsNumberAt gathered place (length out)
      → x ≡ slice_index_or gathered place x → after ≡ remove gathered place → more ≡ out ++ x ∷ [] → IsOrdering r all after more
  ordering_goes_on all gathered out after more place x o at is left pushed =
      subst (λ l. IsOrdering r all l more) (sym left) (subst (λ l. IsOrdering r all (remove gathered place) l) (sym pushed) (record {
        left = All-append P (take place gathered) (drop (suc place) gathered) (All-take P place gathered o.left) (All-drop P (suc place) gathered o.left);
        done = All-push P out x o.done (subst P (sym is) (All-get_or P gathered place x at.within o.left));
        numbers = map_push handed_number out x ∙ ap (λ l. l ++ handed_number x ∷ []) o.numbers ∙ ap (λ k. range_with_len 0 (length out) ++ k ∷ []) number ∙ sym (range_push 0 (length out)) ∙ ap (range_with_len 0) long;
        same = λ f. (let here : f x ≡ f (slice_index_or gathered place x) = ap f is in omega (arith, here, o.same f, total_both f out (x ∷ []), total_removed f gathered place x at.within));
      }))
    where
      P : Handed → Type 0
      P = IsHandedOf r

      number : handed_number x ≡ 0 + length out
      number = ap handed_number is ∙ at.number x ∙ omega arith

      long : suc (length out) ≡ length (out ++ x ∷ [])
      long = omega (arith, length-append out (x ∷ []))

  count : (all gathered out : List Handed) → IsOrdering r all gathered out → ((h : ℕ → ℕ) → total_weight (λ (g : Handed). h (handed_number g)) all ≡ total_weight h (range_with_len 0 r.callers)) → length out + length gathered ≡ r.callers
  count all gathered out o numbers = omega (arith, o.same (λ _. 1), numbers (λ _. 1), units Handed out, units Handed gathered, units Handed all, units ℕ (range_with_len 0 r.callers), length-range_with_len 0 r.callers)

  -- the next number is among those that are left
  pub is_left : (all gathered out : List Handed) → IsOrdering r all gathered out → ((h : ℕ → ℕ) → total_weight (λ (g : Handed). h (handed_number g)) all ≡ total_weight h (range_with_len 0 r.callers)) → 0 < length gathered
      → 0 < total_weight (λ (g : Handed). one_at (length out) (handed_number g)) gathered
  is_left all gathered out o numbers some_left =
      let m = length out in
      let many = count all gathered out o numbers in
      let there : 0 < total_weight (one_at m) (range_with_len 0 r.callers) = (let same : 0 + m ≡ m = omega arith in subst (λ q. 0 < total_weight (one_at q) (range_with_len 0 r.callers)) same (stands 0 m r.callers (omega (arith, many, some_left)))) in
      let none : total_weight (λ (g : Handed). one_at m (handed_number g)) out ≡ 0 = sym (total_map (one_at m) handed_number out) ∙ ap (total_weight (one_at m)) o.numbers ∙ not_below m 0 m (omega arith) in
      omega (arith, there, none, numbers (one_at m), o.same (λ (g : Handed). one_at m (handed_number g)))

  seat_handed : (g : Handed) → IsHandedOf r g → IsSeatOf r (seat_of g)
  seat_handed (Idle seat) is = is.of
  seat_handed (Linked seat) is = is.of
  seat_handed (Stopped stopped) is = is.of

  each_seat : (gs : List Handed) → All (IsHandedOf r) gs → All (IsSeatOf r) (seats_of gs)
  each_seat [] all = All-nil (IsSeatOf r)
  each_seat (g ∷ gs) all = All-cons (IsSeatOf r) (seat_of g) (seats_of gs) (seat_handed g (All-head (IsHandedOf r) g gs all)) (each_seat gs (All-tail (IsHandedOf r) g gs all))

  -- where none are left, all are in order
  pub are_all : (all gathered out : List Handed) → IsOrdering r all gathered out → ((h : ℕ → ℕ) → total_weight (λ (g : Handed). h (handed_number g)) all ≡ total_weight h (range_with_len 0 r.callers)) → length gathered ≡ 0 → AreSeats r (seats_of out) × All (IsHandedOf r) out
  are_all all gathered out o numbers none = (
    record {
      of = each_seat out o.done;
      numbers = (let many : length out ≡ r.callers = (let all_ = count all gathered out o numbers in omega (arith, all_, none)) in map_twice out ∙ o.numbers ∙ ap (range_with_len 0) many);
    },
    o.done,
  )
