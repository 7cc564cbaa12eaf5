-- Weights that tell calls and reads apart: what weighs something is among what is weighed.
use Rattle.std.proofs.Common.{◌≡◌, ◌≢◌, ◌<◌, ◌≤◌, ◌+◌, ◌⊎◌, inl, inr, ⊎_elim, ℕ, zero, suc, List, [], ◌∷◌, refl, ap, ◌∙◌, arith, Some, slice_get}
use Rattle.std.specs.List.{range_with_len}
use Rattle.std.proofs.lemmas.Bool.{cases_eq}
use Rattle.cx_core.specs.declared.local.SeenRead.{SeenRead}
use Rattle.seat_pool.specs.Gathering.{one_at}
use Rattle.seat_pool.specs.Pooling.{total_weight}
use Rattle.seat_pool.specs.declared.hand.AnsweredCall.{AnsweredCall}

-- the second number, where the first is not 0, and else 0
abbrev pub both_of : ℕ → ℕ → ℕ
both_of zero b = 0
both_of (suc a) b = b

both_are : (a b : ℕ) → 0 < both_of a b → (0 < a) × (0 < b)
both_are zero b lt = absurd (omega (arith, lt))
both_are (suc a) b lt = (omega arith, lt)

-- where each of two weights `a` and `b` is one, the weight of both is one
both_one : (a b : ℕ) → a ≡ 1 → b ≡ 1 → both_of a b ≡ 1
both_one a b p q = ap (λ k. both_of k b) p ∙ q

pub one_self : (m : ℕ) → one_at m m ≡ 1
one_self zero = refl
one_self (suc m) = one_self m

pub one_is : (m n : ℕ) → 0 < one_at m n → m ≡ n
one_is zero zero lt = refl
one_is zero (suc n) lt = absurd (omega (arith, lt))
one_is (suc m) zero lt = absurd (omega (arith, lt))
one_is (suc m) (suc n) lt = ap suc (one_is m n lt)

abbrev same_list : List ℕ → List ℕ → ℕ
same_list [] [] = 1
same_list [] (y ∷ ys) = 0
same_list (x ∷ xs) [] = 0
same_list (x ∷ xs) (y ∷ ys) = both_of (one_at x y) (same_list xs ys)

list_self : (xs : List ℕ) → same_list xs xs ≡ 1
list_self [] = refl
list_self (x ∷ xs) = both_one (one_at x x) (same_list xs xs) (one_self x) (list_self xs)

list_is : (xs ys : List ℕ) → 0 < same_list xs ys → xs ≡ ys
list_is [] [] lt = refl
list_is [] (y ∷ ys) lt = absurd (omega (arith, lt))
list_is (x ∷ xs) [] lt = absurd (omega (arith, lt))
list_is (x ∷ xs) (y ∷ ys) lt =
    let are = both_are (one_at x y) (same_list xs ys) lt in
    ap (λ (k : ℕ). k ∷ xs) (one_is x y are.0) ∙ ap (λ (l : List ℕ). y ∷ l) (list_is xs ys are.1)

-- 1 where two calls are the same, and 0 at others
abbrev pub same_call : AnsweredCall → AnsweredCall → ℕ
same_call t u =
    both_of (one_at t.caller u.caller)
    (both_of (one_at t.entry.ticket u.entry.ticket)
    (both_of (one_at t.entry.entry.caller u.entry.entry.caller)
    (both_of (one_at t.entry.entry.number u.entry.entry.number)
    (both_of (same_list t.entry.entry.op u.entry.entry.op)
    (both_of (one_at t.answer.ticket u.answer.ticket)
    (same_list t.answer.reply u.answer.reply))))))

pub call_self : (t : AnsweredCall) → same_call t t ≡ 1
call_self t =
    both_one _ _ (one_self t.caller)
    (both_one _ _ (one_self t.entry.ticket)
    (both_one _ _ (one_self t.entry.entry.caller)
    (both_one _ _ (one_self t.entry.entry.number)
    (both_one _ _ (list_self t.entry.entry.op)
    (both_one _ _ (one_self t.answer.ticket)
    (list_self t.answer.reply))))))

call_of : ℕ → ℕ → ℕ → ℕ → List ℕ → ℕ → List ℕ → AnsweredCall
call_of caller ticket of number op at reply = record { caller = caller; entry = record { ticket = ticket; entry = record { caller = of; number = number; op = op } }; answer = record { ticket = at; reply = reply } }

pub call_is : (t u : AnsweredCall) → 0 < same_call t u → t ≡ u
unfolding call_of
call_is t u lt =
    let a = both_are _ _ lt in
    let b = both_are _ _ a.1 in
    let c = both_are _ _ b.1 in
    let d = both_are _ _ c.1 in
    let e = both_are _ _ d.1 in
    let f = both_are _ _ e.1 in
    ap (λ k. call_of k t.entry.ticket t.entry.entry.caller t.entry.entry.number t.entry.entry.op t.answer.ticket t.answer.reply) (one_is t.caller u.caller a.0)
    ∙ ap (λ k. call_of u.caller k t.entry.entry.caller t.entry.entry.number t.entry.entry.op t.answer.ticket t.answer.reply) (one_is t.entry.ticket u.entry.ticket b.0)
    ∙ ap (λ k. call_of u.caller u.entry.ticket k t.entry.entry.number t.entry.entry.op t.answer.ticket t.answer.reply) (one_is t.entry.entry.caller u.entry.entry.caller c.0)
    ∙ ap (λ k. call_of u.caller u.entry.ticket u.entry.entry.caller k t.entry.entry.op t.answer.ticket t.answer.reply) (one_is t.entry.entry.number u.entry.entry.number d.0)
    ∙ ap (λ l. call_of u.caller u.entry.ticket u.entry.entry.caller u.entry.entry.number l t.answer.ticket t.answer.reply) (list_is t.entry.entry.op u.entry.entry.op e.0)
    ∙ ap (λ k. call_of u.caller u.entry.ticket u.entry.entry.caller u.entry.entry.number u.entry.entry.op k t.answer.reply) (one_is t.answer.ticket u.answer.ticket f.0)
    ∙ ap (λ l. call_of u.caller u.entry.ticket u.entry.entry.caller u.entry.entry.number u.entry.entry.op u.answer.ticket l) (list_is t.answer.reply u.answer.reply f.1)

-- 1 where two reads are the same, and 0 at others
abbrev pub same_read : SeenRead → SeenRead → ℕ
same_read x y = both_of (one_at x.place y.place) (both_of (same_list x.op y.op) (both_of (same_list x.reply y.reply) (one_at x.before y.before)))

pub read_self : (x : SeenRead) → same_read x x ≡ 1
read_self x = both_one _ _ (one_self x.place) (both_one _ _ (list_self x.op) (both_one _ _ (list_self x.reply) (one_self x.before)))

read_of : ℕ → List ℕ → List ℕ → ℕ → SeenRead
read_of place op reply before = record { place = place; op = op; reply = reply; before = before }

pub read_is : (x y : SeenRead) → 0 < same_read x y → x ≡ y
unfolding read_of
read_is x y lt =
    let a = both_are _ _ lt in
    let b = both_are _ _ a.1 in
    let c = both_are _ _ b.1 in
    ap (λ k. read_of k x.op x.reply x.before) (one_is x.place y.place a.0)
    ∙ ap (λ l. read_of y.place l x.reply x.before) (list_is x.op y.op b.0)
    ∙ ap (λ l. read_of y.place y.op l x.before) (list_is x.reply y.reply c.0)
    ∙ ap (λ k. read_of y.place y.op y.reply k) (one_is x.before y.before c.1)

some_or_none : (n : ℕ) → (0 < n) ⊎ (n ≡ 0)
some_or_none zero = inr refl
some_or_none (suc n) = inl (omega arith)

-- where a sum is something, so is one of its items
pub found : {A : Type 0} (f : A → ℕ) (xs : List A) → 0 < total_weight f xs → (i : ℕ) × (x : A) × (slice_get xs i ≡ Some x) × (0 < f x)
found f [] lt = absurd (omega (arith, lt))
found f (x ∷ xs) lt =
    ⊎_elim (λ some. (0, x, refl, some)) (λ none. (let rest = found f xs (omega (arith, lt, none)) in (suc rest.0, rest.1, rest.2, rest.3))) (some_or_none (f x))

-- what weighs nothing but at one number, weighs at most that among numbers one after another
past : (f : ℕ → ℕ) (m a n : ℕ) → ((c : ℕ) → c ≢ m → f c ≡ 0) → m < a → total_weight f (range_with_len a n) ≡ 0
past f m a zero off lt = refl
past f m a (suc n) off lt =
    let here = off a (λ e. absurd (omega (arith, e, lt))) in
    let rest = past f m (a + 1) n off (omega (arith, lt)) in
    omega (arith, here, rest)

-- what weighs nothing but at the number `m`, and at most `v` there, weighs at most `v` over any `n` numbers from `a` on
pub single : (f : ℕ → ℕ) (m v a n : ℕ) → ((c : ℕ) → c ≢ m → f c ≡ 0) → f m ≤ v → total_weight f (range_with_len a n) ≤ v
single f m v a zero off most = omega arith
single f m v a (suc n) off most =
    ⊎_elim (λ e. (let here : f a ≡ f m = ap f e in let rest = past f m (a + 1) n off (omega (arith, e)) in omega (arith, here, rest, most)))
    (λ ne. (let here = off a ne in let rest = single f m v (a + 1) n off most in omega (arith, here, rest)))
    (cases_eq a m)
