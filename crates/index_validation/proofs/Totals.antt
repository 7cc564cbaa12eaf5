-- How many lines there are.
use Rattle.std.proofs.Common.{◌≡◌, ◌^◌, ◌+◌, ◌<◌, ◌≤◌, ℕ, zero, suc, cond, eqb, leb, ltb, ◌&&◌, List, [], ◌∷◌, ◌++◌, length, length-append, refl, inl, inr, arith}
use Rattle.std.specs.List.{flat_map, All}
use Rattle.std.proofs.lemmas.Bool.{cases_eq}
use Rattle.std.proofs.lemmas.Bool.Decides.{nat_tests}
use Rattle.std.proofs.lemmas.List.Elements.{All-head, All-tail, All-weaker}
use Rattle.cx_base.specs.Store.{Store}
use Rattle.avl_words.specs.Tree.{Tree}
use Rattle.avl_words.specs.Lines.{word_of}
use Rattle.index_validation.specs.Layout.{PairLayout, lines_at, RevisionHead, IsLaidOut}
use Rattle.avl_words.proofs.Frames.{times_other}
use Rattle.index_validation.specs.Lawful.{count_of}
use Rattle.index_validation.proofs.Counts.{count_cons}
use Rattle.index_validation.proofs.Lines.{lines_there}

-- a sum over the numbers below n
sum_below : ℕ → (ℕ → ℕ) → ℕ
sum_below zero f = 0
sum_below (suc n) f = f n + sum_below n f

sum_same : (n : ℕ) (f g : ℕ → ℕ) → ((x : ℕ) → f x ≡ g x) → sum_below n f ≡ sum_below n g
unfolding sum_below
sum_same zero f g h = refl
sum_same (suc n) f g h = omega (arith, h n, sum_same n f g h)

sum_plus : (n : ℕ) (f g : ℕ → ℕ) → sum_below n (λ x. f x + g x) ≡ sum_below n f + sum_below n g
unfolding sum_below
sum_plus zero f g = refl
sum_plus (suc n) f g = omega (arith, sum_plus n f g)

-- the test whether `l` and `n` are equal counts 1 where they are
is_same : (l n : ℕ) → l ≡ n → ◌≡◌ {A = ℕ} (cond (eqb l n) 1 0) 1
is_same l n e = grind (arith, nat_tests)

sum_past : (n l : ℕ) → n ≤ l → sum_below n (λ x. cond (eqb l x) 1 0) ≡ 0
unfolding sum_below
sum_past zero l h = refl
sum_past (suc n) l h = omega (arith, times_other l n (omega arith), sum_past n l (omega arith))

sum_once : (n l : ℕ) → l < n → sum_below n (λ x. cond (eqb l x) 1 0) ≡ 1
unfolding sum_below
sum_once zero l h = absurd (omega arith)
sum_once (suc n) l h =
    elim (cases_eq l n) [
      | inl e ↦ omega (arith, is_same l n e, sum_past n l (omega arith))
      | inr ne ↦ omega (arith, times_other l n ne, sum_once n l (omega arith))
    ]

sum_zero : (n : ℕ) → sum_below n (λ x. 0) ≡ 0
unfolding sum_below
sum_zero zero = refl
sum_zero (suc n) = omega (arith, sum_zero n)

sum_times : (n : ℕ) (lines : List ℕ) → All (λ x. x < n) lines → sum_below n (λ x. count_of x lines) ≡ length lines
sum_times n [] below = sum_zero n
sum_times n (l ∷ lines) below =
    let first = sum_once n l (All-head (λ x. x < n) l lines below) in
    let rest = sum_times n lines (All-tail (λ x. x < n) l lines below) in
    let parts = sum_plus n (λ x. cond (eqb l x) 1 0) (λ x. count_of x lines) in
    let whole = sum_same n (λ x. count_of x (l ∷ lines)) (λ x. cond (eqb l x) 1 0 + count_of x lines) (λ x. count_cons x l lines) in
    omega (arith, first, rest, parts, whole)

in_range : (n end : ℕ) → 1 ≤ n → n < end → ◌≡◌ {A = ℕ} (cond (leb 1 n && ltb n end) 1 0) 1
in_range n end some l = grind (arith, nat_tests)

out_of_range : (end : ℕ) → ◌≡◌ {A = ℕ} (cond (leb 1 0 && ltb 0 end) 1 0) 0
out_of_range end = grind (arith, nat_tests)

sum_range : (n end : ℕ) → n < end → sum_below (suc n) (λ x. cond (leb 1 x && ltb x end) 1 0) ≡ n
unfolding sum_below
sum_range zero end l = omega (arith, out_of_range end)
sum_range (suc n) end l = omega (arith, in_range (suc n) end (omega arith) l, sum_range n end (omega arith))

lines_total : (end : ℕ) (lines : List ℕ) → 1 ≤ end → All (λ x. x < end) lines → ((x : ℕ) → count_of x lines ≡ cond (leb 1 x && ltb x end) 1 0) → length lines + 1 ≡ end
lines_total zero lines some below once = absurd (omega arith)
lines_total (suc n) lines some below once =
    let a = sum_times (suc n) lines below in
    let b = sum_same (suc n) (λ x. count_of x lines) (λ x. cond (leb 1 x && ltb x (suc n)) 1 0) once in
    let c = sum_range n (suc n) (omega arith) in
    omega (arith, a, b, c)

-- all lines that were given are in use, given back or loose
pub all_lines : (ws : List ℕ) (head : RevisionHead) (store : Store) (tree : Tree ℕ) (places : List PairLayout) (given loose : List ℕ) → IsLaidOut ws head store tree places given loose →
    length (flat_map lines_at places) + length given + length loose + 1 ≡ word_of ws 0 3
all_lines ws head store tree places given loose a =
    let used = flat_map lines_at places in
    let below = All-weaker (λ x. (1 ≤ x) × (x < word_of ws 0 3)) (λ x. x < word_of ws 0 3) (λ x h. h.1) (used ++ given ++ loose) (lines_there ws head store tree places given loose a) in
    let total = lines_total (word_of ws 0 3) (used ++ given ++ loose) a.end_from below a.once in
    omega (arith, total, length-append (used ++ given) loose, length-append used given)

pub few_given : (ws : List ℕ) (head : RevisionHead) (store : Store) (tree : Tree ℕ) (places : List PairLayout) (given loose : List ℕ) → IsLaidOut ws head store tree places given loose → word_of ws 0 4 ≤ 2 ^ 32
few_given ws head store tree places given loose a = omega (arith, all_lines ws head store tree places given loose a, a.given_count, a.end_to, a.sized.few)
