-- Lines with and without a mark.
use Rattle.std.proofs.Common.{◌≡◌, ◌≢◌, ◌↔◌, IsTrue, ◌+◌, ◌<◌, ◌≤◌, ℕ, Bool, true, false, cond, eqb, ltb, List, [], ◌∷◌, ◌++◌, length, get_or, set, refl, sym, ap, subst, ◌∙◌, inl, inr, arith}
use Rattle.std.specs.Bool.{MatchBool}
use Rattle.std.specs.List.{All}
use Rattle.std.proofs.lemmas.Bool.{cases_eq, cases_lt, false≢true}
use Rattle.std.proofs.lemmas.Bool.Decides.{nat_tests}
use Rattle.std.proofs.lemmas.List.{get_or_past, get_or-set_same, get_or-set_other, length-set}
use Rattle.std.proofs.lemmas.List.Sums.{get_or-le-sum_by}
use Rattle.index_validation.specs.Lawful.{count_of, mark_of, Marks, CanMark, IsLineMarked}
use Rattle.avl_words.proofs.Frames.{times_self, times_other}
use Rattle.index_validation.proofs.Counts.{count_append, count_cons}

-- a test that tells which
pub by_test : (b : Bool) (F P Q : Type 0) → (IsTrue b ↔ F) → (F → P) → ((F → ⊥) → Q) → MatchBool b P Q
by_test true F P Q says p q = p (says.0 refl)
by_test false F P Q says p q = q (λ f. false≢true (says.1 f))

-- the test whether `x` is below `n` counts 1 where it is
pub in_line : (x n : ℕ) → x < n → ◌≡◌ {A = ℕ} (cond (ltb x n) 1 0) 1
in_line x n l = grind (arith, nat_tests)

-- the test whether `x` is below `n` counts 0 where `x` is `n` or more
pub past_line : (x n : ℕ) → n ≤ x → ◌≡◌ {A = ℕ} (cond (ltb x n) 1 0) 0
past_line x n l = grind (arith, nat_tests)

bit_most : (b : Bool) → cond b 1 0 ≤ 1
bit_most true = omega arith
bit_most false = omega arith

-- a line without a place for a mark has none
pub mark_most : (marks : List Bool) (x : ℕ) → mark_of marks x ≤ cond (ltb x (length marks)) 1 0
mark_most marks x =
    elim (cases_lt x (length marks)) [
      | inl l ↦ omega (arith, in_line x (length marks) l, bit_most (get_or marks x false))
      | inr l ↦ (let none : mark_of marks x ≡ 0 = ap (λ b. cond b 1 0) (get_or_past marks x false l) in omega (arith, none))
    ]

-- one line
one_mark : (old : List Bool) (line x : ℕ) → line < length old → get_or old line false ≡ false → mark_of (set old line true) x ≡ count_of x (line ∷ []) + mark_of old x
one_mark old line x l free =
    elim (cases_eq x line) [
      | inl e ↦
          let now : mark_of (set old line true) line ≡ 1 = ap (λ b. cond b 1 0) (get_or-set_same old line true false l) in
          let before : mark_of old line ≡ 0 = ap (λ b. cond b 1 0) free in
          let here : mark_of (set old line true) line ≡ count_of line (line ∷ []) + mark_of old line = omega (arith, now, before, count_cons line line [], times_self line) in
          subst (λ y. mark_of (set old line true) y ≡ count_of y (line ∷ []) + mark_of old y) (sym e) here
      | inr ne ↦
          let apart : line ≢ x = λ e. ne (sym e) in
          let now : mark_of (set old line true) x ≡ mark_of old x = ap (λ b. cond b 1 0) (get_or-set_other old line x true false ne) in
          omega (arith, now, count_cons x line [], times_other line x apart)
    ]

pub marks_line : (old : List Bool) (line : ℕ) → line < length old → get_or old line false ≡ false → Marks old (line ∷ []) (set old line true)
marks_line old line l free = record { long = length-set old line true; are = λ x. one_mark old line x l free }

pub taken_past : (marks : List Bool) (line : ℕ) → length marks ≤ line → IsLineMarked marks line
taken_past marks line l lines can = omega (arith, can.once line, past_line line (length marks) l)

pub taken_marked : (marks : List Bool) (line : ℕ) → get_or marks line false ≡ true → IsLineMarked marks line
taken_marked marks line is lines can =
    let one : mark_of marks line ≡ 1 = ap (λ b. cond b 1 0) is in
    omega (arith, can.once line, one, bit_most (ltb line (length marks)))

-- several lines
pub marks_none : (marks : List Bool) → Marks marks [] marks
marks_none marks = record { long = refl; are = λ x. omega arith }

-- where some lines are marked from `a` to `b` and the rest from `b` to `c`, all of them are marked from `a` to `c`
pub marks_then : (a b c : List Bool) (front rest : List ℕ) → Marks a front b → Marks b rest c → Marks a (front ++ rest) c
marks_then a b c front rest m n = record { long = n.long ∙ m.long; are = λ x. omega (arith, m.are x, n.are x, count_append x front rest) }

-- what is left to mark
pub can_mark_rest : (a b : List Bool) (front rest : List ℕ) → Marks a front b → CanMark a (front ++ rest) → CanMark b rest
can_mark_rest a b front rest m can = record {
  once = λ x. (let same : ◌≡◌ {A = ℕ} (cond (ltb x (length b)) 1 0) (cond (ltb x (length a)) 1 0) = ap (λ n. cond (ltb x n) 1 0) m.long in omega (arith, can.once x, m.are x, same, count_append x front rest));
}

pub can_mark_front : (a : List Bool) (front rest : List ℕ) → CanMark a (front ++ rest) → CanMark a front
can_mark_front a front rest can = record { once = λ x. omega (arith, can.once x, count_append x front rest) }

-- where the lines `xs` are marked from `a` to `b`, so are those of an equal list `ys`
pub marks_same : (a b : List Bool) (xs ys : List ℕ) → xs ≡ ys → Marks a xs b → Marks a ys b
marks_same a b xs ys e m = subst (λ zs. Marks a zs b) e m

-- marked lines have a place for a mark
there : (x n most : ℕ) → 1 ≤ most → most ≤ cond (ltb x n) 1 0 → x < n
there x n most some l =
    elim (cases_lt x n) [
      | inl h ↦ h
      | inr h ↦ absurd (omega (arith, past_line x n h))
    ]

-- lines that were marked are all below the number of marks
pub marked_there : (old now : List Bool) (lines : List ℕ) → Marks old lines now → All (λ x. x < length old) lines
marked_there old now lines m k d l =
    let x = get_or lines k d in
    let some = get_or-le-sum_by (λ y. cond (eqb y x) 1 0) lines k d l in
    let once : 1 ≤ mark_of now x = omega (arith, m.are x, some, times_self x) in
    subst (λ n. x < n) m.long (there x (length now) (mark_of now x) once (mark_most now x))
