-- How often a line stands in a list.
use Rattle.std.proofs.Common.{◌≡◌, ◌+◌, ℕ, cond, eqb, List, ◌∷◌, ◌++◌}
use Rattle.std.proofs.lemmas.List.Sums.{sum_by-append, sum_by-cons}
use Rattle.index_validation.specs.Lawful.{count_of}

pub count_append : (line : ℕ) (xs ys : List ℕ) → count_of line (xs ++ ys) ≡ count_of line xs + count_of line ys
count_append line xs ys = sum_by-append (λ x. cond (eqb x line) 1 0) xs ys

pub count_cons : (line x : ℕ) (xs : List ℕ) → count_of line (x ∷ xs) ≡ cond (eqb x line) 1 0 + count_of line xs
count_cons line x xs = sum_by-cons (λ x. cond (eqb x line) 1 0) x xs
