-- Marks that are made line after line.
use Rattle.std.proofs.Common.{◌<◌, ◌≢◌, ◌+◌, ◌↔◌, ℕ, Bool, IsTrue, List, length, set, arith, below_more, get_or-set_other, get_or-set_same}
use Rattle.line_lanes.specs.Lines.{MarksBelow}

pub marks_more : (P : ℕ → Type 0) (marks : List Bool) (n : ℕ) (mark : Bool) → n < length marks → MarksBelow P marks n → (IsTrue mark ↔ P n) → MarksBelow P (set marks n mark) (n + 1)
marks_more P marks n mark within before here =
    below_more _ _ (λ k below. let other : k ≢ n = omega arith in rw get_or-set_other (before k below)) (rw get_or-set_same here)
