-- What announcing an operation leaves of a caller that halts in it.
use Rattle.std.proofs.Common.{◌≡◌, ◌+◌, ◌<◌, ◌≤◌, ℕ, Bool, List, [], ◌∷◌, length, drop, ap, inl, inr, arith, Result, Ok, Err, IfOk}
use Rattle.std.proofs.lemmas.Bool.{cases_eq, eq-eqb, ne_eqb}
use Rattle.std.proofs.Common.{cond}
use Rattle.cx_core.specs.QueueEvents.{cell_of, next_number}
use Rattle.table_invariant.specs.Running.{Running}
use Rattle.table_invariant.specs.Seats.{Seated}
use Rattle.mutation_queue.specs.Cells.{HaltsIn, differing, writes}
use Rattle.cx_service.specs.Callers.{IsCallerOf, unlinked}
use Rattle.cx_service.specs.Submits.{IsWriting, SubmitHalted}
use Rattle.cx_service.proofs.Entering.{unchanged_by_submit, halts, stale}

-- two lists differ at no more places than there are
some_differ : (xs ys : List ℕ) → differing xs ys ≤ length ys
unfolding differing
some_differ [] ys = omega arith
some_differ (x ∷ xs) [] = omega arith
some_differ (x ∷ xs) (y ∷ ys) =
    let count = λ (b : Bool). (let n : ℕ = cond b 0 1 in n) in
    let rest = some_differ xs ys in
    elim (cases_eq x y) [
      | inl e ↦ (let same = ap count (eq-eqb x y e) in omega (arith, same, rest))
      | inr ne ↦ (let other = ap count (ne_eqb x y ne) in omega (arith, other, rest))
    ]

-- a caller that halts in writing its entry into the cell `j` has halted in its submit with nothing linked, and the entry is still to be written there
pub halted_in : {O : Type 0} (r : Running O) (j most : ℕ) (op : List ℕ) (s t : Seated) → IsCallerOf r (stale s) → j < 16 → 145 ≤ most → length op ≡ 144 → HaltsIn j (next_number r.base s.known.local ∷ op) s t → SubmitHalted r most (stale s) (unlinked t) × IsWriting r op 0 (stale s) t
halted_in r j most op s t caller room many long halted =
    let limit = ap (λ (x : Seated). x.known.local.limit) halted.rest in
    let few = some_differ (drop 1 (cell_of s.known.local j).words) op in
    let cur = ap (λ (x : Seated). x.known.local.seen_cur) halted.rest in
    let front = ap (λ (x : Seated). x.known.local.front) halted.rest in (
      halts r (stale s) t (ap unchanged_by_submit halted.rest) most caller (ap (λ (x : Seated). x.known.local.own) halted.rest) (ap (λ (x : Seated). x.known.times.linked) halted.rest) (omega (arith, front)) (omega (arith, cur))
          (omega (arith, limit, few, halted.limit.0, halted.short, many, long))
          (λ k within idle. record { free = ap (λ (x : Seated). x.known.local.seen_free) halted.rest; scans = ap (λ (x : Seated). x.known.local.scans) halted.rest })
          halted.limit (let since = halted.since in omega (arith, since)),
      record { cell = j; within = room; idle = halted.idle; short = (let short : s.known.local.limit < (stale s).known.local.steps + writes (stale s).known.local j (next_number r.base (stale s).known.local ∷ op) = halted.short in omega (arith, limit, short)); others = halted.others },
    )

-- what holds in two ways of a value holds in both
pub both_ok : {A E : Type 0} (r : Result A E) (P Q : A → Type 0) → IfOk r P → IfOk r Q → IfOk r (λ a. P a × Q a)
both_ok (Ok a) P Q p q = (p, q)
both_ok (Err e) P Q p q = tt
