-- No step is taken back by reading an entry.
use Rattle.std.proofs.Common.{◌≡◌, ◌≤◌, ℕ, zero, suc, length, min, List, ap, arith}
use Rattle.cx_core.specs.Layout.{max_word}
use Rattle.cx_core.specs.State.{one_more}
use Rattle.table_invariant.specs.Seats.{Seated, StepsOn}
use Rattle.mutation_queue.specs.Entries.{ReadsEntry, steps_after}

steps_since : (n steps : ℕ) → min steps max_word ≤ steps_after n steps
steps_since zero steps = omega arith
steps_since (suc n) steps = (let was = steps_since n steps in omega (arith, was))

-- an entry is read by a look and a step for each word
pub on_entry : (caller ticket : ℕ) (words : List ℕ) (s t : Seated) → ReadsEntry caller ticket words s t → StepsOn s t
on_entry caller ticket words s t read =
    let is : t.known.local.steps ≡ steps_after (length words) (one_more s.known.local.steps) = ap (λ (x : Seated). x.known.local.steps) read.seat in
    omega (arith, is, steps_since (length words) (one_more s.known.local.steps))
