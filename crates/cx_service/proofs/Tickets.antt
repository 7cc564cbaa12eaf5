-- The tickets of a caller's cells, put in order.
use Rattle.std.proofs.Common.{◌≡◌, ◌<◌, ◌≤◌, ℕ, List, All, length, slice_index, ap, ◌∙◌, arith, Some}
use Rattle.std.specs.List.Sorted.{IsNonDecreasing, IsPermutation}
use Rattle.std.proofs.lemmas.List.{get_or_default}
use Rattle.std.proofs.lemmas.List.Elements.{Contains-get_or}
use Rattle.std.proofs.lemmas.List.Sorted.{All-permutation, Contains-permutation}
use Rattle.cx_core.specs.declared.local.Local.{Local}
use Rattle.cx_core.specs.QueueEvents.{cell_of}
use Rattle.cx_service.specs.Submits.{AreTickets}

-- the tickets of 16 cells, in rising order
pub sorted_are : (l : Local) (xs ys : List ℕ) → length xs ≡ 16 → ((k : ℕ) → k < 16 → (cell_of l k).ticket ≡ Some (slice_index xs k)) → IsPermutation xs ys → length ys ≡ length xs → IsNonDecreasing ys → AreTickets l ys
sorted_are l xs ys long held moved same rises = record {
  each = each;
  least = record { each = least; here = each 0 (omega arith) };
}
  where
    IsHeld : ℕ → Type 0
    IsHeld t = (j : ℕ) × (j < 16) × ((cell_of l j).ticket ≡ Some t)

    all_held : All IsHeld ys
    all_held = All-permutation IsHeld xs ys moved (λ k d below. (
        let within : k < 16 = omega (arith, below, long) in
        (k, within, held k within ∙ ap (λ t. Some t) (get_or_default xs k 0 d below))))

    each : (i : ℕ) → i < 16 → IsHeld (slice_index ys i)
    each i within = all_held i 0 (omega (arith, within, long, same))

    least : (j : ℕ) → j < 16 → (t : ℕ) × ((cell_of l j).ticket ≡ Some t) × (slice_index ys 0 ≤ t)
    least j within =
        let t = slice_index xs j in
        let at = Contains-permutation xs ys t moved (Contains-get_or xs j 0 (omega (arith, within, long))) in
        let low = rises 0 at.0 t (omega arith) at.1 in
        let first = get_or_default ys 0 t 0 (omega (arith, within, long, same)) in
        let is = at.2 in
        (t, held j within, omega (arith, low, first, is))
