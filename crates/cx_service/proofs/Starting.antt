-- Callers as they are made.
use Rattle.std.proofs.Common.{◌≡◌, ◌<◌, ℕ, List, [], ◌∷◌, ◌++◌, length, get_or, map, replicate, refl, sym, ap, subst, ◌∙◌, inl, inr, arith, All, None}
use Rattle.std.specs.List.{range_with_len}
use Rattle.std.proofs.Math.ListN.{get_or-eq_default}
use Rattle.std.proofs.lemmas.Bool.{cases_lt}
use Rattle.std.proofs.lemmas.List.{get_or-replicate, length-replicate}
use Rattle.std.proofs.lemmas.List.Elements.{All-tail}
use Rattle.std.proofs.lemmas.List.FromFn.{get_or-map-range_with_len, length-map-range_with_len}
use Rattle.std.proofs.lemmas.Option.{none-some}
use Rattle.cx_core.specs.declared.local.Cell.{Cell}
use Rattle.cx_core.specs.State.{blank_cell}
use Rattle.table_invariant.specs.Running.{IsSeatOf, Running}
use Rattle.table_invariant.specs.Seats.{Seated}
use Rattle.cx_table.specs.Remains.{opening_seat}
use Rattle.cx_service.specs.Callers.{IsCallerOf}
use Rattle.cx_service.specs.Starts.{HasNoSets}
use Rattle.cx_service.proofs.Cells.{default}
use Rattle.cx_attempts.specs.Attempts.{IsCounted}
use Rattle.redo_set.specs.Taking.{sets_read}

-- a cell never written has no ticket
blank_ticket : (j : ℕ) → (get_or (replicate 16 blank_cell) j default).ticket ≡ None
blank_ticket j =
    elim (cases_lt j 16) [
      | inl within ↦ ap (λ (x : Cell). x.ticket) (get_or-replicate 16 j blank_cell default within)
      | inr past ↦ ap (λ (x : Cell). x.ticket) (get_or-eq_default (replicate 16 blank_cell) default (omega (arith, length-replicate 16 blank_cell)))
    ]

opened : {O : Type 0} (r : Running O) (limits : List ℕ) (k : ℕ) → IsSeatOf r (opening_seat r limits k) → IsCallerOf r (opening_seat r limits k)
opened r limits k of = record {
  of = of;
  rest = record {
    exclusive = refl;
    shared = refl;
    passer = refl;
    downgraded = refl;
    won = refl;
    protection = refl;
    scan = refl;
    refused = refl;
    fresh = refl;
  };
  count = refl;
  front = omega arith;
  cells = record {
    own = λ j t at. absurd (none-some t (sym (blank_ticket j) ∙ at));
    apart = λ j k t a b. absurd (none-some t (sym (blank_ticket j) ∙ a));
    to = λ i x there. absurd (none-some x there);
  };
}

-- each caller of a new service has no call under way
pub each_opened : {O : Type 0} (r : Running O) (limits : List ℕ) (seats : List Seated) → seats ≡ map (opening_seat r limits) (range_with_len 0 r.callers) → All (IsSeatOf r) seats → All (IsCallerOf r) seats
each_opened r limits seats is of =
    λ k d below. (
    let f = opening_seat r limits in
    let within : k < r.callers = omega (arith, below, ap length is, length-map-range_with_len f 0 r.callers) in
    let at : get_or seats k d ≡ f k = ap (λ (xs : List Seated). get_or xs k d) is ∙ get_or-map-range_with_len f 0 r.callers k k d within (omega arith) in
    subst (IsCallerOf r) (sym at) (opened r limits k (subst (IsSeatOf r) at (of k d below))))

-- none of them has read write sets
pub all_fresh : {O : Type 0} (r : Running O) (limits : List ℕ) (n : ℕ) (seats : List Seated) → seats ≡ map (opening_seat r limits) (range_with_len 0 n) → All HasNoSets seats
all_fresh r limits n seats is =
    λ k d below. (
    let f = opening_seat r limits in
    let within : k < n = omega (arith, below, ap length is, length-map-range_with_len f 0 n) in
    ap (λ (xs : List Seated). (get_or xs k d).known.sets) is ∙ ap (λ (s : Seated). s.known.sets) (get_or-map-range_with_len f 0 n k k d within (omega arith)))

-- a caller that read no sets has counted none
pub fresh_counted : (taken : ℕ) (seat : Seated) → taken ≡ 0 → HasNoSets seat → IsCounted taken seat
unfolding sets_read
fresh_counted taken seat zero none = (let read : sets_read seat.known.sets ≡ 0 = ap sets_read none in omega (arith, zero, read))

-- what holds of each of two lists of seats together holds of each of the second one
pub right_has : (P : Seated → Type 0) (xs ys : List Seated) → All P (xs ++ ys) → All P ys
right_has P [] ys all = all
right_has P (x ∷ xs) ys all = right_has P xs ys (All-tail P x (xs ++ ys) all)

-- what holds of each of one or two seats holds of the first, and of the second
pub first_has : (P : Seated → Type 0) (seats : List Seated) (a : Seated) (more : List Seated) → seats ≡ a ∷ more → All P seats → P a
first_has P seats a more is all = subst (All P) is all 0 a (omega arith)

pub second_has : (P : Seated → Type 0) (seats : List Seated) (a b : Seated) → seats ≡ a ∷ b ∷ [] → All P seats → P b
second_has P seats a b is all = subst (All P) is all 1 b (omega arith)
