-- A caller whose cells hold tickets of its own entries.
use Rattle.std.proofs.Common.{◌≡◌, ◌≢◌, ◌+◌, ◌<◌, ◌≤◌, ℕ, List, [], ◌∷◌, ◌++◌, length, map, refl, sym, ap, ◌∙◌, inl, inr, arith, Option, Some, None}
use Rattle.std.specs.List.{slice_get}
use Rattle.std.specs.Option.{option_map}
use Rattle.std.proofs.lemmas.Bool.{cases_eq, cases_lt}
use Rattle.std.proofs.lemmas.Option.{same_Some, slice_get-map, slice_get_cases, slice_get_within}
use Rattle.cx_base.specs.Codes.{root_place_of}
use Rattle.cx_core.specs.declared.local.Answer.{Answer}
use Rattle.cx_core.specs.declared.local.Cell.{Cell}
use Rattle.cx_core.specs.declared.local.Linked.{Linked}
use Rattle.cx_core.specs.declared.local.Local.{Local}
use Rattle.cx_core.specs.QueueEvents.{cell_of}
use Rattle.cx_core.specs.State.{Instance}
use Rattle.cx_core.proofs.ListLemmas.{slice_get-append_left, slice_get-take}
use Rattle.cx_core.proofs.Locals.{slice_get-last, slice_get-push}
use Rattle.core_queue.proofs.Pigeonhole.{pigeonhole}
use Rattle.table_invariant.specs.Rule.{IsLawfulLocal}
use Rattle.mutation_queue.specs.Cells.{IsInUse, IsInUseAt}
use Rattle.cx_service.specs.Callers.{HasOwnCells}

-- what stands for a cell past the last
abbrev pub default : Cell
default = record { words = []; ticket = None; set = []; offer = 0 }

-- a caller's cells stay those of its own entries in a local state `m` with the entries of `l`, no further ticket in a cell, and a front as high
pub own_kept : (l m : Local) → HasOwnCells l → m.own ≡ l.own → l.front ≤ m.front → ((j t : ℕ) → (cell_of m j).ticket ≡ Some t → (cell_of l j).ticket ≡ Some t) → HasOwnCells m
own_kept l m cells own front tickets = record {
  own = λ j t at. (let h = cells.own j t (tickets j t at) in (h.0, h.1, ap (λ (xs : List Linked). slice_get xs h.0) own ∙ h.2, h.3));
  apart = λ j k t a b. cells.apart j k t (tickets j t a) (tickets k t b);
  to = λ i x there. (let below = cells.to i x (ap (λ (xs : List Linked). slice_get xs i) (sym own) ∙ there) in omega (arith, below, front));
}

-- a caller's cells stay those of its own entries in a local state `m` with one entry more than `l`, which is in the cell `c`
pub own_more : (l m : Local) (y : Linked) (c : ℕ) → HasOwnCells l → m.own ≡ l.own ++ y ∷ [] → l.front ≤ y.ticket → m.front ≡ y.ticket + 1 →
    ((j t : ℕ) → j ≢ c → (cell_of m j).ticket ≡ Some t → (cell_of l j).ticket ≡ Some t) → (cell_of m c).ticket ≡ Some y.ticket → HasOwnCells m
own_more l m y c cells own from front others here = record { own = has; apart = apart; to = to }
  where
    has : (j t : ℕ) → (cell_of m j).ticket ≡ Some t → (i : ℕ) × (x : Linked) × (slice_get m.own i ≡ Some x) × (x.ticket ≡ t)
    has j t at =
        elim (cases_eq j c) [
          | inl e ↦ (length l.own, y, ap (λ (xs : List Linked). slice_get xs (length l.own)) own ∙ slice_get-last l.own y, same_Some y.ticket t (sym here ∙ ap (λ i. (cell_of m i).ticket) (sym e) ∙ at))
          | inr ne ↦ (let h = cells.own j t (others j t ne at) in (h.0, h.1, ap (λ (xs : List Linked). slice_get xs h.0) own ∙ slice_get-append_left l.own (y ∷ []) h.0 h.1 h.2, h.3))
        ]

    -- no other cell has the new ticket
    not_new : (k t : ℕ) → t ≡ y.ticket → (cell_of l k).ticket ≡ Some t → ⊥
    not_new k t is at = (let h = cells.own k t at in let below = cells.to h.0 h.1 h.2 in let same = h.3 in omega (arith, below, same, is, from))

    -- a ticket `t` of the cell `j` is that of the new entry `y`, where `j` is the cell `c` that was put
    new_at : (j t : ℕ) → j ≡ c → (cell_of m j).ticket ≡ Some t → t ≡ y.ticket
    new_at j t e at = same_Some t y.ticket (sym at ∙ ap (λ i. (cell_of m i).ticket) e ∙ here)

    -- cells `j` and `k` with the same ticket `t` are one cell, also where that is the ticket of the new entry
    apart : (j k t : ℕ) → (cell_of m j).ticket ≡ Some t → (cell_of m k).ticket ≡ Some t → j ≡ k
    apart j k t a b =
        elim (cases_eq j c) [
          | inl e ↦ elim (cases_eq k c) [ inl f ↦ e ∙ sym f | inr ne ↦ absurd (not_new k t (new_at j t e a) (others k t ne b)) ]
          | inr ne ↦ elim (cases_eq k c) [ inl f ↦ absurd (not_new j t (new_at k t f b) (others j t ne a)) | inr nf ↦ cells.apart j k t (others j t ne a) (others k t nf b) ]
        ]

    to : (i : ℕ) (x : Linked) → slice_get m.own i ≡ Some x → x.ticket < m.front
    to i x there =
        elim (slice_get-push l.own y i x (ap (λ (xs : List Linked). slice_get xs i) (sym own) ∙ there)) [
          | inl a ↦ (let below = cells.to i x a in omega (arith, below, from, front))
          | inr b ↦ (let e = ap (λ (z : Linked). z.ticket) b.1 in omega (arith, e, front))
        ]

-- a cell in use has a ticket at or above the greatest FREE found
pub used_ticket : (l : Local) (j : ℕ) → IsInUse l j → (t : ℕ) × ((cell_of l j).ticket ≡ Some t) × (l.seen_free ≤ t)
used_ticket l j used = at (cell_of l j).ticket used
  where
    at : (o : Option ℕ) → IsInUseAt l.seen_free o → (t : ℕ) × (o ≡ Some t) × (l.seen_free ≤ t)
    at None none = absurd none
    at (Some t) from = (t, refl, from)

-- where 16 cells hold tickets there are at least 16 entries
pub many_own : (l : Local) → HasOwnCells l → ((j : ℕ) → j < 16 → (t : ℕ) × ((cell_of l j).ticket ≡ Some t)) → 16 ≤ length l.own
many_own l cells all =
    elim (cases_lt (length l.own) 16) [
      | inl few ↦ absurd (pigeonhole (length l.own) Has (λ j le. some j (all j (omega (arith, le, few)))) apart)
      | inr many ↦ many
    ]
  where
    -- the cell has the ticket of the entry
    Has : ℕ → ℕ → Type 0
    Has j i = (x : Linked) × (slice_get l.own i ≡ Some x) × ((cell_of l j).ticket ≡ Some x.ticket)

    some : (j : ℕ) → (t : ℕ) × ((cell_of l j).ticket ≡ Some t) → (i : ℕ) × Has j i × (i < length l.own)
    some j t = (let h = cells.own j t.0 t.1 in (h.0, (h.1, h.2, t.1 ∙ ap (λ u. Some u) (sym h.3)), slice_get_within l.own h.0 h.1 h.2))

    -- cells `j` and `k` with the ticket of one own entry, the one at `i`, are one cell
    apart : (j k i : ℕ) → j ≤ length l.own → k ≤ length l.own → Has j i → Has k i → j ≡ k
    apart j k i a b p q = cells.apart j k p.0.ticket p.2 (q.2 ∙ ap (λ (x : Linked). Some x.ticket) (same_Some q.0 p.0 (sym q.1 ∙ p.1)))

-- the entries of a caller that are all answered are below the place of the code last loaded from CUR
pub answered_below : (instance : Instance) (l : Local) → IsLawfulLocal instance l → length l.own ≡ length l.answered → (i : ℕ) (x : Linked) → slice_get l.own i ≡ Some x → x.ticket < root_place_of instance.callers l.seen_cur
answered_below instance l law count i x at =
    let within = slice_get_within l.own i x at in
    elim (slice_get_cases l.answered i).1 [
      | inl a ↦ (
          let y = a.0 in
          let answered : slice_get (map (λ (z : Answer). z.ticket) l.answered) i ≡ Some y.ticket = slice_get-map (λ (z : Answer). z.ticket) l.answered i ∙ ap (option_map (λ (z : Answer). z.ticket)) a.2 in
          let own : slice_get (map (λ (z : Linked). z.ticket) l.own) i ≡ Some x.ticket = slice_get-map (λ (z : Linked). z.ticket) l.own i ∙ ap (option_map (λ (z : Linked). z.ticket)) at in
          let taken = slice_get-take (length l.answered) (map (λ (z : Linked). z.ticket) l.own) i y.ticket (ap (λ (ts : List ℕ). slice_get ts i) (sym law.tickets.answered) ∙ answered) in
          let same = same_Some y.ticket x.ticket (sym taken ∙ own) in
          let below = law.answered i y a.2 in
          omega (arith, same, below, law.floor_cur))
      | inr past ↦ absurd (omega (arith, within, count, past.0))
    ]
