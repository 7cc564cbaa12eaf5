-- The seat of a caller as it is cut from the first seat.
use Rattle.std.proofs.Common.{◌≡◌, ◌+◌, ◌*◌, ◌^◌, ◌<◌, ◌≤◌, ℕ, zero, suc, true, false, List, [], ◌∷◌, get_or, replicate, slice_index, refl, sym, ap, ◌∙◌, subst, arith, None, Some}
use Rattle.std.specs.List.{slice_get}
use Rattle.std.proofs.lemmas.List.{get_or-replicate, length-replicate}
use Rattle.std.proofs.lemmas.Option.{none-some, slice_get_within, get_or_from_slice_get}
use Rattle.atomic_table.specs.Table.{Me}
use Rattle.core_queue.proofs.Opening.{blank_shape}
use Rattle.cx_core.specs.declared.local.Cell.{Cell}
use Rattle.cx_core.specs.declared.local.Local.{Local}
use Rattle.cx_core.specs.Lawful.{CellShape}
use Rattle.cx_core.specs.State.{blank_cell, opening_local}
use Rattle.table_invariant.specs.declared.rule.Known.{Known}
use Rattle.caller_cache.specs.declared.summary.CachedLocal.{CachedLocal}
use Rattle.caller_cache.specs.Copies.{Copied, HasRows, IsCopied, blank_copy}
use Rattle.caller_cache.specs.Summaries.{HasSummary, OwnCells, summary_of}
use Rattle.table_invariant.specs.Seats.{HasCells, IsWithinLimit, known_of, opening_known}
use Rattle.table_invariant.proofs.Moves.{one_caller}
use Rattle.caller_cache.proofs.Rows.{row_before}

-- a caller that made no step has its cells
blank_cells : (callers place number limit : ℕ) → HasCells (record (opening_local callers place number) { limit = limit })
blank_cells callers place number limit = record {
  count = length-replicate 16 blank_cell;
  each = λ j cell at. (
      let within = slice_get_within (replicate 16 blank_cell) j cell at in
      let is : blank_cell ≡ cell = sym (get_or-replicate 16 j blank_cell blank_cell (omega (arith, length-replicate 16 blank_cell))) ∙ get_or_from_slice_get (replicate 16 blank_cell) j cell blank_cell at in
      subst CellShape is blank_shape);
}

abbrev no_cell : Cell
no_cell = record { words = []; ticket = None; set = []; offer = 0 }

-- no cell has a ticket
no_own : (l : Local) → l.cells ≡ replicate 16 blank_cell → OwnCells l
no_own l is j ticket small at =
    absurd (none-some ticket (sym (ap (λ (c : Cell). c.ticket) (ap (λ (cs : List Cell). get_or cs j no_cell) is ∙ get_or-replicate 16 j blank_cell no_cell small)) ∙ at))

-- a caller's seat as it is cut from the first seat
pub opening_summarised : (me : Me ℕ (List Known)) (summary : CachedLocal) (before callers place number : ℕ) (limits : List ℕ) → me ≡ (opening_known callers place limits number ∷ [], []) →
    summary ≡ summary_of (opening_known callers place limits number).local → place ≤ 2 ^ 40 → before ≤ place → HasSummary me summary before
opening_summarised me summary before callers place number limits is m most small =
    let one = one_caller me (opening_known callers place limits number) is in
    let linked : summary.linked ≡ 0 = ap (λ (x : CachedLocal). x.linked) m in
    record {
      one = one.0;
      is = m ∙ ap (λ (k : Known). summary_of k.local) (sym one.1);
      linked = omega (arith, linked, small, ap (λ (x : CachedLocal). x.front) m);
      front = omega (arith, ap (λ (x : CachedLocal). x.front) m);
      few = omega arith;
      small = omega (arith, small, most);
      place = λ h is. absurd (none-some h (sym (ap (λ (k : Known). k.local.downgraded) one.1) ∙ is));
      cells = subst HasCells (ap (λ (k : Known). k.local) (sym one.1)) (blank_cells callers place number (slice_index limits number));
      own = subst OwnCells (ap (λ (k : Known). k.local) (sym one.1)) (no_own (record (opening_local callers place number) { limit = slice_index limits number }) refl);
      within = subst (λ (k : Known). IsWithinLimit k.local) (sym one.1) (λ few. omega arith);
    }

-- no word was written
blank_rows : (n : ℕ) (row : Cell → List ℕ) (l : Local) → l.cells ≡ replicate 16 blank_cell → row blank_cell ≡ replicate n 0 → HasRows n row l (replicate (n * 16) 0)
blank_rows n row l is blank = record {
  long = length-replicate {A = ℕ} (n * 16) 0;
  each = λ j i small below.
      get_or-replicate (n * 16) (n * j + i) 0 0 (let gap = row_before n j 16 small in omega (arith, gap, below))
      ∙ sym (get_or-replicate n i 0 0 below)
      ∙ ap (λ ws. get_or ws i 0) (sym blank)
      ∙ ap (λ (c : Cell). get_or (row c) i 0) (sym (ap (λ (cs : List Cell). get_or cs j no_cell) is ∙ get_or-replicate 16 j blank_cell no_cell small));
}

-- the copy that an opening seat keeps in plain memory is one of what its caller knows
pub opening_copied : (me : Me ℕ (List Known)) (copy : Copied) (callers place number region : ℕ) (limits : List ℕ) → me ≡ (opening_known callers place limits number ∷ [], []) → copy ≡ blank_copy region → IsCopied (known_of me.0) copy
opening_copied me copy callers place number region limits is blank =
    let one = one_caller me (opening_known callers place limits number) is in
    subst (λ (k : Known). IsCopied k copy) (sym one.1) (subst (IsCopied (opening_known callers place limits number)) (sym blank) (record {
      long = length-replicate region false ∙ sym (length-replicate region 0);
      place = refl;
      marks = λ i below. (λ marked. absurd (unmarked region i marked), λ there. (let none : there.0 < 0 = there.1 in absurd (omega arith)));
      words = λ i below there. (let none : there.0 < 0 = there.1 in absurd (omega arith));
      cells = blank_rows 145 (λ (c : Cell). c.words) (opening_known callers place limits number).local refl refl;
      sets = blank_rows 513 (λ (c : Cell). c.set) (opening_known callers place limits number).local refl refl;
      kept = λ x there. absurd (none-some x there);
    }))
  where
    unmarked : (n i : ℕ) → slice_get (replicate n false) i ≡ Some true → ⊥
    unmarked zero i at = none-some true at
    unmarked (suc n) zero at = cc
    unmarked (suc n) (suc i) at = unmarked n i at
