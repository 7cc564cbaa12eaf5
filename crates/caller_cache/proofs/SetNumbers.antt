-- The numbers that code reads follow the steps of write sets.
use Rattle.std.proofs.Common.{◌≡◌, ℕ, zero, suc, List, [], ◌∷◌, get_or, map, set, slice_index, slice_index_or, refl, ap, sym, ◌∙◌, Option, None}
use Rattle.std.proofs.lemmas.List.{map-set}
use Rattle.cx_core.specs.declared.kinds.Kind.TheVariants.{Offer, WriteSet}
use Rattle.cx_core.specs.declared.local.Cell.{Cell}
use Rattle.cx_core.specs.declared.local.Local.{Local}
use Rattle.cx_core.specs.QueueEvents.{cell_of}
use Rattle.cx_core.specs.SetEvents.{offer_of}
use Rattle.cx_core.specs.State.{Instance, one_more}
use Rattle.table_invariant.specs.Seats.{shown_next}
use Rattle.caller_cache.specs.declared.summary.CachedLocal.{CachedLocal}
use Rattle.caller_cache.specs.Summaries.{summary_of}

abbrev no_cell : Cell
no_cell = record { words = []; ticket = None; set = []; offer = 0 }

-- a part of each cell stays where a cell is put that has it as before
pub part_kept : {A : Type 0} (part : Cell → A) (cells : List Cell) (j : ℕ) (f : Cell → Cell) → ((c : Cell) → part (f c) ≡ part c) → map part (set cells j (f (get_or cells j no_cell))) ≡ map part cells
part_kept part [] j f same = refl
part_kept part (c ∷ cells) zero f same = ap (λ x. x ∷ map part cells) (same c)
part_kept part (c ∷ cells) (suc j) f same = ap (λ xs. part c ∷ xs) (part_kept part cells j f same)

-- a part of a cell, looked up among those of all
pub part_at : {A : Type 0} (part : Cell → A) (cells : List Cell) (j : ℕ) → slice_index_or (map part cells) j (part no_cell) ≡ part (get_or cells j no_cell)
part_at part [] j = refl
part_at part (c ∷ cells) zero = refl
part_at part (c ∷ cells) (suc j) = part_at part cells j

abbrev ticket_in : Cell → Option ℕ
ticket_in c = c.ticket

abbrev offer_in : Cell → ℕ
offer_in c = c.offer

-- the numbers after a word of a set was written
pub summary_set : (instance : Instance) (l : Local) (m : CachedLocal) (j i v found : ℕ) → m ≡ summary_of l → (let after : CachedLocal = record m { steps = one_more m.steps } in after) ≡ summary_of (shown_next instance (WriteSet j i v) l found)
summary_set instance l m j i v found is =
    let put : Cell → Cell = λ x. record x { set = set x.set i v } in
    let tickets = part_kept ticket_in l.cells j put (λ x. refl) in
    let offers = part_kept offer_in l.cells j put (λ x. refl) in
    ap (λ (x : CachedLocal). record x { steps = one_more x.steps }) is
    ∙ (λ k. record (summary_of (shown_next instance (WriteSet j i v) l found)) { tickets = sym tickets k; offers = sym offers k })

-- the numbers after the set in cell j was offered
abbrev pub after_offer : ℕ → ℕ → CachedLocal → CachedLocal
after_offer j word m = record m { offers = set m.offers j word; steps = one_more m.steps }

-- after the set in the cell `j` was offered with `word`, the numbers that code reads are those of the local state after the step
pub summary_offered : (instance : Instance) (l : Local) (m : CachedLocal) (j word found : ℕ) → m ≡ summary_of l → word ≡ offer_of (slice_index_or m.tickets j None) (slice_index m.offers j) → after_offer j word m ≡ summary_of (shown_next instance (Offer j) l found)
summary_offered instance l m j word found is word_is =
    let put : Cell → Cell = λ x. record x { offer = offer_of x.ticket x.offer } in
    let tickets = part_kept ticket_in l.cells j put (λ x. refl) in
    let at : slice_index_or m.tickets j None ≡ (cell_of l j).ticket = ap (λ (x : CachedLocal). slice_index_or x.tickets j None) is ∙ part_at ticket_in l.cells j in
    let was : slice_index m.offers j ≡ (cell_of l j).offer = ap (λ (x : CachedLocal). slice_index x.offers j) is ∙ part_at offer_in l.cells j in
    let now : word ≡ offer_of (cell_of l j).ticket (cell_of l j).offer = word_is ∙ ap (λ t. offer_of t (slice_index m.offers j)) at ∙ ap (offer_of (cell_of l j).ticket) was in
    let offers : set (summary_of l).offers j word ≡ (summary_of (shown_next instance (Offer j) l found)).offers =
    ap (set (summary_of l).offers j) now ∙ sym (map-set offer_in l.cells j (record (cell_of l j) { offer = offer_of (cell_of l j).ticket (cell_of l j).offer })) in
    ap (after_offer j word) is
    ∙ (λ k. record (summary_of (shown_next instance (Offer j) l found)) { tickets = sym tickets k; offers = offers k })
