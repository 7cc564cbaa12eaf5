-- The part on cells: its frames.
use Rattle.std.proofs.Common.{◌≡◌, ◌≢◌, ◌+◌, ◌*◌, ◌%◌, ◌<◌, ◌≤◌, ◌⊎◌, inl, inr, ℕ, List, set, slice_index, refl, sym, subst, ◌∙◌, arith, Some}
use Rattle.std.proofs.lemmas.List.{get_or-set_other}
use Rattle.std.proofs.lemmas.Nat.{mod_below}
use Rattle.std.proofs.lemmas.Option.{slice_get_within}
use Rattle.std.specs.List.{slice_get}
use Rattle.cx_base.specs.Codes.{link_ticket_of}
use Rattle.cx_core.specs.declared.entry.Entry.{Entry}
use Rattle.cx_core.specs.declared.local.Cell.{Cell}
use Rattle.cx_core.specs.declared.local.Local.{Local}
use Rattle.cx_core.specs.declared.local.SeenSlot.{SeenSlot}
use Rattle.cx_core.specs.Layout.{cell_count, free_at, link_at, cell_at, offer_at, set_at}
use Rattle.cx_core.specs.Lawful.{Cells, IsLive, IsShown, OfferStands, OffersLinked, SeenStands, Shape, ShowsCells, SlotStands}
use Rattle.cx_core.specs.State.{Instance}
use Rattle.cx_core.specs.WriteSet.{IsWriteSetOf}
use Rattle.cx_core.specs.Frames.{IsOff}
use Rattle.core_queue.specs.Frames.{SameCells}
use Rattle.core_queue.proofs.CellNames.{KeepsNames, names_same, offered_still}
use Rattle.cx_core.proofs.Locals.{EachLocal-set}

-- the cells of a caller are in the table
pub cell_within : (instance : Instance) (words : List ℕ) (locals : List Local) (caller : ℕ) (l : Local) (j : ℕ) (cell : Cell) → Shape instance words locals →
    slice_get locals caller ≡ Some l → slice_get l.cells j ≡ Some cell → 16 * caller + j < 16 * instance.callers
cell_within instance words locals caller l j cell shape at there =
    let a = slice_get_within locals caller l at in
    let b = slice_get_within l.cells j cell there in
    omega (arith, a, b, shape.count, (shape.each caller l at).cells)

-- a step on a word of no cell leaves the cells shown
pub shown_off : (callers : ℕ) (words : List ℕ) (at v k : ℕ) (cell : Cell) → k < 16 * callers → IsOff (cell_at callers 0 0) (4 + 10563 * callers) at →
    IsShown callers words k cell → IsShown callers (set words at v) k cell
shown_off callers words at v k cell within off shown = record {
  entry = λ i below. (
      let apart : cell_at callers k i ≢ at = elim off [ inl a ↦ omega arith | inr b ↦ omega arith ] in
      get_or-set_other words at (cell_at callers k i) v 0 apart ∙ shown.entry i below);
  pairs = λ i below. (
      let apart : set_at callers k i ≢ at = elim off [ inl a ↦ omega arith | inr b ↦ omega arith ] in
      get_or-set_other words at (set_at callers k i) v 0 apart ∙ shown.pairs i below);
  offer = (
      let apart : offer_at callers k ≢ at = elim off [ inl a ↦ omega arith | inr b ↦ omega arith ] in
      get_or-set_other words at (offer_at callers k) v 0 apart ∙ shown.offer);
}

-- a held ticket is held still where its cell is named still, and its link word and the write sets are as before
pub held_still : (instance : Instance) (history history' : List Entry) (words words' : List ℕ) (locals locals' : List Local) (free ticket : ℕ) (entry : Entry) →
    KeepsNames free locals locals' → free ≤ ticket →
    slice_index words' (link_at instance.callers (ticket % cell_count instance.callers)) ≡ slice_index words (link_at instance.callers (ticket % cell_count instance.callers)) →
    ((sets : List ℕ) → IsWriteSetOf instance history ticket sets → IsWriteSetOf instance history' ticket sets) →
    IsLive instance history words locals ticket entry → IsLive instance history' words' locals' ticket entry
held_still instance history history' words words' locals locals' free ticket entry keeps live same sets held = record {
  j = held.j;
  cell = held.cell;
  names = keeps entry.caller held.j ticket held.cell held.names live;
  link = same ∙ held.link;
  holds = held.holds;
  offered = λ offer. sets held.cell.set (held.offered offer);
}

-- where a caller's cells are as before, and what it saw of slots and of offers stands
pub cells_seen : (instance : Instance) (history : List Entry) (words : List ℕ) (locals : List Local) (caller : ℕ) (l l' : Local) → Cells instance history words locals →
    slice_get locals caller ≡ Some l → l'.cells ≡ l.cells → SlotStands instance words l' → OfferStands words locals l' →
    Cells instance history words (set locals caller l')
cells_seen instance history words locals caller l l' cells at same stands offer =
    let free = slice_index words free_at in
    let keeps = names_same free locals caller l l' at same in
    record {
      live = λ ticket entry linked live. held_still instance history history words words locals (set locals caller l') free ticket entry keeps live refl (λ _ s. s) (cells.live ticket entry linked live);
      shown = EachLocal-set locals caller l l' (ShowsCells instance words) at cells.shown
          (λ j cell there. cells.shown caller l at j cell (subst (λ cs. slice_get cs j ≡ Some cell) same there));
      seen = EachLocal-set locals caller l l' (λ _ x. SlotStands instance words x) at cells.seen stands;
      seen_offers = (
          let kept : (x : Local) → OfferStands words locals x → OfferStands words (set locals caller l') x = λ x old seen is live word.
          offered_still free locals (set locals caller l') seen.cell seen.ticket keeps live (old seen is live word) in
          EachLocal-set locals caller l l' (λ _ x. OfferStands words (set locals caller l') x) at (λ c x there. kept x (cells.seen_offers c x there)) (kept l' offer));
      offers = EachLocal-set locals caller l l' (λ _ x. OffersLinked instance history x) at cells.offers
          (λ j cell there some. cells.offers caller l at j cell (subst (λ cs. slice_get cs j ≡ Some cell) same there) some);
    }

-- where a caller's cells and what it saw of offers are as before, and what it saw of slots stands
pub cells_local : (instance : Instance) (history : List Entry) (words : List ℕ) (locals : List Local) (caller : ℕ) (l l' : Local) → Cells instance history words locals →
    slice_get locals caller ≡ Some l → l'.cells ≡ l.cells → l'.seen_offer ≡ l.seen_offer → SlotStands instance words l' →
    Cells instance history words (set locals caller l')
cells_local instance history words locals caller l l' cells at same offer stands =
    cells_seen instance history words locals caller l l' cells at same stands (λ seen is live word. cells.seen_offers caller l at seen (sym offer ∙ is) live word)

-- what was seen of a slot stands still where the slot's word is as before and FREE did not fall
pub slot_still : (instance : Instance) (words words' : List ℕ) (seen : SeenSlot) →
    slice_index words' (link_at instance.callers seen.slot) ≡ slice_index words (link_at instance.callers seen.slot) → slice_index words free_at ≤ slice_index words' free_at →
    SeenStands instance words seen → SeenStands instance words' seen
slot_still instance words words' seen same up old = record {
  slot = old.slot;
  later = λ some. subst (λ w. (w ≡ seen.word) ⊎ ((0 < w) × (link_ticket_of instance.callers seen.word < link_ticket_of instance.callers w))) (sym same) (old.later some);
  stands = λ some live. same ∙ old.stands some (omega arith);
}

-- the part on cells stays where a word outside the links and the cells is put, and FREE does not fall
pub cells_words : (instance : Instance) (history : List Entry) (words : List ℕ) (locals : List Local) (at v : ℕ) → Cells instance history words locals → Shape instance words locals →
    slice_index words free_at ≤ slice_index (set words at v) free_at → IsOff (link_at instance.callers 0) (4 + 10563 * instance.callers) at → Cells instance history (set words at v) locals
cells_words instance history words locals at v cells shape up off =
    let some = shape.some in
    let words' = set words at v in
    let link : (slot : ℕ) → slot < cell_count instance.callers → slice_index words' (link_at instance.callers slot) ≡ slice_index words (link_at instance.callers slot) = λ slot below. (
    let apart : link_at instance.callers slot ≢ at = elim off [ inl a ↦ omega arith | inr b ↦ omega arith ] in
    get_or-set_other words at (link_at instance.callers slot) v 0 apart) in
    let off_cells : IsOff (cell_at instance.callers 0 0) (4 + 10563 * instance.callers) at = elim off [ inl a ↦ inl (omega arith) | inr b ↦ inr b ] in
    record {
      live = λ ticket entry linked live. (
          let before : slice_index words free_at ≤ ticket = omega arith in
          let slot : ticket % cell_count instance.callers < cell_count instance.callers = mod_below ticket (cell_count instance.callers) (omega arith) in
          held_still instance history history words words' locals locals (slice_index words free_at) ticket entry (λ _ _ _ _ names _. names) before (link _ slot) (λ _ s. s)
          (cells.live ticket entry linked before));
      shown = λ c x there j cell at_j. shown_off instance.callers words at v (16 * c + j) cell (cell_within instance words locals c x j cell shape there at_j) off_cells (cells.shown c x there j cell at_j);
      seen = λ c x there seen is. (let old = cells.seen c x there seen is in slot_still instance words words' seen (link seen.slot old.slot) up old);
      seen_offers = λ c x there seen is live word. cells.seen_offers c x there seen is (omega arith) word;
      offers = cells.offers;
    }

-- a step on no word of links and cells, where FREE did not fall
pub cells_up : (instance : Instance) (history : List Entry) (words : List ℕ) (locals : List Local) (at v caller : ℕ) (l l' : Local) →
    Cells instance history words locals → Shape instance words locals → slice_get locals caller ≡ Some l → slice_index words free_at ≤ slice_index (set words at v) free_at →
    IsOff (link_at instance.callers 0) (4 + 10563 * instance.callers) at → SameCells l l' → Cells instance history (set words at v) (set locals caller l')
cells_up instance history words locals at v caller l l' cells shape there up off same =
    let after = cells_words instance history words locals at v cells shape up off in
    cells_local instance history (set words at v) locals caller l l' after there same.cells same.seen_offer
    (λ seen is. after.seen caller l there seen (sym same.seen_slot ∙ is))

-- the framing law: cells name FREE, the links, the cells, offers and sets, and of a local state the fields of SameCells
pub cells_framed : (instance : Instance) (history : List Entry) (words : List ℕ) (locals : List Local) (at v caller : ℕ) (l l' : Local) →
    Cells instance history words locals → Shape instance words locals → slice_get locals caller ≡ Some l →
    at ≢ free_at → IsOff (link_at instance.callers 0) (4 + 10563 * instance.callers) at → SameCells l l' →
    Cells instance history (set words at v) (set locals caller l')
cells_framed instance history words locals at v caller l l' cells shape there not_free off same =
    let free : slice_index (set words at v) free_at ≡ slice_index words free_at = get_or-set_other words at 3 v 0 (λ e. not_free (sym e)) in
    cells_up instance history words locals at v caller l l' cells shape there (omega arith) off same
