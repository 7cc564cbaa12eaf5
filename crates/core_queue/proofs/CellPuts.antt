-- The part on cells, where a caller puts one of its idle cells: it writes a word of it, or links its entry.
use Rattle.std.proofs.Common.{◌≡◌, ◌≢◌, ◌+◌, ◌*◌, ◌%◌, ◌<◌, ◌≤◌, ◌⊎◌, inl, inr, ℕ, List, length, set, slice_index, refl, ap, sym, subst, ◌∙◌, arith, Some, None}
use Rattle.std.proofs.lemmas.Bool.{cases_eq}
use Rattle.std.proofs.lemmas.List.{get_or-set_other, get_or-set_same}
use Rattle.std.proofs.lemmas.Nat.{mod_below}
use Rattle.std.proofs.lemmas.Option.{slice_get_within}
use Rattle.std.specs.List.{slice_get}
use Rattle.cx_core.specs.declared.entry.Entry.{Entry}
use Rattle.cx_core.specs.declared.local.Cell.{Cell}
use Rattle.cx_core.specs.declared.local.Local.{Local}
use Rattle.cx_core.specs.declared.local.SeenSlot.{SeenSlot}
use Rattle.cx_core.specs.QueueEvents.{IsIdle, IsIdleAt, cell_of, written}
use Rattle.cx_core.specs.Layout.{cell_count, free_at, link_at, cell_at, offer_at, set_at}
use Rattle.cx_core.specs.Lawful.{Cells, IsLive, IsShown, OfferStands, OffersLinked, SeenStands, Shape, ShowsCells, SlotStands}
use Rattle.cx_core.specs.Merge.{IsLinked}
use Rattle.cx_core.specs.State.{EachLocal, Instance}
use Rattle.core_queue.proofs.CellLaws.{cell_within, held_still, slot_still}
use Rattle.core_queue.proofs.CellNames.{KeepsNames, names_put, offered_still}
use Rattle.cx_core.proofs.Locals.{EachLocal-set, item_after}
use Rattle.core_queue.proofs.Shapes.{cell_there}

-- what a put cell is: an idle cell of a caller, put with the same offer word, and nothing else that cells name changed
pub record Puts (instance : Instance) (words words' : List ℕ) (locals : List Local) (caller : ℕ) (l l' : Local) (k : ℕ) (old new : Cell) : Type 0 where
  pub at : slice_get locals caller ≡ Some l
  pub there : slice_get l.cells k ≡ Some old
  pub idle : IsIdleAt l.seen_free old.ticket
  pub behind : l.seen_free ≤ slice_index words free_at
  pub put : l'.cells ≡ set l.cells k new
  pub offer : new.offer ≡ old.offer
  pub seen_slot : l'.seen_slot ≡ l.seen_slot
  pub seen_offer : l'.seen_offer ≡ l.seen_offer
  pub free : slice_index words' free_at ≡ slice_index words free_at

-- where a caller puts its idle cell `k`, each cell that a live ticket is named for is named for it still, with the same words
pub keeps_put : (instance : Instance) (words words' : List ℕ) (locals : List Local) (caller : ℕ) (l l' : Local) (k : ℕ) (old new : Cell) →
    Puts instance words words' locals caller l l' k old new → KeepsNames (slice_index words free_at) locals (set locals caller l')
keeps_put instance words words' locals caller l l' k old new p =
    names_put l.seen_free (slice_index words free_at) locals caller l l' k old new p.at p.there p.idle p.behind p.put

-- the cells shown, where the put cell is shown and each other is still
pub shown_put : (instance : Instance) (words words' : List ℕ) (locals : List Local) (caller : ℕ) (l l' : Local) (k : ℕ) (old new : Cell) →
    slice_get locals caller ≡ Some l → slice_get l.cells k ≡ Some old → l'.cells ≡ set l.cells k new → Shape instance words locals → EachLocal locals (ShowsCells instance words) →
    ((m : ℕ) (cell : Cell) → m ≢ 16 * caller + k → m < 16 * instance.callers → IsShown instance.callers words m cell → IsShown instance.callers words' m cell) →
    IsShown instance.callers words' (16 * caller + k) new → EachLocal (set locals caller l') (ShowsCells instance words')
shown_put instance words words' locals caller l l' k old new mine there put shape shown still here d x there_d j cell there_j =
    let k_within = slice_get_within l.cells k old there in
    let k_small : k < 16 = omega (arith, k_within, (shape.each caller l mine).cells) in
    let other : (e : ℕ) (y : Local) → slice_get locals e ≡ Some y → slice_get y.cells j ≡ Some cell → (e ≢ caller) ⊎ (j ≢ k) → IsShown instance.callers words' (16 * e + j) cell =
    λ e y at_e at_j apart. (
    let j_within = slice_get_within y.cells j cell at_j in
    let j_small : j < 16 = omega (arith, j_within, (shape.each e y at_e).cells) in
    let ne : 16 * e + j ≢ 16 * caller + k = λ same. elim apart [ inl a ↦ a (omega arith) | inr b ↦ b (omega arith) ] in
    still (16 * e + j) cell ne (cell_within instance words locals e y j cell shape at_e at_j) (shown e y at_e j cell at_j)) in
    elim (item_after locals caller d l' x (slice_get_within locals caller l mine) there_d) [
      | inl e ↦ (
          let here_j : slice_get (set l.cells k new) j ≡ Some cell = subst (λ cs. slice_get cs j ≡ Some cell) (ap (λ (y : Local). y.cells) (sym e.1) ∙ put) there_j in
          subst (λ n. IsShown instance.callers words' (16 * n + j) cell) (sym e.0) (
          elim (item_after l.cells k j new cell k_within here_j) [
            | inl f ↦ subst (λ m. IsShown instance.callers words' (16 * caller + m) cell) (sym f.0) (subst (IsShown instance.callers words' (16 * caller + k)) f.1 here)
            | inr f ↦ other caller l mine f.1 (inr f.0)
          ]))
      | inr ne ↦ other d x ne.1 there_j (inl ne.0)
    ]

-- the offers, which are as before
offers_put : (instance : Instance) (history history' : List Entry) (words words' : List ℕ) (locals : List Local) (caller : ℕ) (l l' : Local) (k : ℕ) (old new : Cell) →
    Puts instance words words' locals caller l l' k old new → EachLocal locals (λ _ x. OffersLinked instance history x) →
    ((ticket : ℕ) (entry : Entry) → IsLinked instance.base.place history ticket entry → IsLinked instance.base.place history' ticket entry) →
    EachLocal (set locals caller l') (λ _ x. OffersLinked instance history' x)
offers_put instance history history' words words' locals caller l l' k old new p offers more =
    let kept : EachLocal locals (λ _ x. OffersLinked instance history' x) = λ c x there j cell at some. (
    let o = offers c x there j cell at some in
    (o.0, o.1, more o.0 o.1 o.2, o.3)) in
    EachLocal-set locals caller l l' (λ _ x. OffersLinked instance history' x) p.at kept
    (λ j cell at some. elim (item_after l.cells k j new cell (slice_get_within l.cells k old p.there) (subst (λ cs. slice_get cs j ≡ Some cell) p.put at)) [
      | inl e ↦ (
          let same : cell.offer ≡ old.offer = ap (λ (y : Cell). y.offer) (sym e.1) ∙ p.offer in
          let some_old : 0 < old.offer = subst (λ n. 0 < n) same some in
          let o = kept caller l p.at k old p.there some_old in
          (o.0, o.1, o.2, same ∙ o.3))
      | inr e ↦ kept caller l p.at j cell e.1 some
    ])

-- the part on cells after a cell was put, given what it says of live tickets, of cells shown and of slots seen
pub cells_put : (instance : Instance) (history history' : List Entry) (words words' : List ℕ) (locals : List Local) (caller : ℕ) (l l' : Local) (k : ℕ) (old new : Cell) →
    Puts instance words words' locals caller l l' k old new → Shape instance words locals → Cells instance history words locals →
    ((ticket : ℕ) (entry : Entry) → IsLinked instance.base.place history ticket entry → IsLinked instance.base.place history' ticket entry) →
    ((ticket : ℕ) (entry : Entry) → IsLinked instance.base.place history' ticket entry → slice_index words free_at ≤ ticket → IsLive instance history' words' (set locals caller l') ticket entry) →
    ((m : ℕ) (cell : Cell) → m ≢ 16 * caller + k → m < 16 * instance.callers → IsShown instance.callers words m cell → IsShown instance.callers words' m cell) →
    IsShown instance.callers words' (16 * caller + k) new →
    ((seen : SeenSlot) → SeenStands instance words seen → SeenStands instance words' seen) →
    Cells instance history' words' (set locals caller l')
cells_put instance history history' words words' locals caller l l' k old new p shape cells more held still here stands =
    let keeps = keeps_put instance words words' locals caller l l' k old new p in
    record {
      live = λ ticket entry linked live. held ticket entry linked (subst (λ f. f ≤ ticket) p.free live);
      shown = shown_put instance words words' locals caller l l' k old new p.at p.there p.put shape cells.shown still here;
      seen = (
          let kept : EachLocal locals (λ _ x. SlotStands instance words' x) = λ c x there seen is. stands seen (cells.seen c x there seen is) in
          EachLocal-set locals caller l l' (λ _ x. SlotStands instance words' x) p.at kept (λ seen is. kept caller l p.at seen (sym p.seen_slot ∙ is)));
      seen_offers = (
          let kept : EachLocal locals (λ _ x. OfferStands words' (set locals caller l') x) = λ c x there seen is live word. (
          let before : slice_index words free_at ≤ seen.ticket = subst (λ f. f ≤ seen.ticket) p.free live in
          offered_still (slice_index words free_at) locals (set locals caller l') seen.cell seen.ticket keeps before (cells.seen_offers c x there seen is before word)) in
          EachLocal-set locals caller l l' (λ _ x. OfferStands words' (set locals caller l') x) p.at kept
          (λ seen is live word. kept caller l p.at seen (sym p.seen_offer ∙ is) live word));
      offers = offers_put instance history history' words words' locals caller l l' k old new p cells.offers more;
    }

-- a word on no word of the cell
pub shown_beside : (callers : ℕ) (words : List ℕ) (at v m : ℕ) (cell : Cell) → ((i : ℕ) → i < 145 → cell_at callers m i ≢ at) → ((i : ℕ) → i < 513 → set_at callers m i ≢ at) → offer_at callers m ≢ at →
    IsShown callers words m cell → IsShown callers (set words at v) m cell
shown_beside callers words at v m cell off_cell off_set off_offer shown = record {
  entry = λ i below. get_or-set_other words at (cell_at callers m i) v 0 (off_cell i below) ∙ shown.entry i below;
  pairs = λ i below. get_or-set_other words at (set_at callers m i) v 0 (off_set i below) ∙ shown.pairs i below;
  offer = get_or-set_other words at (offer_at callers m) v 0 off_offer ∙ shown.offer;
}

-- a row of words, where one word of it was put
pub row_put : (words row : List ℕ) (from i v n : ℕ) → from + i < length words → i < length row → slice_index words (from + n) ≡ slice_index row n →
    slice_index (set words (from + i) v) (from + n) ≡ slice_index (set row i v) n
row_put words row from i v n inside here same = elim (cases_eq n i) [
  | inl e ↦ subst (λ m. slice_index (set words (from + i) v) (from + m) ≡ slice_index (set row i v) m) (sym e) (get_or-set_same words (from + i) v 0 inside ∙ sym (get_or-set_same row i v 0 here))
  | inr ne ↦ get_or-set_other words (from + i) (from + n) v 0 (λ e. ne (omega (arith, e))) ∙ same ∙ sym (get_or-set_other row i n v 0 ne)
]

-- a word of the cell itself
shown_written : (callers : ℕ) (words : List ℕ) (k i v : ℕ) (old : Cell) → k < 16 * callers → i < 145 → 4 + 10563 * callers ≤ length words → length old.words ≡ 145 →
    IsShown callers words k old → IsShown callers (set words (cell_at callers k i) v) k (record old { words = set old.words i v; ticket = None })
shown_written callers words k i v old k_within i_within long words_long shown = record {
  entry = λ n below. row_put words old.words (4 + 19 * callers + 145 * k) i v n (omega arith) (omega arith) (shown.entry n below);
  pairs = λ n below. get_or-set_other words (cell_at callers k i) (set_at callers k n) v 0 (omega arith) ∙ shown.pairs n below;
  offer = get_or-set_other words (cell_at callers k i) (offer_at callers k) v 0 (omega arith) ∙ shown.offer;
}

-- a word written into an idle cell
pub cells_written : (instance : Instance) (history : List Entry) (words : List ℕ) (locals : List Local) (caller : ℕ) (l l' : Local) (j i v : ℕ) →
    Shape instance words locals → Cells instance history words locals → slice_get locals caller ≡ Some l → j < 16 → i < 145 → IsIdle l j →
    l.seen_free ≤ slice_index words free_at → l'.cells ≡ written l j i v → l'.seen_slot ≡ l.seen_slot → l'.seen_offer ≡ l.seen_offer →
    Cells instance history (set words (cell_at instance.callers (16 * caller + j) i) v) (set locals caller l')
cells_written instance history words locals caller l l' j i v shape cells at j_small i_small idle behind put seen_slot seen_offer =
    let old = cell_of l j in
    let there = cell_there caller l j (shape.each caller l at) j_small in
    let k = 16 * caller + j in
    let place = cell_at instance.callers k i in
    let words' = set words place v in
    let k_within : k < 16 * instance.callers = cell_within instance words locals caller l j old shape at there in
    let long : 4 + 10563 * instance.callers ≤ length words = omega (arith, shape.long) in
    let free_apart : 3 ≢ place = omega arith in
    let p : Puts instance words words' locals caller l l' j old (record old { words = set old.words i v; ticket = None }) = record {
      at = at;
      there = there;
      idle = idle;
      behind = behind;
      put = put;
      offer = refl;
      seen_slot = seen_slot;
      seen_offer = seen_offer;
      free = get_or-set_other words place 3 v 0 free_apart;
    } in
    let keeps = keeps_put instance words words' locals caller l l' j old _ p in
    let some = shape.some in
    let link : (slot : ℕ) → slot < cell_count instance.callers → slice_index words' (link_at instance.callers slot) ≡ slice_index words (link_at instance.callers slot) = λ slot below. (
    let apart : link_at instance.callers slot ≢ place = omega arith in
    get_or-set_other words place (link_at instance.callers slot) v 0 apart) in
    cells_put instance history history words words' locals caller l l' j old _ p shape cells (λ _ _ x. x)
    (λ ticket entry linked live. (
    let slot : ticket % cell_count instance.callers < cell_count instance.callers = mod_below ticket (cell_count instance.callers) (omega arith) in
    held_still instance history history words words' locals (set locals caller l') (slice_index words free_at) ticket entry keeps live (link _ slot) (λ _ s. s) (cells.live ticket entry linked live)))
    (λ m cell ne within shown. shown_beside instance.callers words place v m cell (λ n below same. ne (omega arith)) (λ n below. omega arith) (omega arith) shown)
    (shown_written instance.callers words k i v old k_within i_small long ((shape.each caller l at).each j old there).words (cells.shown caller l at j old there))
    (λ seen old_seen. (let free = p.free in slot_still instance words words' seen (link seen.slot old_seen.slot) (omega arith) old_seen))
