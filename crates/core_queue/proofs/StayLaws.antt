-- What no step changes: the cell and the link slot of a live ticket, and its offer and its set once it is offered. A protection keeps a
-- ticket live.
use Rattle.std.proofs.Common.{◌≡◌, ◌≢◌, ◌+◌, ◌*◌, ◌%◌, ◌==◌, ◌<◌, ◌≤◌, inl, inr, ℕ, Bool, cond, List, set, slice_index, refl, ap, sym, subst, ◌∙◌, arith, Some}
use Rattle.std.proofs.lemmas.Bool.{cases_Bool, eqb-true}
use Rattle.std.proofs.lemmas.List.{get_or-set_other, set-get_or}
use Rattle.std.proofs.lemmas.Nat.{mod_below}
use Rattle.std.proofs.lemmas.Option.{same_Some, slice_get_within}
use Rattle.std.specs.List.{slice_get}
use Rattle.cx_base.specs.Codes.{link_code_of}
use Rattle.cx_core.specs.declared.entry.Entry.{Entry}
use Rattle.cx_core.specs.declared.kinds.Event.{Event}
use Rattle.cx_core.specs.declared.kinds.Kind.{Kind}
use Rattle.cx_core.specs.declared.kinds.Kind.TheVariants.{WriteCell, Link, TryExclusive, TryShared, BackOff, Downgrade, ReleaseExclusive, LoadWord, StoreWord, Persist, Publish, Raise, Retire, Protect, Unprotect, CloseLow, OpenFree, WriteSet, Offer, NoteGap}
use Rattle.cx_core.specs.declared.local.Cell.{Cell}
use Rattle.cx_core.specs.declared.local.Local.{Local}
use Rattle.cx_core.specs.Events.{Guard, Makes, words_after}
use Rattle.cx_core.specs.Frames.{IsOff}
use Rattle.cx_core.specs.Layout.{cell_at, cell_count, free_at, link_at, need_at, offer_at, gaps_at, set_at}
use Rattle.cx_core.specs.Lawful.{IsLive, NamesCell}
use Rattle.cx_core.specs.Merge.{IsLinked, scene_of}
use Rattle.cx_core.specs.QueueEvents.{IsIdle, cell_of, seen_word}
use Rattle.cx_core.specs.RootEvents.{before_in}
use Rattle.cx_core.specs.SetEvents.{CanWriteSet}
use Rattle.cx_core.specs.State.{Instance, State}
use Rattle.core_queue.specs.Live.{CellStays, IsLiveIn, KeepsTicket, named_cell}
use Rattle.core_queue.specs.NotedSets.{IsOfferedAt, SetStays}
use Rattle.core_queue.specs.Queue.{QueueLawful}
use Rattle.core_queue.proofs.CellLaws.{cell_within}
use Rattle.core_queue.proofs.CellLinks.{Taken, idle_not_taken, one_cell, slot_free}
use Rattle.core_queue.proofs.Keeps.{link_wins}
use Rattle.core_queue.proofs.LiveCells.{held_cell, protects_parts}
use Rattle.core_queue.proofs.QueueFrames.{off_lock}
use Rattle.core_queue.proofs.SetKinds.{unoffered_parts}
use Rattle.core_queue.proofs.Shapes.{cell_there}

-- FREE is at most each confirmed protection
pub kept_live : (instance : Instance) (s : State) (history : List Entry) (caller ticket : ℕ) (entry : Entry) → QueueLawful instance history s.words s.locals → KeepsTicket s caller ticket →
    IsLinked instance.base.place history ticket entry → IsLiveIn instance s history ticket entry
kept_live instance s history caller ticket entry law keeps linked =
    let parts = protects_parts ticket keeps.local.protection keeps.protects in
    let open_ = (law.ring.each caller keeps.local keeps.of_caller).kept parts.0 parts.1 in
    record { linked = linked; live = omega (arith, open_, parts.2) }

-- the words of a ticket: its link slot, the entry in the cell that the slot names, and where that is offered with the ticket, its
-- offer word and its set
pub data IsWordOf (instance : Instance) (s : State) (ticket : ℕ) (at : ℕ) : Type 0 where
  In_slot : at ≡ link_at instance.callers (ticket % cell_count instance.callers) → IsWordOf instance s ticket at
  In_cell : (i : ℕ) → i < 145 → at ≡ cell_at instance.callers (named_cell instance s ticket) i → IsWordOf instance s ticket at
  In_offer : IsOfferedAt instance s ticket → at ≡ offer_at instance.callers (named_cell instance s ticket) → IsWordOf instance s ticket at
  In_set : IsOfferedAt instance s ticket → (i : ℕ) → i < 513 → at ≡ set_at instance.callers (named_cell instance s ticket) i → IsWordOf instance s ticket at

module _ (instance : Instance) (s : State) (history : List Entry) (law : QueueLawful instance history s.words s.locals) (ticket : ℕ) (entry : Entry)
    (linked : IsLinked instance.base.place history ticket entry) (live : slice_index s.words free_at ≤ ticket) where
  abbrev Stay : List ℕ → Type 0
  Stay words' = (a : ℕ) → IsWordOf instance s ticket a → slice_index words' a ≡ slice_index s.words a

  -- the cell of the ticket, which holds its entry
  held : IsLive instance history s.words s.locals ticket entry
  held = law.cells.live ticket entry linked live

  cell_small : named_cell instance s ticket < 16 * instance.callers
  cell_small = let cell = held_cell instance s history law ticket entry linked held in omega (arith, cell.0, cell.1)

  slot_small : ticket % cell_count instance.callers < cell_count instance.callers
  slot_small = mod_below ticket (cell_count instance.callers) (omega (arith, law.shape.some))

  -- the words of a ticket lie from the first link word on and before the ring of gaps
  between : (a : ℕ) → IsWordOf instance s ticket a → (link_at instance.callers 0 ≤ a) × (a < gaps_at instance.callers)
  between a (In_slot e) = (let slot = slot_small in (omega (arith, e), omega (arith, e, slot)))
  between a (In_cell i below e) = (let cell = cell_small in (omega (arith, e), omega (arith, e, cell, below)))
  between a (In_offer offered e) = (let cell = cell_small in (omega (arith, e), omega (arith, e, cell)))
  between a (In_set offered i below e) = (let cell = cell_small in (omega (arith, e), omega (arith, e, cell, below)))

  -- a step on another word
  stay_other : (at v : ℕ) → ((a : ℕ) → IsWordOf instance s ticket a → a ≢ at) → Stay (set s.words at v)
  stay_other at v apart a word = get_or-set_other s.words at a v 0 (apart a word)

  -- a step on no word of links, cells, offers and sets
  stay_off : (at v : ℕ) → IsOff (link_at instance.callers 0) (gaps_at instance.callers) at → Stay (set s.words at v)
  stay_off at v off = stay_other at v (λ a word same. (let within = between a word in elim off [ inl x ↦ omega (arith, x, within.0, same) | inr x ↦ omega (arith, x, within.1, same) ]))

  -- a load
  stay_loaded : (at : ℕ) → Stay (set s.words at (slice_index s.words at))
  stay_loaded at = subst Stay (sym (set-get_or s.words at 0)) (λ _ _. refl)

  module _ (caller : ℕ) (l : Local) (at : slice_get s.locals caller ≡ Some l) where
    -- a caller's cell, by its number among all
    own_number : (j : ℕ) → j < 16 → (16 * l.number + j ≡ 16 * caller + j) × (16 * caller + j < 16 * instance.callers)
    own_number j small =
        let shape = law.shape.each caller l at in
        (ap (λ n. 16 * n + j) shape.number, cell_within instance s.words s.locals caller l j _ law.shape at (cell_there caller l j shape small))

    -- an idle cell is not the ticket's
    apart_idle : (j : ℕ) → j < 16 → IsIdle l j → named_cell instance s ticket ≢ 16 * caller + j
    apart_idle j small idle same =
        let cell = held_cell instance s history law ticket entry linked held in
        let taken : Taken s.locals ticket (16 * entry.caller + held.j) = record { d = entry.caller; j = held.j; cell = held.cell; names = held.names; is = refl {a = 16 * entry.caller + held.j} } in
        idle_not_taken instance s.words s.locals caller l j (slice_index s.words free_at) ticket law.shape at small idle (law.fronts.each caller l at).free live
        (subst (Taken s.locals ticket) (sym cell.0 ∙ same) taken)

    -- a cell that may be offered is not the ticket's where that is offered
    apart_unoffered : IsOfferedAt instance s ticket → (j : ℕ) → CanWriteSet l j → named_cell instance s ticket ≢ 16 * caller + j
    apart_unoffered offered j can same =
        let cell = held_cell instance s history law ticket entry linked held in
        let un = unoffered_parts l.own (cell_of l j).ticket (cell_of l j).offer can.1 in
        let mine : NamesCell s.locals caller j un.t (cell_of l j) = record { local = l; of_caller = at; at = cell_there caller l j (law.shape.each caller l at) can.0; named = un.is } in
        let is : held.cell ≡ cell_of l j = one_cell instance s.words s.locals ticket un.t entry.caller caller held.j j held.cell (cell_of l j) law.shape held.names mine (sym cell.0 ∙ same) in
        let named : un.t ≡ ticket = same_Some un.t ticket (sym un.is ∙ ap (λ (x : Cell). x.ticket) (sym is) ∙ held.names.named) in
        let shown = law.cells.shown entry.caller held.names.local held.names.of_caller held.j held.cell held.names.at in
        let offer : held.cell.offer ≡ ticket + 1 = sym shown.offer ∙ ap (λ n. slice_index s.words (offer_at instance.callers n)) (sym cell.0) ∙ offered in
        un.ne (ap (λ (x : Cell). x.offer) (sym is) ∙ offer ∙ ap (λ n. n + 1) (sym named))

    -- a word written into an idle cell
    stay_written : (j i v : ℕ) → Guard instance (scene_of instance s) (WriteCell j i v) l → Stay (set s.words (cell_at instance.callers (16 * l.number + j) i) v)
    stay_written j i v guard =
        let number = own_number j guard.0 in
        subst (λ k. Stay (set s.words (cell_at instance.callers k i) v)) (sym number.0) (stay_other (cell_at instance.callers (16 * caller + j) i) v (apart (16 * caller + j) guard.1 number.1 (apart_idle j guard.0 guard.2)))
      where
        apart : (k : ℕ) → i < 145 → k < 16 * instance.callers → named_cell instance s ticket ≢ k → (a : ℕ) → IsWordOf instance s ticket a → a ≢ cell_at instance.callers k i
        apart k below within ne a (In_slot e) = (let slot = slot_small in λ same. omega (arith, e, slot, same))
        apart k below within ne a (In_cell m small e) = λ same. ne (omega (arith, e, same, small, below))
        apart k below within ne a (In_offer offered e) = λ same. omega (arith, e, same, below, within)
        apart k below within ne a (In_set offered m small e) = λ same. omega (arith, e, same, below, within)

    -- a word of the set of a cell that is not offered
    stay_set : (j i v : ℕ) → CanWriteSet l j → i < 513 → Stay (set s.words (set_at instance.callers (16 * l.number + j) i) v)
    stay_set j i v can below =
        let number = own_number j can.0 in
        subst (λ k. Stay (set s.words (set_at instance.callers k i) v)) (sym number.0) (stay_other (set_at instance.callers (16 * caller + j) i) v (apart (16 * caller + j) (λ offered. apart_unoffered offered j can)))
      where
        apart : (k : ℕ) → (IsOfferedAt instance s ticket → named_cell instance s ticket ≢ k) → (a : ℕ) → IsWordOf instance s ticket a → a ≢ set_at instance.callers k i
        apart k ne a (In_slot e) = (let slot = slot_small in λ same. omega (arith, e, slot, same))
        apart k ne a (In_cell m small e) = (let cell = cell_small in λ same. omega (arith, e, same, small, cell))
        apart k ne a (In_offer offered e) = (let cell = cell_small in λ same. omega (arith, e, same, cell))
        apart k ne a (In_set offered m small e) = λ same. ne offered (omega (arith, e, same, small, below))

    -- the offer word of a cell that is not offered
    stay_offer : (j v : ℕ) → CanWriteSet l j → Stay (set s.words (offer_at instance.callers (16 * l.number + j)) v)
    stay_offer j v can =
        let number = own_number j can.0 in
        subst (λ k. Stay (set s.words (offer_at instance.callers k) v)) (sym number.0) (stay_other (offer_at instance.callers (16 * caller + j)) v (apart (16 * caller + j) number.1 (λ offered. apart_unoffered offered j can)))
      where
        apart : (k : ℕ) → k < 16 * instance.callers → (IsOfferedAt instance s ticket → named_cell instance s ticket ≢ k) → (a : ℕ) → IsWordOf instance s ticket a → a ≢ offer_at instance.callers k
        apart k within ne a (In_slot e) = (let slot = slot_small in λ same. omega (arith, e, slot, same))
        apart k within ne a (In_cell m small e) = (let cell = cell_small in λ same. omega (arith, e, same, small, cell))
        apart k within ne a (In_offer offered e) = λ same. ne offered (omega (arith, e, same))
        apart k within ne a (In_set offered m small e) = λ same. omega (arith, e, same, within)

    -- a link, which if it wins is in a slot that no live ticket has
    stay_linked : (j : ℕ) → Guard instance (scene_of instance s) (Link j) l → Stay (words_after instance (Link j) l s.words)
    stay_linked j guard =
        let q = cell_count instance.callers in
        let some = law.shape.some in
        let place = link_at instance.callers (l.front % q) in
        let found = slice_index s.words place in
        let code = link_code_of instance.callers l.front (16 * l.number + j) in
        let small : l.front % q < q = mod_below l.front q (omega arith) in
        let P : Bool → Type 0 = λ b. Stay (set s.words place (cond b code found)) in
        elim (cases_Bool (found == seen_word l.seen_slot)) [
          | inl e ↦ subst P (sym e) (
              let wins = link_wins instance history s.words s.locals law caller l at j guard (eqb-true found (seen_word l.seen_slot) e) in
              stay_other place code (apart (l.front % q) small (slot_free instance history s.words s.locals caller l j ticket entry wins linked live)))
          | inr e ↦ subst P (sym e) (stay_loaded place)
        ]
      where
        apart : (slot : ℕ) → slot < cell_count instance.callers → ticket % cell_count instance.callers ≢ slot → (a : ℕ) → IsWordOf instance s ticket a → a ≢ link_at instance.callers slot
        apart slot small ne a (In_slot e) = λ same. ne (omega (arith, e, same))
        apart slot small ne a (In_cell m below e) = λ same. omega (arith, e, same, small)
        apart slot small ne a (In_offer offered e) = λ same. omega (arith, e, same, small)
        apart slot small ne a (In_set offered m below e) = λ same. omega (arith, e, same, small)

    -- the caller's own need is in front of the links
    need_off : IsOff (link_at instance.callers 0) (gaps_at instance.callers) (need_at l.number)
    need_off =
        let some = law.shape.some in
        let within = slice_get_within s.locals caller l at in
        inl (omega (arith, within, law.shape.count, (law.shape.each caller l at).number))

    -- an allowed step of any kind
    pub stay_kind : (kind : Kind) → Guard instance (scene_of instance s) kind l → Stay (words_after instance kind l s.words)
    stay_kind (WriteCell j i v) guard = stay_written j i v guard
    stay_kind (Link j) guard = stay_linked j guard
    stay_kind (TryExclusive r) guard = stay_off _ _ (off_lock instance r guard.0).1
    stay_kind (TryShared r) guard = stay_off _ _ (off_lock instance r guard.0).1
    stay_kind (BackOff r) guard = stay_off _ _ (off_lock instance r guard.0).1
    stay_kind (Downgrade r) guard = stay_off _ _ (off_lock instance r guard.0.0).1
    stay_kind (ReleaseExclusive r) guard = stay_off _ _ (off_lock instance r guard.0.0).1
    stay_kind (LoadWord r i refused) guard = stay_off _ _ (inr (omega arith))
    stay_kind (StoreWord r i v) guard = stay_off _ _ (inr (omega arith))
    stay_kind (Persist r i) guard = stay_off _ _ (inr (omega arith))
    stay_kind Publish guard = stay_off _ _ (inl (omega arith))
    stay_kind (Raise code read) guard = stay_off _ _ (inl (omega arith))
    stay_kind Retire guard =
        let small = mod_below (before_in l.won) (2 * instance.callers) (omega (arith, law.shape.some)) in
        stay_off _ _ (off_lock instance _ small).1
    stay_kind (Protect p) guard = stay_off _ _ need_off
    stay_kind Unprotect guard = stay_off _ _ need_off
    stay_kind (CloseLow target) guard = stay_off _ _ (inl (omega arith))
    stay_kind OpenFree guard = stay_off _ _ (inl (omega arith))
    stay_kind (WriteSet j i v) guard = stay_set j i v guard.0 guard.1
    stay_kind (Offer j) guard = stay_offer j _ guard.0
    stay_kind (NoteGap s i v) guard = stay_off _ _ (inr (omega arith))
    stay_kind kind guard = stay_loaded _

-- an event
pub kept_stays : (instance : Instance) (history : List Entry) (before after : State) (event : Event) (caller ticket : ℕ) (entry : Entry) → QueueLawful instance history before.words before.locals →
    KeepsTicket before caller ticket → IsLinked instance.base.place history ticket entry → Makes instance event before after → CellStays instance before after ticket
kept_stays instance history before after event caller ticket entry law keeps linked m =
    let live = (kept_live instance before history caller ticket entry law keeps linked).live in
    let stay = stay_kind instance before history law ticket entry linked live event.caller m.local m.of_caller event.kind m.guard in
    subst (λ ws. CellStays instance before (record { words = ws; locals = after.locals }) ticket) (sym m.words) (record {
      link = stay _ (In_slot refl);
      words = λ i below. stay _ (In_cell i below refl);
    })

pub offered_stay : (instance : Instance) (history : List Entry) (before after : State) (event : Event) (ticket : ℕ) (entry : Entry) → QueueLawful instance history before.words before.locals →
    IsLiveIn instance before history ticket entry → IsOfferedAt instance before ticket → Makes instance event before after → SetStays instance before after ticket
offered_stay instance history before after event ticket entry law live offered m =
    let stay = stay_kind instance before history law ticket entry live.linked live.live event.caller m.local m.of_caller event.kind m.guard in
    subst (λ ws. SetStays instance before (record { words = ws; locals = after.locals }) ticket) (sym m.words) (record {
      link = stay _ (In_slot refl);
      offer = stay _ (In_offer offered refl);
      set = λ i below. stay _ (In_set offered i below refl);
    })
