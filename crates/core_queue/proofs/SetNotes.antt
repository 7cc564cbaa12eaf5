-- What was read of a set under a protection stays true, since no step changes the offer and the set of a live ticket that is offered. So
-- what was read whole is a write set of its ticket.
use Rattle.std.proofs.Common.{◌≡◌, ◌≢◌, ◌+◌, ◌-◌, ◌*◌, ◌<◌, ◌≤◌, inl, inr, ℕ, zero, suc, List, [], ◌∷◌, ◌++◌, Option, length, max, set, slice_index, refl, ap, sym, subst, ◌∙◌, arith, Some, None}
use Rattle.std.proofs.lemmas.Bool.{cases_eq}
use Rattle.std.proofs.lemmas.List.{get_or-set_other, get_or-set_same, set-get_or}
use Rattle.std.proofs.lemmas.Option.{none-some, same_Some, slice_get_within}
use Rattle.std.specs.List.{slice_get}
use Rattle.cx_base.specs.Codes.{link_cell_of}
use Rattle.cx_core.specs.declared.entry.Entry.{Entry}
use Rattle.cx_core.specs.declared.kinds.Event.{Event}
use Rattle.cx_core.specs.declared.kinds.Kind.{Kind}
use Rattle.cx_core.specs.declared.kinds.Kind.TheVariants.{LoadFree, OpenFree, ReadSet}
use Rattle.cx_core.specs.declared.local.Cell.{Cell}
use Rattle.cx_core.specs.declared.local.Local.{Local}
use Rattle.cx_core.specs.declared.local.SeenOffer.{SeenOffer}
use Rattle.cx_core.specs.Events.{Guard, Makes, words_after}
use Rattle.cx_core.specs.History.{full_image}
use Rattle.cx_core.specs.Layout.{free_at, offer_at, set_at}
use Rattle.cx_core.specs.Merge.{scene_of}
use Rattle.cx_core.specs.RingEvents.{bound_in}
use Rattle.cx_core.specs.SetEvents.{ShowsOffer}
use Rattle.cx_core.specs.State.{Instance, State}
use Rattle.cx_core.specs.WriteSet.{IsWriteSet, IsWriteSetOf, stored}
use Rattle.cx_core.proofs.HistoryLemmas.{full_stays}
use Rattle.cx_core.proofs.ListLemmas.{slice_get-append, slice_get-append_left}
use Rattle.core_queue.specs.declared.notes.SetNoted.{SetNoted}
use Rattle.core_queue.specs.Live.{named_cell}
use Rattle.core_queue.specs.NotedSets.{HasSetWord, IsNotedSet, IsOfferedAt, SetNotesHold, StandsNoted}
use Rattle.core_queue.specs.Queue.{QueueLawful}
use Rattle.core_queue.proofs.CellLinks.{one_cell}
use Rattle.core_queue.proofs.LiveCells.{ShownLive, held_cell, shown_live}
use Rattle.core_queue.proofs.StayLaws.{offered_stay}

-- what is stored depends on the words of the pairs alone
stored_same : (n : ℕ) (one two region : List ℕ) → ((i : ℕ) → 0 < i → i < 2 * n + 1 → slice_index two i ≡ slice_index one i) → stored n two region ≡ stored n one region
stored_same zero one two region same = refl
stored_same (suc n) one two region same =
    ap (λ r. set r (slice_index two (2 * n + 1)) (slice_index two (2 * n + 2))) (stored_same n one two region (λ i some below. same i some (omega (arith, below))))
    ∙ ap (λ a. set (stored n one region) a (slice_index two (2 * n + 2))) (same (2 * n + 1) (omega arith) (omega arith))
    ∙ ap (λ v. set (stored n one region) (slice_index one (2 * n + 1)) v) (same (2 * n + 2) (omega arith) (omega arith))

-- a set with the same words as a write set is a write set between the same regions
set_same : (one two before after : List ℕ) → slice_index two 0 ≡ slice_index one 0 → ((i : ℕ) → i < 2 * slice_index one 0 + 1 → slice_index two i ≡ slice_index one i) → IsWriteSet one before after → IsWriteSet two before after
set_same one two before after count same w = record {
  few = subst (λ n. n ≤ 256) (sym count) w.few;
  within = λ m below. (
      let here : m < slice_index one 0 = subst (λ n. m < n) count below in
      subst (λ a. a < length before) (sym (same (2 * m + 1) (omega (arith, here)))) (w.within m here));
  gives = ap (λ n. stored n two before) count ∙ stored_same (slice_index one 0) one two before (λ i some below. same i below) ∙ w.gives;
}

pub set_grows : (instance : Instance) (history more : List Entry) (ticket : ℕ) (sets : List ℕ) → ticket < instance.base.place + length history →
    IsWriteSetOf instance history ticket sets → IsWriteSetOf instance (history ++ more) ticket sets
set_grows instance history more ticket sets below old =
    let one = full_stays instance history more ticket (omega arith) in
    let two = full_stays instance history more (ticket + 1) (omega arith) in
    subst (λ image. IsWriteSet sets image (full_image instance.step instance.base (history ++ more) (ticket + 1))) (sym one)
    (subst (λ image. IsWriteSet sets (full_image instance.step instance.base history ticket) image) (sym two) old)

-- FREE never falls
free_up : (instance : Instance) (s : State) (history : List Entry) (law : QueueLawful instance history s.words s.locals) (caller : ℕ) (l : Local) (at : slice_get s.locals caller ≡ Some l) (kind : Kind) →
    Guard instance (scene_of instance s) kind l → slice_index s.words free_at ≤ slice_index (words_after instance kind l s.words) free_at
free_up instance s history law caller l at kind guard = by kind guard
  where
    some : 1 ≤ instance.callers
    some = law.shape.some

    off : (place v : ℕ) → place ≢ 3 → slice_index s.words free_at ≤ slice_index (set s.words place v) free_at
    off place v ne = (let e : slice_index (set s.words place v) 3 ≡ slice_index s.words 3 = get_or-set_other s.words place 3 v 0 (λ same. ne (sym same)) in omega (arith, e))

    loaded : (place : ℕ) → slice_index s.words free_at ≤ slice_index (set s.words place (slice_index s.words place)) free_at
    loaded place = (let e : slice_index (set s.words place (slice_index s.words place)) 3 ≡ slice_index s.words 3 = ap (λ ws. slice_index ws 3) (set-get_or s.words place 0) in omega (arith, e))

    by : (kind : Kind) → Guard instance (scene_of instance s) kind l → slice_index s.words free_at ≤ slice_index (words_after instance kind l s.words) free_at
    by LoadFree guard = loaded _
    by OpenFree guard = (
        let e : slice_index (set s.words 3 (max (slice_index s.words 3) (bound_in l.scan))) 3 ≡ max (slice_index s.words 3) (bound_in l.scan) = get_or-set_same s.words 3 _ 0 (omega (arith, law.shape.long)) in
        omega (arith, e))
    by kind guard = off _ _ (omega arith)

-- what a caller noted of sets is so after a step of any caller
pub notes_event : (instance : Instance) (history more : List Entry) (before after : State) (event : Event) (notes : List SetNoted) → QueueLawful instance history before.words before.locals →
    Makes instance event before after → SetNotesHold instance before history notes → SetNotesHold instance after (history ++ more) notes
notes_event instance history more before after event notes law m hold = record {
  stand = λ n note at. (
      let old = hold.stand n note at in record {
        entry = old.entry;
        linked = record { from = old.linked.from; at = slice_get-append_left history more (note.ticket - instance.base.place) old.entry old.linked.at };
        small = old.small;
        stands = λ live. moved note old (subst (λ ws. slice_index ws free_at ≤ note.ticket) m.words live);
      });
  whole = λ ticket sets read. (
      let first = read.each 0 (omega arith) in
      let old = hold.stand first.0 _ first.1 in
      let there = slice_get_within history (ticket - instance.base.place) old.entry old.linked.at in
      let from = old.linked.from in
      set_grows instance history more ticket sets (omega arith) (hold.whole ticket sets read));
}
  where
    moved : (note : SetNoted) → StandsNoted instance before history note → slice_index (words_after instance event.kind m.local before.words) free_at ≤ note.ticket → HasSetWord instance after note
    moved note old live =
        let up = free_up instance before history law event.caller m.local m.of_caller event.kind m.guard in
        let was : slice_index before.words free_at ≤ note.ticket = omega (arith, up, live) in
        let has = old.stands was in
        let stays = offered_stay instance history before after event note.ticket old.entry law (record { linked = old.linked; live = was }) has.offered m in
        let cell : named_cell instance after note.ticket ≡ named_cell instance before note.ticket = ap (link_cell_of instance.callers) stays.link in
        record {
          offered = ap (λ k. slice_index after.words (offer_at instance.callers k)) cell ∙ stays.offer ∙ has.offered;
          word = ap (λ k. slice_index after.words (set_at instance.callers k note.index)) cell ∙ stays.set note.index old.small ∙ has.word;
        }

-- the offer word that a guard speaks of was seen
offer_seen : (seen : Option SeenOffer) (k t : ℕ) → ShowsOffer seen k t → (x : SeenOffer) × (seen ≡ Some x) × (x.cell ≡ k) × (x.ticket ≡ t) × (x.word ≡ t + 1)
offer_seen None k t shows = absurd shows
offer_seen (Some x) k t shows = (x, refl, shows.0, shows.1, shows.2)

-- what a caller may read of the set of a ticket in a cell: the ticket is linked and live, its slot names the cell, which is offered, and
-- the set there is a write set of the ticket
record Readable (instance : Instance) (s : State) (history : List Entry) (k t : ℕ) : Type 0 where
  shown : ShownLive instance s history k t
  offered : IsOfferedAt instance s t
  pairs : List ℕ
  good : IsWriteSetOf instance history t pairs
  words : (i : ℕ) → i < 513 → slice_index s.words (set_at instance.callers (named_cell instance s t) i) ≡ slice_index pairs i

-- where a caller may read the word `i` of the set of the ticket `t` in the cell `k`, that cell is offered, and has a write set of the ticket
readable : (instance : Instance) (s : State) (history : List Entry) (law : QueueLawful instance history s.words s.locals) (caller : ℕ) (l : Local) (at : slice_get s.locals caller ≡ Some l) (k t i : ℕ) →
    Guard instance (scene_of instance s) (ReadSet k t i) l → Readable instance s history k t
readable instance s history law caller l at k t i guard =
    let shown = shown_live instance s history law caller l at k t guard.2 guard.3 in
    let e = shown.entry in
    let held = law.cells.live t e shown.linked shown.live in
    let cell = held_cell instance s history law t e shown.linked held in
    let seen = offer_seen l.seen_offer k t guard.4 in
    let y = seen.0 in
    let offered = law.cells.seen_offers caller l at y seen.1 (subst (λ u. slice_index s.words free_at ≤ u) (sym seen.3) shown.live) (seen.4 ∙ ap (λ n. n + 1) (sym seen.3)) in
    let is : offered.cell ≡ held.cell = one_cell instance s.words s.locals y.ticket t offered.caller e.caller offered.j held.j offered.cell held.cell law.shape offered.names held.names (sym offered.is ∙ seen.2 ∙ sym shown.named ∙ cell.0) in
    let offer : held.cell.offer ≡ t + 1 = ap (λ (z : Cell). z.offer) (sym is) ∙ offered.offer ∙ ap (λ n. n + 1) seen.3 in
    let there = law.cells.shown e.caller held.names.local held.names.of_caller held.j held.cell held.names.at in
    record {
      shown = shown;
      offered = ap (λ n. slice_index s.words (offer_at instance.callers n)) cell.0 ∙ there.offer ∙ offer;
      pairs = held.cell.set;
      good = held.offered offer;
      words = λ i below. ap (λ n. slice_index s.words (set_at instance.callers n i)) cell.0 ∙ there.pairs i below;
    }

-- word 0 of a set that is read is the number of its pairs
pub read_count : (instance : Instance) (s : State) (history : List Entry) → QueueLawful instance history s.words s.locals → (caller : ℕ) (l : Local) → slice_get s.locals caller ≡ Some l → (k t : ℕ) →
    Guard instance (scene_of instance s) (ReadSet k t 0) l → slice_index s.words (set_at instance.callers k 0) ≤ 256
read_count instance s history law caller l at k t guard =
    let r = readable instance s history law caller l at k t 0 guard in
    let word : slice_index s.words (set_at instance.callers k 0) ≡ slice_index r.pairs 0 = ap (λ n. slice_index s.words (set_at instance.callers n 0)) (sym r.shown.named) ∙ r.words 0 (omega arith) in
    omega (arith, word, r.good.few)

-- a caller that read a word of a set notes it
pub notes_read : (instance : Instance) (s : State) (history : List Entry) (law : QueueLawful instance history s.words s.locals) (caller : ℕ) (l : Local) (at : slice_get s.locals caller ≡ Some l) (k t i : ℕ) (notes : List SetNoted) →
    Guard instance (scene_of instance s) (ReadSet k t i) l → SetNotesHold instance s history notes →
    SetNotesHold instance s history (notes ++ record { ticket = t; index = i; word = slice_index s.words (set_at instance.callers k i) } ∷ [])
notes_read instance s history law caller l at k t i notes guard hold = record {
  stand = stand;
  whole = λ u sets read. elim (cases_eq u t) [
    | inl e ↦ subst (λ n. IsWriteSetOf instance history n sets) (sym e) (of_ticket sets (subst (λ n. IsNotedSet (notes ++ new ∷ []) n sets) e read))
    | inr ne ↦ hold.whole u sets (record {
      few = read.few;
      each = λ j below. (let p = read.each j below in old_note u j (slice_index sets j) ne p.0 p.1);
    })
  ];
}
  where
    new : SetNoted
    new = record { ticket = t; index = i; word = slice_index s.words (set_at instance.callers k i) }

    r : Readable instance s history k t
    r = readable instance s history law caller l at k t i guard

    stand : (n : ℕ) (note : SetNoted) → slice_get (notes ++ new ∷ []) n ≡ Some note → StandsNoted instance s history note
    stand n note there = elim (slice_get-append notes (new ∷ []) n note there) [
      | inl old ↦ hold.stand n note old
      | inr last ↦ subst (StandsNoted instance s history) (only last.0 note last.2) (record {
        entry = r.shown.entry;
        linked = r.shown.linked;
        small = guard.1;
        stands = λ _. record { offered = r.offered; word = ap (λ n. slice_index s.words (set_at instance.callers n i)) r.shown.named };
      })
    ]
      where
        only : (m : ℕ) (x : SetNoted) → slice_get (new ∷ []) m ≡ Some x → new ≡ x
        only zero x at_m = same_Some new x at_m
        only (suc m) x at_m = absurd (none-some x at_m)

    -- a note of a ticket `u` that is not the ticket `t` just read was among the notes before the last one
    old_note : (u j w : ℕ) → u ≢ t → (n : ℕ) → slice_get (notes ++ new ∷ []) n ≡ Some (let x : SetNoted = record { ticket = u; index = j; word = w } in x) → (n : ℕ) × (slice_get notes n ≡ Some (let x : SetNoted = record { ticket = u; index = j; word = w } in x))
    old_note u j w ne n there = elim (slice_get-append notes (new ∷ []) n _ there) [
      | inl old ↦ (n, old)
      | inr last ↦ absurd (ne (sym (ticket_of last.0 _ last.2)))
    ]
      where
        ticket_of : (m : ℕ) (x : SetNoted) → slice_get (new ∷ []) m ≡ Some x → t ≡ x.ticket
        ticket_of zero x at_m = ap (λ (y : SetNoted). y.ticket) (same_Some new x at_m)
        ticket_of (suc m) x at_m = absurd (none-some x at_m)

    of_ticket : (sets : List ℕ) → IsNotedSet (notes ++ new ∷ []) t sets → IsWriteSetOf instance history t sets
    of_ticket sets read =
        let word : (j : ℕ) → j < 2 * slice_index sets 0 + 1 → slice_index sets j ≡ slice_index r.pairs j = λ j below. (
        let p = read.each j below in
        let old = stand p.0 _ p.1 in
        let has = old.stands r.shown.live in
        sym has.word ∙ r.words j old.small) in
        let count = word 0 (omega arith) in
        set_same r.pairs sets _ _ count (λ j below. word j (omega (arith, count, below))) r.good
