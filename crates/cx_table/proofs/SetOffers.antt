-- The set of an own entry is offered by the numbers that its seat keeps.
use Rattle.std.proofs.Common.{◌≡◌, ◌≢◌, ◌+◌, ◌<◌, ℕ, List, [], length, refl, slice_index, slice_index_or, ap, subst, sym, ◌∙◌, Bool, true, false, Option, Some, None, IfNone, IfSome}
use Rattle.std.proofs.lemmas.Bool.{false≢true}
use Rattle.std.proofs.lemmas.Option.{get_or_from_slice_get, slice_get_within}
use Rattle.atomic_table.specs.Table.{Me}
use Rattle.cx_core.specs.declared.kinds.Kind.TheVariants.{Offer}
use Rattle.cx_core.specs.declared.local.Cell.{Cell}
use Rattle.cx_core.specs.declared.local.Local.{Local}
use Rattle.cx_core.specs.Events.{step_word}
use Rattle.cx_core.specs.QueueEvents.{cell_of, entry_in}
use Rattle.cx_core.specs.SetEvents.{CanWriteSet, IsUnoffered, offer_of}
use Rattle.cx_core.proofs.HistoryLemmas.{ObjectLaws}
use Rattle.table_invariant.specs.declared.rule.Known.{Known}
use Rattle.table_invariant.specs.Fitting.{IsOwnSet}
use Rattle.table_invariant.specs.Learns.{LearnsBy}
use Rattle.table_invariant.specs.Offers.{TellsOffer}
use Rattle.table_invariant.specs.Running.{IsTableWithinLimits, Running, instance_at}
use Rattle.table_invariant.specs.Seats.{Seated, known_of}
use Rattle.table_invariant.proofs.Offering.{learns_offer}
use Rattle.cx_table.specs.OwnCells.{HasTicketAs}
use Rattle.caller_cache.specs.declared.summary.CachedLocal.{CachedLocal}
use Rattle.caller_cache.specs.Summaries.{HasSummary, OwnCells}
use Rattle.caller_cache.proofs.FollowedSteps.{ticket_at}
use Rattle.caller_cache.proofs.SetNumbers.{part_at}

abbrev no_cell : Cell
no_cell = record { words = []; ticket = None; set = []; offer = 0 }

-- the offer word of a cell is among the numbers
pub offer_at : (me : Me ℕ (List Known)) (summary : CachedLocal) (before j : ℕ) → HasSummary me summary before → slice_index summary.offers j ≡ (cell_of (known_of me.0).local j).offer
offer_at me summary before j has = ap (λ (m : CachedLocal). slice_index m.offers j) has.is ∙ part_at (λ (c : Cell). c.offer) (known_of me.0).local.cells j

pub can_write : (l : Local) (j t : ℕ) → OwnCells l → j < 16 → (cell_of l j).ticket ≡ Some t → (cell_of l j).offer ≢ t + 1 → CanWriteSet l j
can_write l j t cells small named apart =
    let own = (cells j t small named).own in
    (small, subst (λ o. IsUnoffered l.own o (cell_of l j).offer) (sym named) (record { i = own.i; entry = record { ticket = t; entry = entry_in l j }; at = own.at; is = refl }, apart))

-- where no cell is offered with the ticket, there is no own set of it
pub no_own_set : (l : Local) (t : ℕ) (o : Option ℕ) → length l.cells ≡ 16 → IfNone o ((j : ℕ) → j < 16 → ¬ HasTicketAs l j t true) → IfNone o ((set : List ℕ) → ¬ IsOwnSet l.cells t set)
no_own_set l t (Some j) count none = tt
no_own_set l t None count none = λ set own.
    let cell = get_or_from_slice_get l.cells own.j own.cell no_cell own.at in
    none own.j (subst (λ n. own.j < n) count (slice_get_within l.cells own.j own.cell own.at)) (record {
      named = ap (λ (x : Cell). x.ticket) cell ∙ own.named;
      offers = (λ yes. ap (λ (x : Cell). x.offer) cell ∙ own.offered, λ is. refl);
    })

-- a cell that has the ticket and is not offered with it may be written, and no other with that ticket
pub cell_to_write : (l : Local) (t : ℕ) (o : Option ℕ) → OwnCells l → IfSome o (λ j. (j < 16) × HasTicketAs l j t false) → IfSome o (λ j. CanWriteSet l j × ((cell_of l j).ticket ≡ Some t))
cell_to_write l t None own is = tt
cell_to_write l t (Some j) own is = (can_write l j t own is.0 is.1.named (λ offered. false≢true (is.1.offers.1 offered)), is.1.named)

pub no_cell_to_write : (l : Local) (t : ℕ) (o : Option ℕ) → IfNone o ((j : ℕ) → j < 16 → ¬ HasTicketAs l j t false) → IfNone o ((j : ℕ) → CanWriteSet l j → (cell_of l j).ticket ≢ Some t)
no_cell_to_write l t (Some j) none = tt
no_cell_to_write l t None none = λ j can named.
    let apart = (subst (λ o. IsUnoffered l.own o (cell_of l j).offer) named can.1).1 in
    none j can.0 (record { named = named; offers = (λ no. absurd (false≢true no), λ offered. absurd (apart offered)) })

-- a set that whatever fits tells to be one of its ticket is offered
pub learns_offering : {O : Type 0} (line_count : O → ℕ) (lawful : O → List ℕ → Type 0) (step : O → List ℕ → List ℕ → List ℕ × List ℕ) (reads : O → List ℕ → Bool) (r : Running O) (j word new : ℕ) (me : Me ℕ (List Known)) (summary : CachedLocal) (before : ℕ) (old : Seated) →
    IsTableWithinLimits line_count lawful r → ObjectLaws r.lines (lawful r.object) (step r.object) → HasSummary me summary before → known_of me.0 ≡ old.known → CanWriteSet old.known.local j → TellsOffer r.lines (lawful r.object) r.base (step r.object) old.known j →
    word ≡ step_word (instance_at r step reads) (Offer j) old.known.local → new ≡ offer_of (slice_index_or summary.tickets j None) (slice_index summary.offers j) →
    LearnsBy (instance_at r step reads) (λ _. Offer j) old.known word (λ _. new)
learns_offering line_count lawful step reads r j word new me summary before old running laws has same can tells at is =
    let known = known_of me.0 in
    let puts : new ≡ offer_of (cell_of old.known.local j).ticket (cell_of old.known.local j).offer =
    is ∙ ap (λ t. offer_of t (slice_index summary.offers j)) (ticket_at me summary before j has) ∙ ap (offer_of (cell_of known.local j).ticket) (offer_at me summary before j has)
    ∙ ap (λ (k : Known). offer_of (cell_of k.local j).ticket (cell_of k.local j).offer) same in
    subst (λ w. LearnsBy (instance_at r step reads) (λ _. Offer j) old.known word (λ _. w)) (sym puts) (learns_offer r.lines (lawful r.object) (instance_at r step reads) laws running.base j old.known word can at tells)
