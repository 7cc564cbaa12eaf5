-- An own entry's write set is offered by what its caller noted.
use Rattle.std.proofs.Common.{◌≡◌, ◌+◌, ◌<◌, ℕ, List, length, refl, ap, sym, subst, ◌∙◌, arith, Option, Some, None, slice_index}
use Rattle.std.proofs.Math.Logic.{∥∥₁_elim}
use Rattle.std.proofs.Props.{props}
use Rattle.std.proofs.lemmas.Option.{none-some}
use Rattle.std.specs.List.{slice_get}
use Rattle.cx_core.specs.declared.entry.Entry.{Entry}
use Rattle.cx_core.specs.declared.kinds.Kind.TheVariants.{Offer}
use Rattle.cx_core.specs.declared.local.Local.{Local}
use Rattle.cx_core.specs.Base.{LawfulBase}
use Rattle.cx_core.specs.Events.{next, step_word}
use Rattle.cx_core.specs.Lawful.{Lawful}
use Rattle.cx_core.specs.QueueEvents.{cell_of}
use Rattle.cx_core.specs.SetEvents.{CanWriteSet, IsSetAt, offer_of}
use Rattle.cx_core.specs.Shown.{shown}
use Rattle.cx_core.specs.State.{Instance, State}
use Rattle.cx_core.specs.WriteSet.{IsWriteSetOf, stored}
use Rattle.cx_core.proofs.HistoryLemmas.{ObjectLaws}
use Rattle.cx_core.proofs.MergeLemmas.{history_is}
use Rattle.core_queue.specs.NotedSets.{OwnSetsHold}
use Rattle.core_queue.proofs.SetKinds.{unoffered_parts}
use Rattle.table_invariant.specs.declared.rule.Known.{Known}
use Rattle.table_invariant.specs.Fitting.{has_of}
use Rattle.table_invariant.specs.Learns.{LearnsBy}
use Rattle.table_invariant.specs.Offers.{TellsOffer, TellsSet}
use Rattle.table_invariant.specs.Rule.{IsTraced, NotesHold, SetsHold}
use Rattle.table_invariant.specs.Seats.{unseen}
use Rattle.table_invariant.proofs.Entries.{entries_from}
use Rattle.table_invariant.proofs.Fitting.{chain_on, full_at, origin_full}
use Rattle.table_invariant.proofs.Having.{has_of_history, there_on}
use Rattle.table_invariant.proofs.Keeps.{learns_there}

module _ (lines : ℕ) (lawful : List ℕ → Type 0) (instance : Instance) (laws : ObjectLaws lines lawful instance.step) (base : LawfulBase lines lawful instance.base) where
  -- a set that whatever fits tells to be one of a ticket is a write set of it, and the ticket is linked
  pub set_of_ticket : (s : State) (law : Lawful instance s) (known : Known) (l : Local) (ticket : ℕ) (pairs : List ℕ) → slice_get s.locals known.local.number ≡ Some l → known.local ≡ shown l →
      NotesHold instance law.history known.noted → IsTraced instance law.history known.accesses l → SetsHold instance s law.history known → OwnSetsHold instance law.history l.cells →
      TellsSet lines lawful instance.base instance.step known ticket pairs → (ticket < instance.base.place + length law.history) × IsWriteSetOf instance law.history ticket pairs
  set_of_ticket s law known l ticket pairs of_caller shows noted traced sets own tells =
      let history = law.history in
      let entries = entries_from instance s law in
      let small = law.tickets.below in
      let there = there_on instance s law known l of_caller shows noted sets own lines lawful laws base traced in
      let had = has_of_history instance s law known l of_caller shows noted sets own in
      let first = origin_full lines lawful instance laws base history small entries traced.first traced.origin in
      ∥∥₁_elim (tells.leads traced.first traced.now there) (hlevel props) (λ x. (
      let a = chain_on lines lawful instance laws base history small entries (has_of known) had traced.first first ticket x.before x.from in
      let b = chain_on lines lawful instance laws base history small entries (has_of known) had traced.first first (ticket + 1) traced.now x.to in
      let long = (full_at lines lawful instance laws base history small entries ticket a.0 a.1).size.long in
      let linked = b.1 in (
        omega (arith, linked),
        record {
          few = tells.few;
          within = λ m below. (let w = tells.within m below in omega (arith, w, long, base.size.long));
          gives = ap (stored (slice_index pairs 0) pairs) (sym a.2) ∙ x.leads ∙ b.2;
        },
      )))

  -- a set that is a write set of whatever ticket its cell has, and the cell has one, is that of the cell
  set_is : (history : List Entry) (o : Option ℕ) (pairs : List ℕ) → ((t : ℕ) → o ≡ Some t → IsWriteSetOf instance history t pairs) → (t : ℕ) × (o ≡ Some t) → IsSetAt instance history o pairs
  set_is history None pairs good has = absurd (none-some has.0 has.1)
  set_is history (Some t) pairs good has = good t refl

  -- a set in a cell that whatever fits tells to be one of the cell's ticket may be offered
  pub learns_offer : (j : ℕ) (known : Known) (word : ℕ) → CanWriteSet known.local j → word ≡ step_word instance (Offer j) known.local → TellsOffer lines lawful instance.base instance.step known j →
      LearnsBy instance (λ _. Offer j) known word (λ _. offer_of (cell_of known.local j).ticket (cell_of known.local j).offer)
  learns_offer j known word can at tells words _ locals law l of_caller shows noted traced sets own full =
      let s : State = record { words = words; locals = locals } in
      let mine : CanWriteSet l j = subst (λ (x : Local). CanWriteSet x j) shows can in
      let un = unoffered_parts l.own (cell_of l j).ticket (cell_of l j).offer mine.1 in
      let same = history_is instance.base.place law.history locals law.tickets.merged in
      let tells_set : (t : ℕ) → (cell_of l j).ticket ≡ Some t → TellsSet lines lawful instance.base instance.step known t (cell_of l j).set = λ t is.
      subst (TellsSet lines lawful instance.base instance.step known t) (ap (λ (x : Local). (cell_of x j).set) shows) (tells t (ap (λ (x : Local). (cell_of x j).ticket) shows ∙ is)) in
      learns_there instance (Offer j) known words word (offer_of (cell_of known.local j).ticket (cell_of known.local j).offer) tt at locals law l of_caller shows noted traced sets full (record {
        guard = (
          mine,
          subst (λ h. IsSetAt instance h (cell_of l j).ticket (cell_of l j).set) (sym same)
              (set_is law.history (cell_of l j).ticket (cell_of l j).set (λ t is. (set_of_ticket s law known l t (cell_of l j).set of_caller shows noted traced sets own (tells_set t is)).1) (un.t, un.is)),
        );
        new_is = ap (λ (x : Local). offer_of (cell_of x j).ticket (cell_of x j).offer) shows;
        shows = ap (λ (x : Local). next instance unseen (Offer j) x (slice_index words word)) shows;
        timed = tt;
      })
