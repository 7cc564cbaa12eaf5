-- Each kind of step keeps the parts on tickets, links, cells, fronts and the ring.
use Rattle.std.proofs.Common.{◌≡◌, ◌+◌, ◌*◌, ◌%◌, ◌==◌, ◌<◌, ◌≤◌, inl, inr, ℕ, Bool, cond, List, [], ◌∷◌, ◌++◌, length, set, slice_index, refl, sym, subst, arith, Some, length-append}
use Rattle.std.proofs.lemmas.Bool.{cases_Bool, eqb-true}
use Rattle.std.proofs.lemmas.List.{append-nil}
use Rattle.std.proofs.lemmas.Nat.{mod_below}
use Rattle.std.proofs.lemmas.Option.{same_Some, slice_get_within}
use Rattle.std.specs.List.{slice_get}
use Rattle.cx_base.specs.Codes.{link_code_of}
use Rattle.cx_core.specs.declared.entry.Entry.{Entry}
use Rattle.cx_core.specs.declared.kinds.Event.{Event}
use Rattle.cx_core.specs.declared.kinds.Kind.{Kind}
use Rattle.cx_core.specs.declared.kinds.Kind.TheVariants.{WriteCell, Link, Look, ReadCell, LoadFree, TryExclusive, TryShared, BackOff, Downgrade, ReleaseExclusive, LoadCur, Publish, Raise, Retire, Protect, Confirm, Unprotect, CloseLow, Scan, OpenFree, WriteSet, Offer, LoadOffer, ReadSet}
use Rattle.cx_core.specs.declared.local.Local.{Local}
use Rattle.cx_core.specs.declared.local.SeenSlot.{SeenSlot}
use Rattle.cx_core.specs.Events.{Guard, Makes, local_after, step_word, words_after}
use Rattle.cx_core.specs.QueueEvents.{CanLink, entry_in, linked, lost, raised_front, seen_word}
use Rattle.cx_core.specs.Layout.{cell_count, free_at, link_at, cell_at}
use Rattle.cx_core.specs.Lawful.{IsBehind, SeenStands}
use Rattle.cx_core.specs.LawfulRoot.{RootBounds}
use Rattle.cx_core.specs.Merge.{IsLinked, scene_of}
use Rattle.cx_core.specs.Rights.{is_at, shared_on}
use Rattle.cx_core.specs.State.{Instance, Scene, State}
use Rattle.core_queue.specs.Frames.{OffQueue, SameFront, SameQueue}
use Rattle.core_queue.specs.Queue.{QueueContinues, QueueLawful}
use Rattle.core_queue.proofs.CellLinks.{Wins, cells_linked}
use Rattle.core_queue.proofs.CellLaws.{cells_local}
use Rattle.core_queue.proofs.CellPuts.{cells_written}
use Rattle.core_queue.proofs.FrontLaws.{behind_free, behind_raised, fronts_put, same_words}
use Rattle.core_queue.proofs.LiveCells.{linked_callers}
use Rattle.core_queue.proofs.LinkLaws.{links_linked, raised_within, won_at_end}
use Rattle.core_queue.proofs.QueueFrames.{off_lock, off_region, queue_found, queue_loaded, queue_put, same_but}
use Rattle.core_queue.proofs.RingKinds.{close_low_kept, confirm_kept, open_free_kept, protect_kept, scan_kept, unprotect_kept}
use Rattle.core_queue.proofs.RingLaws.{ring_framed, ring_local}
use Rattle.core_queue.proofs.RootKinds.{load_cur_kept, publish_kept, raise_kept, retire_kept}
use Rattle.cx_core.proofs.Putting.{either}
use Rattle.core_queue.proofs.SetKinds.{load_offer_kept, offer_kept, put_kept, write_set_kept}
use Rattle.cx_core.proofs.MergeLemmas.{history_is}
use Rattle.core_queue.proofs.Shapes.{cell_there, shape_kept, shape_linked, shape_written}
use Rattle.core_queue.proofs.TicketLaws.{tickets_linked}

-- with the history as it was
pub same_history : {instance : Instance} {history : List Entry} {words : List ℕ} {locals : List Local} → QueueLawful instance history words locals → QueueContinues instance history words locals
same_history {history = history} law = record { after = history; continues = record { more = []; is = sym (append-nil history) }; lawful = law }

module _ (instance : Instance) (history : List Entry) (words : List ℕ) (locals : List Local) (law : QueueLawful instance history words locals) where
  callers : (ticket : ℕ) (entry : Entry) → IsLinked instance.base.place history ticket entry → entry.caller < instance.callers
  callers = linked_callers instance history words locals law

  module _ (caller : ℕ) (l : Local) (at : slice_get locals caller ≡ Some l) where
    -- the front of a caller that found a link word
    behind_found : (l' : Local) (slot : ℕ) → slot < cell_count instance.callers →
        l'.front ≡ raised_front instance.callers l.front (slice_index words (link_at instance.callers slot)) → SameFront l (record l' { front = l.front }) → IsBehind instance history words l'
    behind_found l' slot below front fields =
        let old = law.fronts.each caller l at in
        let word = slice_index words (link_at instance.callers slot) in
        let rises = raised_within instance history l.front slot word callers old.to (law.links.each slot below) in
        behind_raised instance history history words words l l' old (omega arith) (record { dur = refl; low = refl; free = refl })
        (omega (arith, front, rises.0)) (omega (arith, front, rises.1)) fields

    -- a link that wins is at the end of the history, with an idle cell
    pub link_wins : (j : ℕ) → CanLink instance.callers instance.base l j →
        slice_index words (link_at instance.callers (l.front % cell_count instance.callers)) ≡ seen_word l.seen_slot → Wins instance history words locals caller l j
    link_wins j guard found =
        let some = law.shape.some in
        let old = law.fronts.each caller l at in
        let q = cell_count instance.callers in
        let slot_small : l.front % q < q = mod_below l.front q (omega arith) in
        record {
          shape = law.shape;
          links = law.links;
          cells = law.cells;
          callers = callers;
          at = at;
          small = guard.0;
          idle = guard.1;
          behind = old.free;
          end = won_at_end instance history l.front (slice_index words (link_at instance.callers (l.front % q))) l.seen_slot callers some old.from old.to guard.4 found (law.links.each (l.front % q) slot_small);
          open_ = guard.4;
          found = found;
        }

    -- a link that won: the entry is linked at the end of the history
    link_won : (j : ℕ) → CanLink instance.callers instance.base l j →
        slice_index words (link_at instance.callers (l.front % cell_count instance.callers)) ≡ seen_word l.seen_slot →
        QueueContinues instance history
        (set words (link_at instance.callers (l.front % cell_count instance.callers)) (link_code_of instance.callers l.front (16 * l.number + j))) (set locals caller (linked l j))
    link_won j guard found =
        let some = law.shape.some in
        let shape = law.shape.each caller l at in
        let old = law.fronts.each caller l at in
        let q = cell_count instance.callers in
        let place = link_at instance.callers (l.front % q) in
        let code = link_code_of instance.callers l.front (16 * l.number + j) in
        let wins = link_wins j guard found in
        let end = wins.end in
        let entry = entry_in l j in
        let far : 4 ≤ place = omega arith in
        let long : link_at instance.callers q ≤ length words = omega (arith, law.shape.long) in
        let longer : length history + 1 ≡ length (history ++ entry ∷ []) = sym (length-append history (entry ∷ [])) in
        record {
          after = history ++ entry ∷ [];
          continues = record { more = entry ∷ []; is = refl };
          lawful = record {
            shape = shape_kept instance words locals place code caller l (linked l j) law.shape at (shape_linked caller l j shape guard.0);
            tickets = tickets_linked instance history locals caller l j law.tickets at shape.number (shape.each j _ (cell_there caller l j shape guard.0)) guard end;
            links = links_linked instance history words entry l.front j law.links some long end guard.0;
            cells = cells_linked instance history words locals caller l j wins;
            fronts = fronts_put instance history (history ++ entry ∷ []) words (set words place code) locals caller l (linked l j) law.fronts at (omega (arith, longer)) (same_words words place code (inl far))
                (behind_raised instance history (history ++ entry ∷ []) words (set words place code) l (linked l j) old (omega (arith, longer)) (same_words words place code (inl far))
                (omega arith) (omega (arith, longer, end))
                (record { front = refl; floor = refl; seen_cur = refl; seen_free = refl; seen_low = refl; raised = refl; won = refl }));
            ring = ring_framed instance words locals place code caller l (linked l j) law.shape law.ring at (inr (omega arith)) (record { protection = refl; scan = refl });
          };
        }

    -- a link that was lost: the front rises past the ticket found
    link_lost : let place = link_at instance.callers (l.front % cell_count instance.callers) in
        QueueLawful instance history (set words place (slice_index words place)) (set locals caller (lost instance.callers l (slice_index words place)))
    link_lost =
        let some = law.shape.some in
        let q = cell_count instance.callers in
        let slot_small : l.front % q < q = mod_below l.front q (omega arith) in
        let place = link_at instance.callers (l.front % q) in
        let l' = lost instance.callers l (slice_index words place) in
        queue_loaded instance history words locals place caller l l' law at refl (record { own = refl; answered = refl }) refl (cells_local instance history words locals caller l l' law.cells at refl refl (law.cells.seen caller l at))
        (behind_found l' (l.front % q) slot_small refl
        (record { front = refl; floor = refl; seen_cur = refl; seen_free = refl; seen_low = refl; raised = refl; won = refl }))
        (ring_local instance words locals caller l l' law.shape law.ring at (record { protection = refl; scan = refl }))

-- what each kind has to meet
module _ (instance : Instance) (history : List Entry) (scene : Scene) (locals : List Local) (caller : ℕ) (l : Local) (law : QueueLawful instance history scene.words locals) (at : slice_get locals caller ≡ Some l) where
  abbrev After : Kind → Type 0
  After kind = QueueContinues instance history (words_after instance kind l scene.words) (set locals caller (local_after instance scene kind l))

  -- writing the word `i` of an idle cell `j` keeps the parts on tickets, links, cells, fronts and the ring
  write_cell_kept : (j i v : ℕ) → Guard instance scene (WriteCell j i v) l → After (WriteCell j i v)
  write_cell_kept j i v guard =
      let words = scene.words in
      let l' = local_after instance scene (WriteCell j i v) l in
      let shape = law.shape.each caller l at in
      let place = cell_at instance.callers (16 * caller + j) i in
      let j_small = guard.0 in
      let within = slice_get_within locals caller l at in
      subst (λ n. QueueContinues instance history (set words (cell_at instance.callers (16 * n + j) i) v) (set locals caller l')) (sym shape.number)
      (same_history (put_kept instance history scene locals caller l law at place v l' (omega arith) (omega (arith, within, law.shape.count, j_small, guard.1))
      (shape_written caller l l' j i v shape j_small guard.3 refl refl) refl refl refl refl refl refl refl refl refl refl refl refl
      (cells_written instance history words locals caller l l' j i v law.shape law.cells at j_small guard.1 guard.2 (law.fronts.each caller l at).free refl refl refl)))

  link_kept : (j : ℕ) → Guard instance scene (Link j) l → After (Link j)
  link_kept j guard =
      let words = scene.words in
      let place = link_at instance.callers (l.front % cell_count instance.callers) in
      let found = slice_index words place in
      let code = link_code_of instance.callers l.front (16 * l.number + j) in
      let P : Bool → Type 0 = λ b. QueueContinues instance history (set words place (cond b code found)) (set locals caller (cond b (linked l j) (lost instance.callers l found))) in
      elim (cases_Bool (found == seen_word l.seen_slot)) [
        | inl e ↦ subst P (sym e) (link_won instance history words locals law caller l at j guard (eqb-true found (seen_word l.seen_slot) e))
        | inr e ↦ subst P (sym e) (same_history (link_lost instance history words locals law caller l at))
      ]

  look_kept : (slot : ℕ) → Guard instance scene (Look slot) l → After (Look slot)
  look_kept slot guard =
      let l' = local_after instance scene (Look slot) l in
      let place = link_at instance.callers slot in
      let now : SeenSlot = record { slot = slot; word = slice_index scene.words place } in
      same_history (queue_loaded instance history scene.words locals place caller l l' law at refl (record { own = refl; answered = refl }) refl
      (cells_local instance history scene.words locals caller l l' law.cells at refl refl
      (λ seen is. subst (SeenStands instance scene.words) (same_Some now seen is) (record { slot = guard; later = λ _. inl refl; stands = λ _ _. refl })))
      (behind_found instance history scene.words locals law caller l at l' slot guard refl
      (record { front = refl; floor = refl; seen_cur = refl; seen_free = refl; seen_low = refl; raised = refl; won = refl }))
      (ring_local instance scene.words locals caller l l' law.shape law.ring at (record { protection = refl; scan = refl })))

  load_free_kept : After LoadFree
  load_free_kept =
      let l' = local_after instance scene LoadFree l in
      same_history (queue_loaded instance history scene.words locals free_at caller l l' law at refl (record { own = refl; answered = refl }) refl (cells_local instance history scene.words locals caller l l' law.cells at refl refl (law.cells.seen caller l at))
      (behind_free instance history scene.words l l' (law.fronts.each caller l at) refl
      (record { front = refl; floor = refl; seen_cur = refl; seen_free = refl; seen_low = refl; raised = refl; won = refl }))
      (ring_local instance scene.words locals caller l l' law.shape law.ring at (record { protection = refl; scan = refl })))

  -- a step on locks or on the words of replicas
  apart_kept : (kind : Kind) → OffQueue instance (step_word instance kind l) → SameQueue l (local_after instance scene kind l) → After kind
  apart_kept kind off same =
      same_history (queue_put instance history scene.words locals (step_word instance kind l) _ caller l (local_after instance scene kind l) law at off same)

-- an allowed step of any kind
pub queue_kept : (instance : Instance) (history : List Entry) (scene : Scene) (locals : List Local) (caller : ℕ) (l : Local) (kind : Kind) → QueueLawful instance history scene.words locals →
    RootBounds instance history scene.words locals → scene.history ≡ history → slice_get locals caller ≡ Some l → Guard instance scene kind l →
    QueueContinues instance history (words_after instance kind l scene.words) (set locals caller (local_after instance scene kind l))
queue_kept instance history scene locals caller l (WriteCell j i v) law bounds of_history at guard = write_cell_kept instance history scene locals caller l law at j i v guard
queue_kept instance history scene locals caller l (Link j) law bounds of_history at guard = link_kept instance history scene locals caller l law at j guard
queue_kept instance history scene locals caller l (Look slot) law bounds of_history at guard = look_kept instance history scene locals caller l law at slot guard
queue_kept instance history scene locals caller l (ReadCell t k i) law bounds of_history at guard = same_history (queue_found instance history scene.words locals _ caller l _ law at (same_but l _ _ _ _ _ _ _ _ _))
queue_kept instance history scene locals caller l LoadFree law bounds of_history at guard = load_free_kept instance history scene locals caller l law at
queue_kept instance history scene locals caller l (TryExclusive r) law bounds of_history at guard =
    apart_kept instance history scene locals caller l law at (TryExclusive r) (off_lock instance r guard.0) (either (SameQueue l) _ _ _ (same_but l _ _ _ _ _ _ _ _ _) (same_but l _ _ _ _ _ _ _ _ _))
queue_kept instance history scene locals caller l (TryShared r) law bounds of_history at guard =
    apart_kept instance history scene locals caller l law at (TryShared r) (off_lock instance r guard.0) (either (SameQueue l) _ _ _ (same_but l _ _ _ _ _ _ _ _ _) (same_but l _ _ _ _ _ _ _ _ _))
queue_kept instance history scene locals caller l (BackOff r) law bounds of_history at guard =
    apart_kept instance history scene locals caller l law at (BackOff r) (off_lock instance r guard.0)
    (either (SameQueue l) (is_at r (shared_on l)) _ _ (same_but l _ _ _ _ _ _ _ _ _) (either (SameQueue l) (is_at r l.passer) _ _ (same_but l _ _ _ _ _ _ _ _ _) (same_but l _ _ _ _ _ _ _ _ _)))
queue_kept instance history scene locals caller l (Downgrade r) law bounds of_history at guard =
    apart_kept instance history scene locals caller l law at (Downgrade r) (off_lock instance r guard.0.0) (same_but l _ _ _ _ _ _ _ _ _)
queue_kept instance history scene locals caller l (ReleaseExclusive r) law bounds of_history at guard =
    apart_kept instance history scene locals caller l law at (ReleaseExclusive r) (off_lock instance r guard.0.0) (same_but l _ _ _ _ _ _ _ _ _)
queue_kept instance history scene locals caller l LoadCur law bounds of_history at guard = same_history (load_cur_kept instance history scene locals caller l law bounds at)
queue_kept instance history scene locals caller l Publish law bounds of_history at guard = same_history (publish_kept instance history scene locals caller l law bounds at guard)
queue_kept instance history scene locals caller l (Raise code read) law bounds of_history at guard = same_history (raise_kept instance history scene locals caller l law bounds at code read guard)
queue_kept instance history scene locals caller l Retire law bounds of_history at guard = same_history (retire_kept instance history scene locals caller l law bounds at)
queue_kept instance history scene locals caller l (Protect p) law bounds of_history at guard = same_history (protect_kept instance history scene locals caller l law bounds at p)
queue_kept instance history scene locals caller l Confirm law bounds of_history at guard = same_history (confirm_kept instance history scene locals caller l law bounds at)
queue_kept instance history scene locals caller l Unprotect law bounds of_history at guard = same_history (unprotect_kept instance history scene locals caller l law bounds at)
queue_kept instance history scene locals caller l (CloseLow target) law bounds of_history at guard = same_history (close_low_kept instance history scene locals caller l law bounds at target guard)
queue_kept instance history scene locals caller l (Scan d) law bounds of_history at guard = same_history (scan_kept instance history scene locals caller l law bounds at d guard)
queue_kept instance history scene locals caller l OpenFree law bounds of_history at guard = same_history (open_free_kept instance history scene locals caller l law bounds at guard)
queue_kept instance history scene locals caller l (WriteSet j i v) law bounds of_history at guard = same_history (write_set_kept instance history scene locals caller l law at j i v guard)
queue_kept instance history scene locals caller l (Offer j) law bounds of_history at guard = same_history (offer_kept instance history scene locals caller l law at j of_history guard)
queue_kept instance history scene locals caller l (LoadOffer k t) law bounds of_history at guard = same_history (load_offer_kept instance history scene locals caller l law at k t guard)
queue_kept instance history scene locals caller l (ReadSet k t i) law bounds of_history at guard = same_history (queue_found instance history scene.words locals _ caller l _ law at (same_but l _ _ _ _ _ _ _ _ _))
queue_kept instance history scene locals caller l kind law bounds of_history at guard =
    apart_kept instance history scene locals caller l law at kind (off_region instance _ (omega arith)) (same_but l _ _ _ _ _ _ _ _ _)

-- an event
pub queue_event_kept : (instance : Instance) (history : List Entry) (event : Event) (before after : State) → QueueLawful instance history before.words before.locals →
    RootBounds instance history before.words before.locals → Makes instance event before after → QueueContinues instance history after.words after.locals
queue_event_kept instance history event before after law bounds m =
    subst (λ ws. QueueContinues instance history ws after.locals) (sym m.words)
    (subst (λ ls. QueueContinues instance history (words_after instance event.kind m.local before.words) ls) (sym m.locals)
    (queue_kept instance history (scene_of instance before) before.locals event.caller m.local event.kind law bounds (history_is instance.base.place history before.locals law.tickets.merged) m.of_caller m.guard))
