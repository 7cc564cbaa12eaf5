-- The steps of the ring keep the parts on tickets, links, cells, fronts and the ring.
use Rattle.std.proofs.Common.{◌≡◌, ◌≢◌, ◌<◌, ◌≤◌, ◌⊎◌, inl, inr, ℕ, max, nat_le, true, false, cond, List, Option, set, slice_index, refl, ap, sym, subst, ◌∙◌, arith, Some, None}
use Rattle.std.proofs.lemmas.Bool.{cases_Bool, cases_lt, leb-true}
use Rattle.std.proofs.lemmas.List.{get_or-set_other, get_or-set_same}
use Rattle.std.proofs.lemmas.Option.{same_Some, slice_get_within}
use Rattle.std.specs.List.{slice_get}
use Rattle.cx_base.specs.Codes.{root_place_of}
use Rattle.cx_core.specs.declared.entry.Entry.{Entry}
use Rattle.cx_core.specs.declared.kinds.Kind.{Kind}
use Rattle.cx_core.specs.declared.kinds.Kind.TheVariants.{Protect, Confirm, Unprotect, CloseLow, Scan, OpenFree}
use Rattle.cx_core.specs.declared.local.Local.{Local}
use Rattle.cx_core.specs.declared.local.Protection.{Protection}
use Rattle.cx_core.specs.declared.local.Protection.TheVariants.{Unprotected, Stated, Confirmed}
use Rattle.cx_core.specs.declared.local.Scan as scans
use Rattle.cx_core.specs.Events.{Guard, local_after, words_after}
use Rattle.cx_core.specs.Layout.{cur_at, dur_at, free_at, low_at, max_word, need_at}
use Rattle.cx_core.specs.LawfulRing.{Ring, ScanStands}
use Rattle.cx_core.specs.LawfulRoot.{RootBounds}
use Rattle.cx_core.specs.RingEvents.{IsNext, bound_in, confirmed_by, need_word, scan_after, scanned_on, stated}
use Rattle.cx_core.specs.State.{Instance, Scene}
use Rattle.cx_core.proofs.RootCodes.{place_up}
use Rattle.core_queue.specs.Frames.{SameQueue}
use Rattle.core_queue.specs.Queue.{QueueLawful}
use Rattle.core_queue.proofs.CellLaws.{cells_local, cells_up}
use Rattle.core_queue.proofs.FrontLaws.{behind_kept, behind_low, behind_up, fronts_framed, fronts_up}
use Rattle.core_queue.proofs.LinkLaws.{links_framed}
use Rattle.core_queue.proofs.QueueFrames.{queue_loaded, queue_with, same_but}
use Rattle.core_queue.proofs.RingLaws.{KeepsConfirmed, RingStands, ring_put, same_confirmed, scan_still}
use Rattle.core_queue.proofs.Shapes.{shape_kept, shape_same}
use Rattle.core_queue.proofs.TicketLaws.{tickets_framed}

scan_parts : (d : ℕ) (o : Option scans.Scan) → IsNext d o → (s : scans.Scan) × (o ≡ Some s) × (s.next ≡ d)
scan_parts d None is = absurd is
scan_parts d (Some s) is = (s, refl, is)

-- a protection that LOW was loaded for needs the same tickets as before
confirmed_need : (found : ℕ) (o : Protection) → need_word (confirmed_by found o) ≡ need_word o
confirmed_need found Unprotected = refl
confirmed_need found (Stated q) = elim (nat_le found q) as (λ b. need_word (cond b (Confirmed q) (Stated q)) ≡ q) [ true ↦ refl | false ↦ refl ]
confirmed_need found (Confirmed q) = refl

-- a protection is confirmed after LOW was found only where it was before, or where LOW is at most its place
confirmed_open : (found : ℕ) (o : Protection) (p : ℕ) → confirmed_by found o ≡ Confirmed p → (found ≤ p) ⊎ (o ≡ Confirmed p)
confirmed_open found Unprotected p is = absurd (cc)
confirmed_open found (Stated q) p is =
    elim (cases_Bool (nat_le found q)) [
      | inl e ↦ (
          let now : Confirmed q ≡ Confirmed p = subst (λ b. cond b (Confirmed q) (Stated q) ≡ Confirmed p) e is in
          let same : q ≡ p = cc in
          inl (omega (arith, leb-true found q e)))
      | inr e ↦ (let now : Stated q ≡ Confirmed p = subst (λ b. cond b (Confirmed q) (Stated q) ≡ Confirmed p) e is in absurd (cc))
    ]
confirmed_open found (Confirmed q) p is = inr is

-- the need of the next caller of a scan was found
scanned_stands : (instance : Instance) (words : List ℕ) (locals : List Local) (d : ℕ) (s : scans.Scan) → Ring instance words locals → s.next ≡ d → d < instance.callers →
    ScanStands instance words locals s → ScanStands instance words locals (scanned_on d (slice_index words (need_at d)) s)
scanned_stands instance words locals d s ring at below old = record {
  bound = omega (arith, old.bound);
  closed = old.closed;
  next = omega arith;
  passed = λ e x there before p is. elim (cases_lt e s.next) [
    | inl earlier ↦ omega (arith, old.passed e x there earlier p is)
    | inr past ↦ (
        let here : e ≡ d = omega arith in
        let need : slice_index words (need_at e) ≡ p = (ring.each e x there).need ∙ ap need_word is in
        let found : slice_index words (need_at d) ≡ p = subst (λ n. slice_index words (need_at n) ≡ p) here need in
        omega arith)
  ];
}

module _ (instance : Instance) (history : List Entry) (scene : Scene) (locals : List Local) (caller : ℕ) (l : Local)
    (law : QueueLawful instance history scene.words locals) (bounds : RootBounds instance history scene.words locals) (at : slice_get locals caller ≡ Some l) where
  abbrev Kept : Kind → Type 0
  Kept kind = QueueLawful instance history (words_after instance kind l scene.words) (set locals caller (local_after instance scene kind l))

  -- what is confirmed stays, where FREE is as it was
  confirmed_kept : KeepsConfirmed (slice_index scene.words free_at) locals
  confirmed_kept d x there p is = (law.ring.each d x there).kept p is

  -- a step on the caller's own need, after which it has no confirmed protection
  need_kept : (v : ℕ) (l' : Local) → need_word l'.protection ≡ v → ((p : ℕ) → l'.protection ≡ Confirmed p → ⊥) → SameQueue l (record l' { protection = l.protection }) →
      QueueLawful instance history (set scene.words (need_at l.number) v) (set locals caller l')
  need_kept v l' need never same =
      let words = scene.words in
      let place = need_at caller in
      let words' = set words place v in
      let some = law.shape.some in
      let within : caller < instance.callers = (let w = slice_get_within locals caller l at in omega (arith, w, law.shape.count)) in
      let other : (k : ℕ) → k ≢ place → slice_index words' k ≡ slice_index words k = λ k ne. get_or-set_other words place k v 0 ne in
      let cur = other cur_at (omega arith) in
      let low = other low_at (omega arith) in
      let free = other free_at (omega arith) in
      let left : RingStands instance words words' caller = record {
        closed = omega (arith, low, free, law.ring.closed);
        current = rw (low, cur) law.ring.current;
        low = omega (arith, low);
        needs = λ d below ne. other (need_at d) (omega arith);
      } in
      subst (λ n. QueueLawful instance history (set words (need_at n) v) (set locals caller l')) (sym (law.shape.each caller l at).number)
      (queue_with instance history words locals place v caller l l' law at (omega arith, inl (omega arith)) same.number (record { cells = same.cells.cells; seen_slot = same.cells.seen_slot; seen_offer = same.cells.seen_offer })
      (tickets_framed instance history locals caller l l' law.tickets at same.tickets.own same.tickets.answered)
      (fronts_framed instance history words locals place v caller l l' law.fronts at (inl (omega arith))
      (record { front = same.front.front; floor = same.front.floor; seen_cur = same.front.seen_cur; seen_free = same.front.seen_free; seen_low = same.front.seen_low; raised = same.front.raised; won = same.front.won }))
      (ring_put instance words words' locals caller l l' law.shape law.ring at left
      (subst (λ f. KeepsConfirmed f locals) (sym free) confirmed_kept)
      (λ p is. absurd (never p is))
      (record {
        need = get_or-set_same words place v 0 (omega (arith, law.shape.long)) ∙ sym need;
        kept = λ p is. absurd (never p is);
        scan = λ s is. scan_still instance words words' locals caller l l' s at left.low (λ p has. absurd (never p has)) ((law.ring.each caller l at).scan s (sym same.ring.scan ∙ is));
      })))

  pub protect_kept : (p : ℕ) → Kept (Protect p)
  protect_kept p = need_kept p (stated p l) refl (λ q is. absurd (cc)) (same_but l _ _ _ _ _ _ _ _ _)

  pub unprotect_kept : Kept Unprotect
  unprotect_kept = need_kept max_word _ refl (λ q is. absurd (cc)) (same_but l _ _ _ _ _ _ _ _ _)

  pub confirm_kept : Kept Confirm
  confirm_kept =
      let words = scene.words in
      let l' = local_after instance scene Confirm l in
      let found = slice_index words low_at in
      let mine = law.ring.each caller l at in
      let open_ = confirmed_open found l.protection in
      queue_loaded instance history words locals low_at caller l l' law at refl (record { own = refl; answered = refl }) refl (cells_local instance history words locals caller l l' law.cells at refl refl (law.cells.seen caller l at))
      (behind_low instance history words l l' (law.fronts.each caller l at) refl
      (record { front = refl; floor = refl; seen_cur = refl; seen_free = refl; seen_low = refl; raised = refl; won = refl }))
      (ring_put instance words words locals caller l l' law.shape law.ring at
      (record { closed = law.ring.closed; current = law.ring.current; low = omega arith; needs = λ _ _ _. refl })
      confirmed_kept open_
      (record {
        need = mine.need ∙ sym (confirmed_need found l.protection);
        kept = λ p is. elim (open_ p is) [ inl le ↦ omega (arith, le, law.ring.closed) | inr same ↦ mine.kept p same ];
        scan = λ s is. scan_still instance words words locals caller l l' s at (omega arith) open_ (mine.scan s is);
      }))

  pub close_low_kept : (target : ℕ) → Guard instance scene (CloseLow target) l → Kept (CloseLow target)
  close_low_kept target guard =
      let words = scene.words in
      let l' = local_after instance scene (CloseLow target) l in
      let v = max (slice_index words low_at) target in
      let words' = set words low_at v in
      let some = law.shape.some in
      let mine = law.ring.each caller l at in
      let other : (k : ℕ) → k ≢ low_at → slice_index words' k ≡ slice_index words k = λ k ne. get_or-set_other words low_at k v 0 ne in
      let cur = other cur_at (omega arith) in
      let dur = other dur_at (omega arith) in
      let free = other free_at (omega arith) in
      let low : slice_index words' low_at ≡ v = get_or-set_same words low_at v 0 (omega (arith, law.shape.long)) in
      let place = place_up instance.callers l.seen_cur (slice_index words cur_at) law.shape.some (bounds.each caller l at).seen in
      let place' = ap (root_place_of instance.callers) cur in
      let left : RingStands instance words words' caller = record {
        closed = omega (arith, low, free, law.ring.closed);
        current = omega (arith, low, place', place, guard.0, law.ring.current);
        low = omega (arith, low);
        needs = λ d _ _. other (need_at d) (omega arith);
      } in
      let new : scans.Scan = record { target = target; bound = target; next = 0; least = None } in
      queue_with instance history words locals low_at v caller l l' law at (omega arith, inl (omega arith)) refl (record { cells = refl; seen_slot = refl; seen_offer = refl })
      (tickets_framed instance history locals caller l l' law.tickets at refl refl)
      (fronts_up instance history words words' locals caller l l' law.fronts at dur left.low (omega (arith, free))
      (behind_up instance history words words' l'
      (behind_kept instance history history words words l l' (law.fronts.each caller l at) (omega arith) (record { dur = refl; low = refl; free = refl })
      (record { front = refl; floor = refl; seen_cur = refl; seen_free = refl; seen_low = refl; raised = refl; won = refl }))
      dur left.low (omega (arith, free))))
      (ring_put instance words words' locals caller l l' law.shape law.ring at left
      (subst (λ f. KeepsConfirmed f locals) (sym free) confirmed_kept)
      (same_confirmed words l l' refl)
      (record {
        need = other (need_at caller) (omega arith) ∙ mine.need;
        kept = λ p is. subst (λ f. f ≤ p) (sym free) (mine.kept p is);
        scan = λ s is. subst (ScanStands instance words' (set locals caller l')) (same_Some new s is) (record {
          bound = omega arith;
          closed = omega (arith, low);
          next = omega arith;
          passed = λ d x there before. absurd (omega arith);
        });
      }))

  pub scan_kept : (d : ℕ) → Guard instance scene (Scan d) l → Kept (Scan d)
  scan_kept d guard =
      let words = scene.words in
      let l' = local_after instance scene (Scan d) l in
      let found = slice_index words (need_at d) in
      let mine = law.ring.each caller l at in
      let same = same_confirmed words l l' refl in
      let parts = scan_parts d l.scan guard.1 in
      let on = scanned_stands instance words locals d parts.0 law.ring parts.2 guard.0 (mine.scan parts.0 parts.1) in
      queue_loaded instance history words locals (need_at d) caller l l' law at refl (record { own = refl; answered = refl }) refl (cells_local instance history words locals caller l l' law.cells at refl refl (law.cells.seen caller l at))
      (behind_kept instance history history words words l l' (law.fronts.each caller l at) (omega arith) (record { dur = refl; low = refl; free = refl })
      (record { front = refl; floor = refl; seen_cur = refl; seen_free = refl; seen_low = refl; raised = refl; won = refl }))
      (ring_put instance words words locals caller l l' law.shape law.ring at
      (record { closed = law.ring.closed; current = law.ring.current; low = omega arith; needs = λ _ _ _. refl })
      confirmed_kept same
      (record {
        need = mine.need;
        kept = mine.kept;
        scan = λ s is. subst (ScanStands instance words (set locals caller l')) (same_Some (scanned_on d found parts.0) s (sym (ap (scan_after d found) parts.1) ∙ is))
            (scan_still instance words words locals caller l l' (scanned_on d found parts.0) at (omega arith) same on);
      }))

  pub open_free_kept : Guard instance scene OpenFree l → Kept OpenFree
  open_free_kept guard =
      let words = scene.words in
      let l' = local_after instance scene OpenFree l in
      let v = max (slice_index words free_at) (bound_in l.scan) in
      let words' = set words free_at v in
      let some = law.shape.some in
      let mine = law.ring.each caller l at in
      let parts = scan_parts instance.callers l.scan guard in
      let stands = mine.scan parts.0 parts.1 in
      let bound : bound_in l.scan ≡ parts.0.bound = ap bound_in parts.1 in
      let other : (k : ℕ) → k ≢ free_at → slice_index words' k ≡ slice_index words k = λ k ne. get_or-set_other words free_at k v 0 ne in
      let cur = other cur_at (omega arith) in
      let dur = other dur_at (omega arith) in
      let low = other low_at (omega arith) in
      let free : slice_index words' free_at ≡ v = get_or-set_same words free_at v 0 (omega (arith, law.shape.long)) in
      let up : slice_index words free_at ≤ slice_index words' free_at = omega arith in
      let left : RingStands instance words words' caller = record {
        closed = omega (arith, law.ring.closed, stands.bound, stands.closed);
        current = rw (low, cur) law.ring.current;
        low = omega arith;
        needs = λ d _ _. other (need_at d) (omega arith);
      } in
      let kept : KeepsConfirmed (slice_index words' free_at) locals = λ d x there p is. (
      let w = slice_get_within locals d x there in
      let passed = stands.passed d x there (omega (arith, w, law.shape.count, parts.2)) p is in
      omega (arith, passed, confirmed_kept d x there p is)) in
      let fronts = law.fronts.each caller l at in
      let unopened = behind_kept instance history history words words l (record l' { seen_free = l.seen_free }) fronts (omega arith) (record { dur = refl; low = refl; free = refl })
      (record { front = refl; floor = refl; seen_cur = refl; seen_free = refl; seen_low = refl; raised = refl; won = refl }) in
      let behind = behind_up instance history words words' (record l' { seen_free = l.seen_free }) unopened dur left.low up in
      record {
        shape = shape_kept instance words locals free_at v caller l l' law.shape at (shape_same caller l l' (law.shape.each caller l at) refl refl);
        tickets = tickets_framed instance history locals caller l l' law.tickets at refl refl;
        links = links_framed instance history words free_at v law.links (inl (omega arith));
        cells = cells_up instance history words locals free_at v caller l l' law.cells law.shape at up (inl (omega arith)) (record { cells = refl; seen_slot = refl; seen_offer = refl });
        fronts = fronts_up instance history words words' locals caller l l' law.fronts at dur left.low up (record {
          from = behind.from;
          to = behind.to;
          floor = behind.floor;
          cur = behind.cur;
          free = rw free (omega (arith, fronts.free));
          low = behind.low;
          raised = behind.raised;
          floor_dur = behind.floor_dur;
          floor_cur = behind.floor_cur;
          won = behind.won;
        });
        ring = ring_put instance words words' locals caller l l' law.shape law.ring at left kept (same_confirmed words l l' refl) (record {
          need = other (need_at caller) (omega arith) ∙ mine.need;
          kept = kept caller l at;
          scan = λ s is. absurd (cc);
        });
      }
