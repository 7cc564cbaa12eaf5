-- The steps on the root keep the parts on tickets, links, cells, fronts and the ring.
use Rattle.std.proofs.Common.{◌≡◌, ◌+◌, ◌*◌, ◌==◌, ◌≤◌, inl, inr, ℕ, max, Bool, cond, List, Option, length, set, slice_index, refl, ap, sym, subst, ◌∙◌, arith, Some}
use Rattle.std.proofs.lemmas.Bool.{cases_Bool, eqb-true}
use Rattle.std.proofs.lemmas.Nat.{div-mul-add, mod_below}
use Rattle.std.proofs.lemmas.Option.{same_Some}
use Rattle.std.specs.List.{slice_get}
use Rattle.cx_base.specs.Codes.{root_code_of, root_place_of}
use Rattle.cx_core.specs.declared.entry.Entry.{Entry}
use Rattle.cx_core.specs.declared.kinds.Kind.{Kind}
use Rattle.cx_core.specs.declared.kinds.Kind.TheVariants.{LoadCur, Publish, Raise, Retire}
use Rattle.cx_core.specs.declared.local.Local.{Local}
use Rattle.cx_core.specs.declared.local.WonCode.{WonCode}
use Rattle.cx_core.specs.Events.{Guard, local_after, step_word, words_after}
use Rattle.cx_core.specs.Layout.{cur_at, dur_at}
use Rattle.cx_core.specs.LawfulRoot.{RootBounds}
use Rattle.cx_core.specs.RootEvents.{before_in, code_in, outrun, published}
use Rattle.cx_core.specs.State.{Instance, Scene}
use Rattle.cx_core.proofs.RootCodes.{above_parts, won_parts}
use Rattle.core_queue.specs.Frames.{SameQueue}
use Rattle.core_queue.specs.Queue.{QueueLawful}
use Rattle.core_queue.proofs.FrontLaws.{fronts_off}
use Rattle.core_queue.proofs.QueueFrames.{off_cells, off_fronts, off_lock, queue_with, same_but}
use Rattle.core_queue.proofs.RingLaws.{ring_current, ring_framed}
use Rattle.core_queue.proofs.RootFronts.{behind_retired, behind_seen, code_above, floor_within, fronts_raised}
use Rattle.core_queue.proofs.TicketLaws.{tickets_framed, tickets_raised}

module _ (instance : Instance) (history : List Entry) (scene : Scene) (locals : List Local) (caller : ℕ) (l : Local)
    (law : QueueLawful instance history scene.words locals) (bounds : RootBounds instance history scene.words locals) (at : slice_get locals caller ≡ Some l) where
  abbrev Kept : Kind → Type 0
  Kept kind = QueueLawful instance history (words_after instance kind l scene.words) (set locals caller (local_after instance scene kind l))

  -- a step that sees a code not below the one before, at a place that is not past the end, and leaves CUR not below what it was
  seen_kept : (v code : ℕ) (l' : Local) → slice_index scene.words cur_at ≤ v → l.seen_cur ≤ code → root_place_of instance.callers code ≤ instance.base.place + length history →
      l'.seen_cur ≡ code → l'.front ≡ max l.front (root_place_of instance.callers code) → ((won : WonCode) → l'.won ≡ Some won → won.code ≤ code) →
      SameQueue l (record l' { front = l.front; seen_cur = l.seen_cur; won = l.won }) → QueueLawful instance history (set scene.words cur_at v) (set locals caller l')
  seen_kept v code l' rises up within seen front won same =
      queue_with instance history scene.words locals cur_at v caller l l' law at (omega arith, inl (omega arith)) same.number
      (record { cells = same.cells.cells; seen_slot = same.cells.seen_slot; seen_offer = same.cells.seen_offer })
      (tickets_framed instance history locals caller l l' law.tickets at same.tickets.own same.tickets.answered)
      (fronts_off instance history scene.words locals cur_at v caller l l' law.fronts at (inr refl)
      (behind_seen instance history scene.words l l' code law.shape.some (law.fronts.each caller l at) up within seen front won same.front))
      (ring_current instance scene.words locals v caller l l' law.shape law.ring at rises (record { protection = same.ring.protection; scan = same.ring.scan }))

  pub load_cur_kept : Kept LoadCur
  load_cur_kept =
      let mine = bounds.each caller l at in
      seen_kept _ (slice_index scene.words cur_at) _ (omega arith) mine.seen bounds.current refl refl mine.won (same_but l _ _ _ _ _ _ _ _ _)

  pub publish_kept : Guard instance scene Publish l → Kept Publish
  publish_kept guard =
      let found = slice_index scene.words cur_at in
      let code = code_in instance.callers l.downgraded in
      let mine = bounds.each caller l at in
      let P : Bool → Type 0 = λ b. QueueLawful instance history (set scene.words cur_at (cond b code found)) (set locals caller (cond b (published instance.callers l) (outrun instance.callers l found))) in
      elim (cases_Bool (found == l.seen_cur)) [
        | inl e ↦ subst P (sym e) (
            let p = above_parts instance.callers l.seen_cur l.downgraded guard.0 in
            let h = p.0 in
            let is : code ≡ root_code_of instance.callers h.place h.replica = ap (code_in instance.callers) p.1 in
            let place : root_place_of instance.callers code ≡ h.place = ap (root_place_of instance.callers) is ∙ div-mul-add h.place (2 * instance.callers) h.replica (mine.replica h p.1) in
            let above = code_above instance.callers l.seen_cur h.place h.replica law.shape.some p.2 in
            let was : found ≡ l.seen_cur = eqb-true found l.seen_cur e in
            seen_kept code code (published instance.callers l) (omega (arith, is, above)) (omega (arith, is, above)) (omega (arith, place, mine.place h p.1)) refl refl
            (λ won has. (let same : code ≡ won.code = ap (λ (x : WonCode). x.code) (same_Some _ won has) in omega arith))
            (same_but l _ _ _ _ _ _ _ _ _))
        | inr e ↦ subst P (sym e) (seen_kept found found (outrun instance.callers l found) (omega arith) mine.seen bounds.current refl refl mine.won (same_but l _ _ _ _ _ _ _ _ _))
      ]

  pub raise_kept : (code : ℕ) (read : Option (List ℕ)) → Guard instance scene (Raise code read) l → Kept (Raise code read)
  raise_kept code read guard =
      let l' = local_after instance scene (Raise code read) l in
      let most : code ≤ l.seen_cur = elim guard.0 [
        | inl e ↦ omega (arith, e)
        | inr is ↦ (let p = won_parts code l.won is in omega (arith, p.2, (law.fronts.each caller l at).won p.0 p.1))
      ] in
      queue_with instance history scene.words locals dur_at _ caller l l' law at (omega arith, inl (omega arith)) refl (record { cells = refl; seen_slot = refl; seen_offer = refl })
      (tickets_raised instance history scene.history locals caller (root_place_of instance.callers code) l l' law.tickets at refl refl)
      (fronts_raised instance history scene.words locals caller code l l' law.shape.some (omega (arith, law.shape.long)) law.fronts at most refl
      (floor_within l.floor (root_place_of instance.callers code) _ _)
      (record { front = refl; floor = refl; seen_cur = refl; seen_free = refl; seen_low = refl; raised = refl; won = refl }))
      (ring_framed instance scene.words locals dur_at _ caller l l' law.shape law.ring at (inl refl) (record { protection = refl; scan = refl }))

  pub retire_kept : Kept Retire
  retire_kept =
      let l' = local_after instance scene Retire l in
      let some = law.shape.some in
      let small = mod_below (before_in l.won) (2 * instance.callers) (omega arith) in
      let off = off_lock instance _ small in
      let same : SameQueue l (record l' { won = l.won }) = same_but l _ _ _ _ _ _ _ _ _ in
      queue_with instance history scene.words locals (step_word instance Retire l) _ caller l l' law at (off_cells instance _ off) refl (record { cells = refl; seen_slot = refl; seen_offer = refl })
      (tickets_framed instance history locals caller l l' law.tickets at refl refl)
      (fronts_off instance history scene.words locals (step_word instance Retire l) _ caller l l' law.fronts at (off_fronts instance _ off)
      (behind_retired instance history scene.words l l' (law.fronts.each caller l at) refl same.front))
      (ring_framed instance scene.words locals (step_word instance Retire l) _ caller l l' law.shape law.ring at (inr off.0) (record { protection = refl; scan = refl }))
