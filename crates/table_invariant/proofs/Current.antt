-- How a step moves what its caller has seen of CUR, and what everyone was answered before it.
use Rattle.std.proofs.Common.{◌≡◌, ◌==◌, ◌≤◌, inl, inr, ℕ, nat_lt, cond, true, false, [], ◌∷◌, Some, None, length, slice_index, refl, ap, sym, subst, ◌∙◌, arith}
use Rattle.std.proofs.lemmas.Bool.{false≢true}
use Rattle.std.proofs.lemmas.Option.{same_Some, slice_get_within}
use Rattle.std.specs.List.{slice_get}
use Rattle.cx_base.specs.Codes.{root_place_of}
use Rattle.cx_core.specs.declared.kinds.Event.{Event}
use Rattle.cx_core.specs.declared.kinds.Kind.{Kind}
use Rattle.cx_core.specs.declared.kinds.Kind.TheVariants.{Link, LoadCur, TryExclusive, TryShared, BackOff, Publish}
use Rattle.cx_core.specs.declared.local.Local.{Local}
use Rattle.cx_core.specs.Events.{Guard, Makes, found_by, local_after}
use Rattle.cx_core.specs.Lawful.{Lawful}
use Rattle.cx_core.specs.LawfulAnswers.{durable_place}
use Rattle.cx_core.specs.LawfulRoot.{WithinRoot}
use Rattle.cx_core.specs.Layout.{cur_at, dur_at}
use Rattle.cx_core.specs.LockEvents.{exclusive_mark, passing, refused_by, shared_by, taken}
use Rattle.cx_core.specs.Merge.{scene_of}
use Rattle.cx_core.specs.QueueEvents.{linked, lost, seen_word}
use Rattle.cx_core.specs.Rights.{is_at, shared_on}
use Rattle.cx_core.specs.RootEvents.{code_in, outrun, published}
use Rattle.cx_core.specs.State.{Instance, Scene, State, one_more}
use Rattle.cx_core.proofs.Putting.{either}
use Rattle.cx_core.proofs.RootCodes.{above_parts, code_place, place_up}
use Rattle.core_runs.proofs.Going.{durable_event}
use Rattle.core_runs.proofs.Keeps.{bounds_of}
use Rattle.core_runs.proofs.Since.{since_run}
use Rattle.table_invariant.specs.Timing.{AllBelow}

-- A step of a caller, by which its local state becomes another one: what it has seen of CUR is at no lower place. Where it was not fresh and is, that is
-- above all that anyone was answered before; and what it had raised DUR by is durable.
pub record MovesOn (instance : Instance) (state state' : State) (l l' : Local) : Type 0 where
  pub rises : root_place_of instance.callers l.seen_cur ≤ root_place_of instance.callers l'.seen_cur
  pub finds : l.fresh ≡ false → l'.fresh ≡ true → durable_place instance state.words ≤ root_place_of instance.callers l'.seen_cur
  pub answered : AllBelow (durable_place instance state.words) state
  pub raised : root_place_of instance.callers l.raised ≤ durable_place instance state'.words

module _ (instance : Instance) where
  abbrev place_seen : Local → ℕ
  place_seen l = root_place_of instance.callers l.seen_cur

  -- what a caller has seen of CUR rises in place
  seen_rises : (scene : Scene) (kind : Kind) (l : Local) (end_ : ℕ) → 1 ≤ instance.callers → Guard instance scene kind l → WithinRoot instance end_ (slice_index scene.words cur_at) l → place_seen l ≤ place_seen (local_after instance scene kind l)
  seen_rises scene LoadCur l end_ some guard within = place_up instance.callers l.seen_cur (slice_index scene.words cur_at) some within.seen
  seen_rises scene Publish l end_ some guard within =
      let found = found_by instance Publish l scene.words in
      let p = above_parts instance.callers l.seen_cur l.downgraded guard.0 in
      let small = within.replica p.0 p.1 in
      let placed : root_place_of instance.callers (code_in instance.callers l.downgraded) ≡ p.0.place = ap (λ o. root_place_of instance.callers (code_in instance.callers o)) p.1 ∙ code_place instance.callers p.0.place p.0.replica small in
      let above = p.2 in
      either (λ (x : Local). place_seen l ≤ place_seen x) (found == l.seen_cur) (published instance.callers l) (outrun instance.callers l found) (omega (arith, placed, above)) (place_up instance.callers l.seen_cur (slice_index scene.words cur_at) some within.seen)
  seen_rises scene (Link j) l end_ some guard within =
      let found = found_by instance (Link j) l scene.words in
      either (λ (x : Local). place_seen l ≤ place_seen x) (found == seen_word l.seen_slot) (linked l j) (lost instance.callers l found) (omega arith) (omega arith)
  seen_rises scene (TryExclusive r) l end_ some guard within =
      let found = found_by instance (TryExclusive r) l scene.words in
      either (λ (x : Local). place_seen l ≤ place_seen x) (found == 0) (taken instance scene r l) (refused_by instance.callers r l found) (omega arith) (omega arith)
  seen_rises scene (TryShared r) l end_ some guard within =
      let found = found_by instance (TryShared r) l scene.words in
      either (λ (x : Local). place_seen l ≤ place_seen x) (nat_lt found exclusive_mark) (shared_by r l found) (passing instance.callers r l found) (omega arith) (omega arith)
  seen_rises scene (BackOff r) l end_ some guard within =
      let a = record l { shared = None; steps = one_more l.steps } in
      let b = record l { passer = None; steps = one_more l.steps } in
      let c = record l { downgraded = None; steps = one_more l.steps } in
      either (λ (x : Local). place_seen l ≤ place_seen x) (is_at r (shared_on l)) a (cond (is_at r l.passer) b c) (omega arith)
      (either (λ (x : Local). place_seen l ≤ place_seen x) (is_at r l.passer) b c (omega arith) (omega arith))
  seen_rises scene kind l end_ some guard within = omega arith

  -- all that anyone was answered is durable
  answered_durable : (s : State) → Lawful instance s → AllBelow (durable_place instance s.words) s
  answered_durable s law c l at = (let all = law.answers.each c l at in (λ i x there. (all.entries i x there).durable, λ i x there. (all.reads i x there).durable))

  pub moves_on : (event : Event) (state state' : State) (caller : ℕ) (l l' : Local) → Lawful instance state → slice_get state.locals caller ≡ Some l → slice_get state'.locals caller ≡ Some l' →
      local_after instance (scene_of instance state) event.kind l ≡ l' → (makes : Makes instance event state state') → makes.local ≡ l → event.caller ≡ caller → MovesOn instance state state' l l'
  moves_on event state state' caller l l' law here there is makes mine own =
      let scene = scene_of instance state in
      let bounds = (bounds_of instance state law).each caller l here in
      let raised = place_up instance.callers l.raised (slice_index state.words dur_at) law.shape.some (law.fronts.each caller l here).raised in
      let on = durable_event instance event state state' law makes in
      record {
        rises = subst (λ (x : Local). place_seen l ≤ place_seen x) is (seen_rises scene event.kind l _ law.shape.some (subst (Guard instance scene event.kind) mine makes.guard) bounds);
        finds = λ stale fresh. (
            let since = since_run instance state (event ∷ []) state' caller (durable_place instance state.words) (length l.seen_reads) law (state', makes, refl) (omega arith)
            (record { local = l; of_caller = here; since = record { code = inl stale; reads = λ i x at past. (let within = slice_get_within l.seen_reads i x at in absurd (omega (arith, within, past))) } }) in
            let same : since.local ≡ l' = same_Some since.local l' (sym since.of_caller ∙ there) in
            elim since.since.code [
              | inl none ↦ absurd (false≢true (sym none ∙ ap (λ (x : Local). x.fresh) same ∙ fresh))
              | inr up ↦ subst (λ (x : Local). durable_place instance state.words ≤ place_seen x) same up
            ]);
        answered = answered_durable state law;
        raised = omega (arith, raised, on);
      }
