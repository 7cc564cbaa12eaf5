-- Each step of a caller is counted.
use Rattle.std.proofs.Common.{◌≡◌, ◌+◌, ◌==◌, ◌≤◌, inl, inr, ℕ, min, nat_lt, Bool, cond, true, false, List, [], ◌∷◌, None, Some, set, refl, ap, sym, subst, ◌∙◌, arith}
use Rattle.std.proofs.lemmas.Bool.{cases_eq, eq-eqb, ne_eqb}
use Rattle.std.proofs.lemmas.Option.{same_Some, slice_get_within}
use Rattle.std.specs.List.{slice_get}
use Rattle.cx_core.specs.declared.kinds.Event.{Event}
use Rattle.cx_core.specs.declared.kinds.Kind.{Kind}
use Rattle.cx_core.specs.declared.kinds.Kind.TheVariants.{Link, TryExclusive, TryShared, BackOff, Publish}
use Rattle.cx_core.specs.declared.local.Local.{Local}
use Rattle.cx_core.specs.Events.{Makes, Run, local_after, next}
use Rattle.cx_core.specs.Layout.{max_word}
use Rattle.cx_core.specs.LockEvents.{exclusive_mark, passing, refused_by, shared_by, taken}
use Rattle.cx_core.specs.Merge.{scene_of}
use Rattle.cx_core.specs.QueueEvents.{linked, lost, seen_word}
use Rattle.cx_core.specs.Rights.{is_at, shared_on}
use Rattle.cx_core.specs.RootEvents.{outrun, published}
use Rattle.cx_core.specs.State.{Instance, Scene, State, one_more}
use Rattle.cx_core.proofs.ListLemmas.{slice_get-set_other, slice_get-set_same}
use Rattle.cx_core.proofs.Putting.{either}
use Rattle.core_runs.specs.Counting.{steps_of}

-- a step is counted
abbrev Counts : Local → Local → Type 0
Counts l l' = l'.steps ≡ one_more l.steps

counts_next : (instance : Instance) (scene : Scene) (kind : Kind) (l : Local) (found : ℕ) → Counts l (next instance scene kind l found)
counts_next instance scene (Link j) l found = either (Counts l) (found == seen_word l.seen_slot) (linked l j) (lost instance.callers l found) refl refl
counts_next instance scene (TryExclusive r) l found = either (Counts l) (found == 0) (taken instance scene r l) (refused_by instance.callers r l found) refl refl
counts_next instance scene (TryShared r) l found = either (Counts l) (nat_lt found exclusive_mark) (shared_by r l found) (passing instance.callers r l found) refl refl
counts_next instance scene (BackOff r) l found =
    let a = record l { shared = None; steps = one_more l.steps } in
    let b = record l { passer = None; steps = one_more l.steps } in
    let c = record l { downgraded = None; steps = one_more l.steps } in
    either (Counts l) (is_at r (shared_on l)) a (cond (is_at r l.passer) b c) refl (either (Counts l) (is_at r l.passer) b c refl refl)
counts_next instance scene Publish l found = either (Counts l) (found == l.seen_cur) (published instance.callers l) (outrun instance.callers l found) refl refl
counts_next instance scene kind l found = refl

-- the local state after an event, by whether it is the caller's
record After (after : State) (caller steps : ℕ) : Type 0 where
  local : Local
  of_caller : slice_get after.locals caller ≡ Some local
  counted : local.steps ≡ steps

counts_event : (instance : Instance) (event : Event) (before after : State) (caller : ℕ) (l : Local) → Makes instance event before after → slice_get before.locals caller ≡ Some l →
    After after caller (cond (event.caller == caller) (one_more l.steps) l.steps)
counts_event instance event before after caller l m there =
    let l' = local_after instance (scene_of instance before) event.kind m.local in
    let turn = λ (x : Local) (at : slice_get (set before.locals event.caller l') caller ≡ Some x). ap (λ ls. slice_get ls caller) m.locals ∙ at in
    elim (cases_eq event.caller caller) [
      | inl e ↦ (
          let mine : m.local ≡ l = same_Some m.local l (sym m.of_caller ∙ ap (slice_get before.locals) e ∙ there) in
          let within = slice_get_within before.locals event.caller m.local m.of_caller in
          record {
            local = l';
            of_caller = turn l' (ap (slice_get (set before.locals event.caller l')) (sym e) ∙ slice_get-set_same before.locals event.caller l' within);
            counted = counts_next instance (scene_of instance before) event.kind m.local _ ∙ ap (λ (x : Local). one_more x.steps) mine ∙ ap (λ b. cond b (one_more l.steps) l.steps) (sym (eq-eqb event.caller caller e));
          })
      | inr ne ↦ record {
        local = l;
        of_caller = turn l (slice_get-set_other before.locals event.caller caller l' (λ e. ne (sym e)) ∙ there);
        counted = ap (λ b. cond b (one_more l.steps) l.steps) (sym (ne_eqb event.caller caller ne));
      }
    ]

one_more_first : (b : Bool) (steps rest : ℕ) → steps ≤ max_word → min (cond b (one_more steps) steps + rest) max_word ≡ min (steps + cond b (rest + 1) rest) max_word
one_more_first true steps rest small = omega (arith, small)
one_more_first false steps rest small = refl

still_small : (b : Bool) (steps : ℕ) → steps ≤ max_word → cond b (one_more steps) steps ≤ max_word
still_small true steps small = omega (arith, small)
still_small false steps small = small

pub counts_run : (instance : Instance) (from : State) (events : List Event) (to : State) (caller : ℕ) (l l' : Local) → Run instance from events to → slice_get from.locals caller ≡ Some l → slice_get to.locals caller ≡ Some l' →
    l.steps ≤ max_word → l'.steps ≡ min (l.steps + steps_of caller events) max_word
counts_run instance from [] to caller l l' run at at' small =
    let same : l ≡ l' = same_Some l l' (sym at ∙ ap (λ (s : State). slice_get s.locals caller) (sym run) ∙ at') in
    let steps = ap (λ (x : Local). x.steps) same in
    omega (arith, steps, small)
counts_run instance from (event ∷ events) to caller l l' run at at' small =
    let one = counts_event instance event from run.0 caller l run.1 at in
    let b = event.caller == caller in
    let small' : one.local.steps ≤ max_word = subst (λ n. n ≤ max_word) (sym one.counted) (still_small b l.steps small) in
    let rest = counts_run instance run.0 events to caller one.local l' run.2 one.of_caller at' small' in
    rest ∙ ap (λ n. min (n + steps_of caller events) max_word) one.counted ∙ one_more_first b l.steps (steps_of caller events) small
