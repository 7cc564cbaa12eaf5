-- What a caller reads from a moment on at which what it saw of CUR was not fresh: nothing below the place that was durable then.
use Rattle.std.proofs.Common.{◌≡◌, ◌==◌, ◌≤◌, ◌⊎◌, inl, inr, ℕ, nat_lt, Bool, cond, true, false, List, [], ◌∷◌, Some, None, set, slice_index, refl, ap, sym, subst, ◌∙◌, arith}
use Rattle.std.proofs.lemmas.Bool.{cases_eq, false≢true}
use Rattle.std.proofs.lemmas.List.{append-nil}
use Rattle.std.proofs.lemmas.Option.{same_Some, slice_get_within}
use Rattle.std.specs.List.{slice_get}
use Rattle.cx_base.specs.Codes.{root_place_of}
use Rattle.cx_core.specs.declared.kinds.Event.{Event}
use Rattle.cx_core.specs.declared.kinds.Kind.{Kind}
use Rattle.cx_core.specs.declared.kinds.Kind.TheVariants.{Confirm, Link, LoadCur, LoadWord, TryExclusive, TryShared, BackOff, Publish, Raise, OpenFree, WriteCell}
use Rattle.cx_core.specs.declared.local.Local.{Local}
use Rattle.cx_core.specs.declared.local.SeenRead.{SeenRead}
use Rattle.cx_core.specs.Events.{Guard, Makes, Run, found_by, local_after}
use Rattle.cx_core.specs.Lawful.{Lawful}
use Rattle.cx_core.specs.LawfulAnswers.{durable_place}
use Rattle.cx_core.specs.Layout.{cur_at, dur_at}
use Rattle.cx_core.specs.LockEvents.{exclusive_mark, is_fresh_on, passing, refused_by, shared_by, taken}
use Rattle.cx_core.specs.Merge.{scene_of}
use Rattle.cx_core.specs.QueueEvents.{linked, lost, seen_word}
use Rattle.cx_core.specs.Rights.{is_at, shared_on}
use Rattle.cx_core.specs.RingEvents.{shows_outdated}
use Rattle.cx_core.specs.RootEvents.{outrun, published}
use Rattle.cx_core.specs.State.{Instance, Scene, State, one_more}
use Rattle.cx_core.proofs.ListLemmas.{slice_get-set_other, slice_get-set_same}
use Rattle.cx_core.proofs.Locals.{slice_get-push}
use Rattle.cx_core.proofs.Putting.{either}
use Rattle.cx_core.proofs.RootCodes.{place_up}
use Rattle.core_runs.proofs.Going.{durable_event}
use Rattle.core_runs.proofs.Keeps.{bounds_of, event_kept}

-- a code that is fresh is not below the place, nor is a read that is not among the first n
pub record Since (callers place n : ℕ) (l : Local) : Type 0 where
  pub code : (l.fresh ≡ false) ⊎ (place ≤ root_place_of callers l.seen_cur)
  pub reads : (i : ℕ) (x : SeenRead) → slice_get l.seen_reads i ≡ Some x → n ≤ i → place ≤ x.place

-- the part of `Since` on the code holds also where `l` has the code still, and the code is not fresh any more (`b`) or as fresh as before
module _ (callers place n : ℕ) (l : Local) (old : Since callers place n l) where
  ended : (b : Bool) → (cond b false l.fresh ≡ false) ⊎ (place ≤ root_place_of callers l.seen_cur)
  ended true = inl refl
  ended false = old.code

since_next : (instance : Instance) (scene : Scene) (kind : Kind) (l : Local) (place n : ℕ) → Guard instance scene kind l → place ≤ root_place_of instance.callers (slice_index scene.words cur_at) → Since instance.callers place n l →
    Since instance.callers place n (local_after instance scene kind l)
since_next instance scene (WriteCell j i v) l place n guard cur old = record { code = inl refl; reads = old.reads }
since_next instance scene (Link j) l place n guard cur old =
    let found = found_by instance (Link j) l scene.words in
    either (Since instance.callers place n) (found == seen_word l.seen_slot) (linked l j) (lost instance.callers l found) (record { code = old.code; reads = old.reads }) (record { code = old.code; reads = old.reads })
since_next instance scene (TryExclusive r) l place n guard cur old =
    let found = found_by instance (TryExclusive r) l scene.words in
    either (Since instance.callers place n) (found == 0) (taken instance scene r l) (refused_by instance.callers r l found) (record { code = old.code; reads = old.reads }) (record { code = old.code; reads = old.reads })
since_next instance scene (TryShared r) l place n guard cur old =
    let found = found_by instance (TryShared r) l scene.words in
    either (Since instance.callers place n) (nat_lt found exclusive_mark) (shared_by r l found) (passing instance.callers r l found)
    (record { code = old.code; reads = old.reads }) (record { code = ended instance.callers place n l old (is_fresh_on instance.callers r l); reads = old.reads })
since_next instance scene (BackOff r) l place n guard cur old =
    let a = record l { shared = None; steps = one_more l.steps } in
    let b = record l { passer = None; steps = one_more l.steps } in
    let c = record l { downgraded = None; steps = one_more l.steps } in
    either (Since instance.callers place n) (is_at r (shared_on l)) a (cond (is_at r l.passer) b c) (record { code = old.code; reads = old.reads })
    (either (Since instance.callers place n) (is_at r l.passer) b c (record { code = old.code; reads = old.reads }) (record { code = old.code; reads = old.reads }))
since_next instance scene (LoadWord r i refused) l place n guard cur old = record { code = ended instance.callers place n l old refused; reads = old.reads }
since_next instance scene LoadCur l place n guard cur old = record { code = inr cur; reads = old.reads }
since_next instance scene Publish l place n guard cur old =
    let found = found_by instance Publish l scene.words in
    either (Since instance.callers place n) (found == l.seen_cur) (published instance.callers l) (outrun instance.callers l found) (record { code = inl refl; reads = old.reads }) (record { code = inl refl; reads = old.reads })
since_next instance scene (Raise code None) l place n guard cur old = record { code = inl refl; reads = λ i x at. old.reads i x (subst (λ (xs : List SeenRead). slice_get xs i ≡ Some x) (append-nil l.seen_reads) at) }
since_next instance scene (Raise code (Some op)) l place n guard cur old = record {
  code = inl refl;
  reads = λ i x at past. elim (slice_get-push l.seen_reads _ i x at) [
    | inl was ↦ old.reads i x was past
    | inr new ↦ (
        let here : place ≤ root_place_of instance.callers l.seen_cur = elim old.code [ inl stale ↦ absurd (false≢true (sym stale ∙ guard.1.2)) | inr fresh ↦ fresh ] in
        let is : root_place_of instance.callers code ≡ root_place_of instance.callers l.seen_cur = ap (root_place_of instance.callers) guard.1.1 in
        let placed : root_place_of instance.callers code ≡ x.place = ap (λ (r : SeenRead). r.place) new.1 in
        omega arith)
  ];
}
since_next instance scene Confirm l place n guard cur old =
    record { code = ended instance.callers place n l old (shows_outdated instance.callers l (found_by instance Confirm l scene.words) l.protection); reads = old.reads }
since_next instance scene OpenFree l place n guard cur old = record { code = inl refl; reads = old.reads }
since_next instance scene kind l place n guard cur old = record { code = old.code; reads = old.reads }

-- in a state a caller has a local state of which `Since` holds
pub record SinceIn (callers place n : ℕ) (s : State) (caller : ℕ) : Type 0 where
  pub local : Local
  pub of_caller : slice_get s.locals caller ≡ Some local
  pub since : Since callers place n local

since_event : (instance : Instance) (event : Event) (before after : State) (caller place n : ℕ) → Lawful instance before → Makes instance event before after → place ≤ durable_place instance before.words →
    SinceIn instance.callers place n before caller → SinceIn instance.callers place n after caller
since_event instance event before after caller place n law m durable old =
    let scene = scene_of instance before in
    let l' = local_after instance scene event.kind m.local in
    let turn = λ (x : Local) (at : slice_get (set before.locals event.caller l') caller ≡ Some x). ap (λ ls. slice_get ls caller) m.locals ∙ at in
    let cur : place ≤ root_place_of instance.callers (slice_index before.words cur_at) =
    omega (arith, durable, place_up instance.callers (slice_index before.words dur_at) (slice_index before.words cur_at) law.shape.some (bounds_of instance before law).dur) in
    elim (cases_eq caller event.caller) [
      | inl e ↦ (
          let mine : old.local ≡ m.local = same_Some old.local m.local (sym old.of_caller ∙ ap (slice_get before.locals) e ∙ m.of_caller) in
          let within = slice_get_within before.locals event.caller m.local m.of_caller in
          record {
            local = l';
            of_caller = turn l' (ap (slice_get (set before.locals event.caller l')) e ∙ slice_get-set_same before.locals event.caller l' within);
            since = since_next instance scene event.kind m.local place n m.guard cur (subst (Since instance.callers place n) mine old.since);
          })
      | inr ne ↦ record { local = old.local; of_caller = turn old.local (slice_get-set_other before.locals event.caller caller l' ne ∙ old.of_caller); since = old.since }
    ]

-- `SinceIn` stays along a run from a state in which DUR is at the place or above
pub since_run : (instance : Instance) (from : State) (events : List Event) (to : State) (caller place n : ℕ) → Lawful instance from → Run instance from events to → place ≤ durable_place instance from.words →
    SinceIn instance.callers place n from caller → SinceIn instance.callers place n to caller
since_run instance from [] to caller place n law run durable old = subst (λ (s : State). SinceIn instance.callers place n s caller) (sym run) old
since_run instance from (event ∷ events) to caller place n law run durable old =
    since_run instance run.0 events to caller place n (event_kept instance event from run.0 law run.1) run.2
    (omega (arith, durable, durable_event instance event from run.0 law run.1))
    (since_event instance event from run.0 caller place n law run.1 durable old)
