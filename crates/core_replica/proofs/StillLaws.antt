-- No step takes an answer back.
use Rattle.std.proofs.Common.{◌≡◌, ◌+◌, ◌==◌, inl, inr, ℕ, nat_lt, cond, List, [], ◌∷◌, Some, None, length, set, ap, sym, subst, ◌∙◌, arith}
use Rattle.std.proofs.lemmas.Bool.{cases_eq}
use Rattle.std.proofs.lemmas.Option.{same_Some, slice_get_within}
use Rattle.std.specs.List.{slice_get}
use Rattle.cx_base.specs.Codes.{root_place_of}
use Rattle.cx_core.specs.declared.kinds.Event.{Event}
use Rattle.cx_core.specs.declared.kinds.Kind.{Kind}
use Rattle.cx_core.specs.declared.kinds.Kind.TheVariants.{Link, TryExclusive, TryShared, BackOff, Publish, Raise}
use Rattle.cx_core.specs.declared.local.Local.{Local}
use Rattle.cx_core.specs.Events.{Makes, Run, local_after, next}
use Rattle.cx_core.specs.LockEvents.{exclusive_mark, passing, refused_by, shared_by, taken}
use Rattle.cx_core.specs.Merge.{scene_of}
use Rattle.cx_core.specs.QueueEvents.{linked, lost, seen_word}
use Rattle.cx_core.specs.Rights.{is_at, shared_on}
use Rattle.cx_core.specs.RootEvents.{answers_below, outrun, published, reads_at, unanswered}
use Rattle.cx_core.specs.State.{Instance, Scene, State, one_more}
use Rattle.cx_core.proofs.ListLemmas.{slice_get-append_left, slice_get-set_other, slice_get-set_same}
use Rattle.cx_core.proofs.Putting.{either}
use Rattle.core_replica.specs.Replies.{HasAnswersOf, StillAnswered}
use Rattle.core_replica.proofs.RaiseLaws.{floor_up}

has_next : (instance : Instance) (scene : Scene) (kind : Kind) (l : Local) (found : ℕ) → HasAnswersOf l (next instance scene kind l found)
has_next instance scene (Link j) l found =
    either (HasAnswersOf l) (found == seen_word l.seen_slot) (linked l j) (lost instance.callers l found) (record { answered = λ _ _ there. there; reads = λ _ _ there. there; floor = omega arith }) (record { answered = λ _ _ there. there; reads = λ _ _ there. there; floor = omega arith })
has_next instance scene (TryExclusive r) l found =
    either (HasAnswersOf l) (found == 0) (taken instance scene r l) (refused_by instance.callers r l found) (record { answered = λ _ _ there. there; reads = λ _ _ there. there; floor = omega arith }) (record { answered = λ _ _ there. there; reads = λ _ _ there. there; floor = omega arith })
has_next instance scene (TryShared r) l found =
    either (HasAnswersOf l) (nat_lt found exclusive_mark) (shared_by r l found) (passing instance.callers r l found) (record { answered = λ _ _ there. there; reads = λ _ _ there. there; floor = omega arith }) (record { answered = λ _ _ there. there; reads = λ _ _ there. there; floor = omega arith })
has_next instance scene (BackOff r) l found =
    let a = record l { shared = None; steps = one_more l.steps } in
    let b = record l { passer = None; steps = one_more l.steps } in
    let c = record l { downgraded = None; steps = one_more l.steps } in
    either (HasAnswersOf l) (is_at r (shared_on l)) a (cond (is_at r l.passer) b c) (record { answered = λ _ _ there. there; reads = λ _ _ there. there; floor = omega arith })
    (either (HasAnswersOf l) (is_at r l.passer) b c (record { answered = λ _ _ there. there; reads = λ _ _ there. there; floor = omega arith }) (record { answered = λ _ _ there. there; reads = λ _ _ there. there; floor = omega arith }))
has_next instance scene Publish l found =
    either (HasAnswersOf l) (found == l.seen_cur) (published instance.callers l) (outrun instance.callers l found) (record { answered = λ _ _ there. there; reads = λ _ _ there. there; floor = omega arith }) (record { answered = λ _ _ there. there; reads = λ _ _ there. there; floor = omega arith })
has_next instance scene (Raise code read) l found =
    let place = root_place_of instance.callers code in
    let answers = answers_below instance scene.history place (unanswered l) in
    let reads = reads_at instance scene.history place (length l.answered + length answers) read in
    record {
      answered = λ i x there. slice_get-append_left l.answered answers i x there;
      reads = λ i x there. slice_get-append_left l.seen_reads reads i x there;
      floor = floor_up l.floor place answers reads;
    }
has_next instance scene kind l found = record { answered = λ _ _ there. there; reads = λ _ _ there. there; floor = omega arith }

has_event : (instance : Instance) (event : Event) (before after : State) (caller : ℕ) (l : Local) → Makes instance event before after → slice_get before.locals caller ≡ Some l → StillAnswered after caller l
has_event instance event before after caller l m there =
    let l' = local_after instance (scene_of instance before) event.kind m.local in
    let turn = λ (x : Local) (at : slice_get (set before.locals event.caller l') caller ≡ Some x). ap (λ ls. slice_get ls caller) m.locals ∙ at in
    elim (cases_eq caller event.caller) [
      | inl e ↦ (
          let mine : m.local ≡ l = same_Some m.local l (sym m.of_caller ∙ ap (slice_get before.locals) (sym e) ∙ there) in
          let within = slice_get_within before.locals event.caller m.local m.of_caller in
          record {
            local = l';
            of_caller = turn l' (ap (slice_get (set before.locals event.caller l')) e ∙ slice_get-set_same before.locals event.caller l' within);
            has = subst (λ x. HasAnswersOf x l') mine (has_next instance (scene_of instance before) event.kind m.local _);
          })
      | inr ne ↦ record { local = l; of_caller = turn l (slice_get-set_other before.locals event.caller caller l' ne ∙ there); has = record { answered = λ _ _ there. there; reads = λ _ _ there. there; floor = omega arith } }
    ]

-- nor does a run
pub has_run : (instance : Instance) (events : List Event) (from to : State) (caller : ℕ) (l : Local) → Run instance from events to → slice_get from.locals caller ≡ Some l → StillAnswered to caller l
has_run instance [] from to caller l run there = record { local = l; of_caller = ap (λ (s : State). slice_get s.locals caller) run ∙ there; has = record { answered = λ _ _ there. there; reads = λ _ _ there. there; floor = omega arith } }
has_run instance (event ∷ events) from to caller l run there =
    let one = has_event instance event from run.0 caller l run.1 there in
    let rest = has_run instance events run.0 to caller one.local run.2 one.of_caller in
    record {
      local = rest.local;
      of_caller = rest.of_caller;
      has = record {
        answered = λ i x item. rest.has.answered i x (one.has.answered i x item);
        reads = λ i x item. rest.has.reads i x (one.has.reads i x item);
        floor = omega (arith, one.has.floor, rest.has.floor);
      };
    }
