-- What one step leaves: the numbers of the callers, the size of the core, the codes of what is downgraded, and the event that
-- it is.
use Rattle.std.proofs.Common.{◌≡◌, ◌==◌, ◌+◌, ◌*◌, ◌^◌, ◌<◌, ◌≤◌, ◌⊎◌, ⊎_elim, ◌∷◌, zero, suc, arith, ℕ, Bool, true, false, nat_lt, List, [], length, set, refl, ap, sym, subst, ◌∙◌, cond, Result, Ok, Err, inl, inr, IfOk, OnErr, None, Some}
use Rattle.std.proofs.lemmas.Bool.{cases_eq}
use Rattle.std.proofs.lemmas.List.{length-set}
use Rattle.std.proofs.lemmas.Option.{none-some, same_Some, slice_get_within}
use Rattle.std.specs.List.{slice_get}
use Rattle.core_events.specs.Codes.{HasCode, IsSoundCore}
use Rattle.core_events.specs.StepFacts.{Tells}
use Rattle.core_events.specs.declared.events.HistoryFacts.{HistoryFacts}
use Rattle.cx_core.specs.declared.entry.Base.{Base}
use Rattle.cx_core.specs.declared.kinds.Event.{Event}
use Rattle.cx_core.specs.declared.kinds.Kind.{Kind}
use Rattle.cx_core.specs.declared.kinds.Kind.TheVariants.{Link, TryExclusive, TryShared, BackOff, Downgrade, Publish}
use Rattle.cx_core.specs.declared.local.HeldDowngraded.{HeldDowngraded}
use Rattle.cx_core.specs.declared.local.Linked.{Linked}
use Rattle.cx_core.specs.declared.local.Local.{Local}
use Rattle.cx_core.specs.Events.{Allowed, IsMadeOrRefused, Did, Guard, next}
use Rattle.cx_core.specs.LockEvents.{CanGiveUp, downgraded_to, exclusive_mark, passing, refused_by, shared_by, taken}
use Rattle.cx_core.specs.Merge.{scene_of}
use Rattle.cx_core.specs.QueueEvents.{entry_in, linked, lost, seen_word}
use Rattle.cx_core.specs.Region.{place_of}
use Rattle.cx_core.specs.Rights.{held_words, is_at, shared_on}
use Rattle.cx_core.specs.RootEvents.{outrun, published}
use Rattle.cx_core.specs.State.{Core, EachLocal, EachScene, IsWhole, Instance, Scene, State, instance_of, opening_state}
use Rattle.cx_core.proofs.StateLemmas.{opening_at, opening_whole}
use Rattle.cx_core.proofs.ListLemmas.{set_here, slice_get-append, slice_get-set_same, slice_get-set_other}

-- where two local states have a number, the one that is chosen of them has it
either-number : (b : Bool) (x y : Local) (n : ℕ) → x.number ≡ n → y.number ≡ n → (cond b x y).number ≡ n
either-number true x y n p q = p
either-number false x y n p q = q

-- a step leaves its caller's number
pub next-number : (instance : Instance) (scene : Scene) (kind : Kind) (l : Local) (found : ℕ) → (next instance scene kind l found).number ≡ l.number
next-number instance scene (Link j) l found = either-number (found == seen_word l.seen_slot) (linked l j) (lost instance.callers l found) l.number refl refl
next-number instance scene (TryExclusive r) l found = either-number (found == 0) (taken instance scene r l) (refused_by instance.callers r l found) l.number refl refl
next-number instance scene (TryShared r) l found = either-number (nat_lt found exclusive_mark) (shared_by r l found) (passing instance.callers r l found) l.number refl refl
next-number instance scene (BackOff r) l found =
    either-number (is_at r (shared_on l)) _ _ l.number refl (either-number (is_at r l.passer) _ _ l.number refl refl)
next-number instance scene Publish l found = either-number (found == l.seen_cur) (published instance.callers l) (outrun instance.callers l found) l.number refl refl
next-number instance scene kind l found = refl

-- each own entry after a step is from before, or was linked by it
abbrev OwnFrom : Local → Local → Type 0
OwnFrom l l' = (i : ℕ) (x : Linked) → slice_get l'.own i ≡ Some x → (slice_get l.own i ≡ Some x) ⊎ ((x.entry.caller ≡ l.number) × (x.ticket < 2 ^ 40))

own_either : (l : Local) (b : Bool) (x y : Local) → OwnFrom l x → OwnFrom l y → OwnFrom l (cond b x y)
own_either l true x y p q = p
own_either l false x y p q = q

own_linked : (l : Local) (j : ℕ) → l.front < 2 ^ 40 → OwnFrom l (linked l j)
own_linked l j below i x at =
    let new : Linked = record { ticket = l.front; entry = entry_in l j } in
    elim (slice_get-append l.own (new ∷ []) i x at) [
      | inl was ↦ inl was
      | inr now ↦ (
          let is : new ≡ x = only new x now.0 now.2 in
          let small : new.ticket < 2 ^ 40 = below in
          inr (ap (λ (y : Linked). y.entry.caller) (sym is), subst (λ (y : Linked). y.ticket < 2 ^ 40) is small))
    ]
  where
    only : (new x : Linked) (k : ℕ) → slice_get (new ∷ []) k ≡ Some x → new ≡ x
    only new x zero there = same_Some new x there
    only new x (suc k) there = absurd (none-some x there)

own_next : (instance : Instance) (scene : Scene) (kind : Kind) (l : Local) (found : ℕ) → Guard instance scene kind l → OwnFrom l (next instance scene kind l found)
own_next instance scene (Link j) l found guard =
    own_either l (found == seen_word l.seen_slot) (linked l j) (lost instance.callers l found) (own_linked l j guard.3) (λ _ _ at. inl at)
own_next instance scene (TryExclusive r) l found guard = own_either l (found == 0) (taken instance scene r l) (refused_by instance.callers r l found) (λ _ _ at. inl at) (λ _ _ at. inl at)
own_next instance scene (TryShared r) l found guard = own_either l (nat_lt found exclusive_mark) (shared_by r l found) (passing instance.callers r l found) (λ _ _ at. inl at) (λ _ _ at. inl at)
own_next instance scene (BackOff r) l found guard = own_either l (is_at r (shared_on l)) _ _ (λ _ _ at. inl at) (own_either l (is_at r l.passer) _ _ (λ _ _ at. inl at) (λ _ _ at. inl at))
own_next instance scene Publish l found guard = own_either l (found == l.seen_cur) (published instance.callers l) (outrun instance.callers l found) (λ _ _ at. inl at) (λ _ _ at. inl at)
own_next instance scene kind l found guard = λ _ _ at. inl at

-- what is downgraded after a step was so before, or is the full image after its place
code_none : (callers : ℕ) → HasCode callers None
code_none callers h some = absurd (none-some h some)

code_either : (callers : ℕ) (b : Bool) (x y : Local) → HasCode callers x.downgraded → HasCode callers y.downgraded → HasCode callers (cond b x y).downgraded
code_either callers true x y p q = p
code_either callers false x y p q = q

code_given_up : (instance : Instance) (scene : Scene) (r : ℕ) (l : Local) → instance.base.place + length scene.history ≤ 2 ^ 40 → CanGiveUp instance scene r l → HasCode instance.callers (downgraded_to r l).downgraded
code_given_up instance scene r l small guard h is =
    let to = guard.1.to in
    let place : place_of (held_words l.exclusive) ≤ 2 ^ 40 = omega (arith, to, small) in
    let of : (x : HeldDowngraded) → Some (record { replica = r; place = place_of (held_words l.exclusive) }) ≡ Some x → (x.replica < 2 * instance.callers) × (x.place ≤ 2 ^ 40) =
    (λ x e. subst (λ (y : HeldDowngraded). (y.replica < 2 * instance.callers) × (y.place ≤ 2 ^ 40)) (same_Some _ x e) (guard.0.0, place)) in
    of h is

code_next : (instance : Instance) (scene : Scene) (kind : Kind) (l : Local) (found : ℕ) → instance.base.place + length scene.history ≤ 2 ^ 40 → Guard instance scene kind l →
    HasCode instance.callers l.downgraded → HasCode instance.callers (next instance scene kind l found).downgraded
code_next instance scene (Link j) l found small guard has = code_either instance.callers (found == seen_word l.seen_slot) (linked l j) (lost instance.callers l found) has has
code_next instance scene (TryExclusive r) l found small guard has = code_either instance.callers (found == 0) (taken instance scene r l) (refused_by instance.callers r l found) has has
code_next instance scene (TryShared r) l found small guard has = code_either instance.callers (nat_lt found exclusive_mark) (shared_by r l found) (passing instance.callers r l found) has has
code_next instance scene (BackOff r) l found small guard has =
    code_either instance.callers (is_at r (shared_on l)) _ _ has (code_either instance.callers (is_at r l.passer) _ _ has (code_none instance.callers))
code_next instance scene (Downgrade r) l found small guard has = code_given_up instance scene r l small guard
code_next instance scene Publish l found small guard has = code_either instance.callers (found == l.seen_cur) (published instance.callers l) (outrun instance.callers l found) (code_none instance.callers) has
code_next instance scene kind l found small guard has = has

-- what a step keeps of its caller's number and own list, and of what is downgraded
pub record Follows (callers : ℕ) (l l' : Local) : Type 0 where
  pub number : l'.number ≡ l.number
  pub own : OwnFrom l l'
  pub code : HasCode callers l.downgraded → HasCode callers l'.downgraded

same_follows : (callers : ℕ) (l l' : Local) → l' ≡ l → Follows callers l l'
same_follows callers l l' same = record {
  number = ap (λ (x : Local). x.number) same;
  own = λ i x at. inl (subst (λ (y : Local). slice_get y.own i ≡ Some x) same at);
  code = λ has. subst (λ (x : Local). HasCode callers x.downgraded) (sym same) has;
}

did-follows : (made : Bool) (instance : Instance) (scene : Scene) (kind : Kind) (l l' : Local) (words' : List ℕ) → instance.base.place + length scene.history ≤ 2 ^ 40 →
    Did made instance scene kind l l' words' → Follows instance.callers l l'
did-follows true instance scene kind l l' words' small did = record {
  number = ap (λ (x : Local). x.number) did.1 ∙ next-number instance scene kind l _;
  own = subst (OwnFrom l) (sym did.1) (own_next instance scene kind l _ did.0);
  code = λ has. subst (λ (x : Local). HasCode instance.callers x.downgraded) (sym did.1) (code_next instance scene kind l _ small did.0 has);
}
did-follows false instance scene kind l l' words' small did = same_follows instance.callers l l' did.1

pub step-follows : {E : Type 0} (r : Result Bool E) (instance : Instance) (scene : Scene) (kind : Kind) (l l' : Local) (words' : List ℕ) → instance.base.place + length scene.history ≤ 2 ^ 40 →
    IfOk r (λ made. Did made instance scene kind l l' words') → OnErr r ((l' ≡ l) × (words' ≡ scene.words)) → Follows instance.callers l l'
step-follows (Ok made) instance scene kind l l' words' small did err = did-follows made instance scene kind l l' words' small did
step-follows (Err e) instance scene kind l l' words' small did err = same_follows instance.callers l l' err.0

-- what holds of each local state holds after one was put, where it holds of that
put_kept : (P : ℕ → Local → Type 0) (locals : List Local) (caller : ℕ) (l l' : Local) → slice_get locals caller ≡ Some l → EachLocal locals P → P caller l' → EachLocal (set locals caller l') P
put_kept P locals caller l l' at each holds other x there =
    elim (cases_eq other caller) [
      | inl e ↦ (
          let here = slice_get-set_same locals caller l' (slice_get_within locals caller l at) in
          let is : l' ≡ x = same_Some l' x (sym here ∙ subst (λ c. slice_get (set locals caller l') c ≡ Some x) e there) in
          subst (λ c. P c x) (sym e) (subst (P caller) is holds))
      | inr ne ↦ each other x (sym (slice_get-set_other locals caller other l' ne) ∙ there)
    ]

-- what a core holds stays whole
still_whole : (core : Core) (words : List ℕ) (caller : ℕ) (l l' : Local) → IsWhole core →
    length words ≡ length core.state.words → slice_get core.state.locals caller ≡ Some l → Follows core.callers l l' →
    IsWhole (record core { state = record { words = words; locals = set core.state.locals caller l' } })
still_whole core words caller l l' whole long at follows = record {
  some = whole.some;
  few = whole.few;
  slots = whole.slots;
  long = long ∙ whole.long;
  count = length-set core.state.locals caller l' ∙ whole.count;
  numbers = λ other x there. put_kept (λ c y. y.number ≡ c) core.state.locals caller l l' at whole.numbers (follows.number ∙ whole.numbers caller l at) other x there;
  entries = λ other x there. put_kept (λ _ y. (i : ℕ) (z : Linked) → slice_get y.own i ≡ Some z → (z.entry.caller < 8) × (z.ticket < 2 ^ 40)) core.state.locals caller l l' at whole.entries
      (λ i z own. ⊎_elim
      (λ was. whole.entries caller l at i z was)
      (λ (new : (z.entry.caller ≡ l.number) × (z.ticket < 2 ^ 40)). (
        (let by = new.0 in
            let mine = whole.numbers caller l at in
            let count = whole.count in
            let within = slice_get_within core.state.locals caller l at in
            let few = whole.few in
            omega arith),
        new.1,
      ))
      (follows.own i z own))
      other x there;
}

-- a core stays sound where as many words are put, and a caller's local state that follows the one before
pub still_kept : (core : Core) (words : List ℕ) (caller : ℕ) (l l' : Local) → IsSoundCore core →
    length words ≡ length core.state.words → slice_get core.state.locals caller ≡ Some l → Follows core.callers l l' →
    IsSoundCore (record core { state = record { words = words; locals = set core.state.locals caller l' } })
still_kept core words caller l l' kept long at follows = record {
  whole = still_whole core words caller l l' kept.whole long at follows;
  codes = put_kept (λ _ y. HasCode core.callers y.downgraded) core.state.locals caller l l' at kept.codes (follows.code (kept.codes caller l at));
}

-- what a core opens with is whole, and nothing is downgraded in it
pub opening_kept : (callers lines : ℕ) (base : Base) → 1 ≤ callers → callers ≤ 8 → 1168 ≤ length base.words →
    IsSoundCore (record { callers = callers; lines = lines; base = base; state = opening_state callers base })
opening_kept callers lines base some few slots = record {
  whole = opening_whole callers lines base some few slots;
  codes = λ caller l at. subst (λ (x : Local). HasCode callers x.downgraded) (sym (opening_at callers base.place caller l at).1) (code_none callers);
}

-- the event that a step of its caller is
pub applied : (made : Bool) (instance : Instance) (event : Event) (s : State) (words' : List ℕ) (l l' : Local) →
    slice_get s.locals event.caller ≡ Some l →
    Did made instance (scene_of instance s) event.kind l l' words' →
    IsMadeOrRefused made instance event s (record { words = words'; locals = set s.locals event.caller l' })
applied true instance event s words' l l' at did = record {
  local = l;
  of_caller = at;
  guard = did.0;
  words = did.2;
  locals = ap (set s.locals event.caller) did.1;
}
applied false instance event s words' l l' at did = (
  (λ (a : Allowed instance event s). did.0 (subst (λ x. Guard instance (scene_of instance s) event.kind x) (same_Some a.local l (sym a.of_caller ∙ at)) a.guard)),
  ap (λ ws. record { words = ws; locals = set s.locals event.caller l' }) did.2 ∙ ap (λ ls. record { words = s.words; locals = ls }) (ap (set s.locals event.caller) did.1 ∙ set_here s.locals event.caller l at),
)

-- what is said of an answer that is Ok may be made weaker
pub IfOk-then : {X E : Type 0} (r : Result X E) (P Q : X → Type 0) → IfOk r P → ((x : X) → P x → Q x) → IfOk r Q
IfOk-then (Ok x) P Q p f = f x p
IfOk-then (Err e) P Q p f = tt

-- where the facts hold in a core's state, what a step by them did, made or refused, is what it does there; `words` are the core's words
pub did_here : {E : Type 0} (core : Core) (step : List ℕ → List ℕ → List ℕ × List ℕ) (reads : List ℕ → Bool) (facts : HistoryFacts) (event : Event) (words words' : List ℕ) (l l' : Local) (r : Result Bool E) →
    words ≡ core.state.words → slice_get core.state.locals event.caller ≡ Some l →
    ((x : Local) → slice_get core.state.locals event.caller ≡ Some x → Tells facts (instance_of core step reads) (scene_of (instance_of core step reads) core.state) event.kind x) →
    IfOk r (λ made. EachScene core.callers core.base words (λ instance scene. Tells facts instance scene event.kind l → Did made instance scene event.kind l l' words')) →
    IfOk r (λ made. Did made (instance_of core step reads) (scene_of (instance_of core step reads) (record { words = words; locals = core.state.locals })) event.kind l l' words')
did_here core step reads facts event words words' l l' r same at tells did =
    let instance = instance_of core step reads in
    let before : List ℕ → State = λ ws. record { words = ws; locals = core.state.locals } in
    let scene = scene_of instance (before words) in
    let here : Tells facts instance scene event.kind l = subst (λ ws. Tells facts instance (scene_of instance (before ws)) event.kind l) (sym same) (tells l at) in
    IfOk-then r _ (λ made. Did made instance scene event.kind l l' words') did (λ made d. d step reads scene.history here)
