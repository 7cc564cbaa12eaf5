-- Runs put together from a caller's steps, and some of other callers between.
use Rattle.std.proofs.Common.{◌≡◌, ◌∙◌, ◌+◌, ◌<◌, ℕ, zero, suc, List, [], ◌∷◌, ◌++◌, Some, set, ap, refl, sym, subst, arith}
use Rattle.std.proofs.lemmas.List.{length-set}
use Rattle.std.proofs.lemmas.Option.{slice_get_within}
use Rattle.std.specs.List.{slice_get}
use Rattle.core_runs.proofs.Keeps.{run_kept}
use Rattle.cx_core.proofs.ListLemmas.{slice_get-set_same}
use Rattle.cx_core.proofs.Locals.{EachLocal-set}
use Rattle.cx_core.proofs.MergeLemmas.{history_is}
use Rattle.cx_core.specs.Events.{Guard, Makes, Run, local_after, words_after}
use Rattle.cx_core.specs.Lawful.{Lawful}
use Rattle.cx_core.specs.Merge.{IsHistory, history_of, own_of, scene_of}
use Rattle.cx_core.specs.State.{Instance, State}
use Rattle.cx_core.specs.declared.entry.Entry.{Entry}
use Rattle.cx_core.specs.declared.kinds.Event.{Event}
use Rattle.cx_core.specs.declared.kinds.Kind.{Kind}
use Rattle.cx_core.specs.declared.local.Local.{Local}

-- the state `s` is lawful and has this history, and the caller has the local state `l` there
pub record Here (instance : Instance) (caller : ℕ) (history : List Entry) (s : State) (l : Local) : Type 0 where
  pub law : Lawful instance s
  pub at : slice_get s.locals caller ≡ Some l
  pub of_history : history_of instance.base.place s.locals ≡ history

-- some run of `events` leads from the state `from` to a lawful one, `to`, with this history, and `P` holds of `to` and of the caller's local state
-- there
pub record Reached (instance : Instance) (caller : ℕ) (history : List Entry) (from : State) (P : State → Local → Type 0) : Type 0 where
  pub events : List Event
  pub to : State
  pub ran : Run instance from events to
  pub after : Local
  pub here : Here instance caller history to after
  pub holds : P to after

module _ (instance : Instance) (caller : ℕ) where
  -- one step of the caller
  abbrev pub event : Kind → Event
  event kind = record { caller = caller; kind = kind }

  -- the state after a step of this kind of the caller with the local state `l`
  abbrev pub made : State → Local → Kind → State
  made s l kind = record { words = words_after instance kind l s.words; locals = set s.locals caller (local_after instance (scene_of instance s) kind l) }

  -- a step is made where its guard holds: it leads from the state `s` to `made s l kind`
  pub makes : (s : State) (l : Local) (kind : Kind) → slice_get s.locals caller ≡ Some l → Guard instance (scene_of instance s) kind l → Makes instance (event kind) s (made s l kind)
  makes s l kind at guard = record { local = l; of_caller = at; guard = guard; words = refl; locals = refl }

  -- after a step of the caller its local state is the one that the kind of step makes of `l`
  pub there : (s : State) (l : Local) (kind : Kind) → slice_get s.locals caller ≡ Some l → slice_get (made s l kind).locals caller ≡ Some (local_after instance (scene_of instance s) kind l)
  there s l kind at = slice_get-set_same s.locals caller (local_after instance (scene_of instance s) kind l) (slice_get_within s.locals caller l at)

  -- a step leads from a lawful state to a lawful one
  pub keeps : (s : State) (l : Local) (kind : Kind) → Lawful instance s → Makes instance (event kind) s (made s l kind) → Lawful instance (made s l kind)
  keeps s l kind law makes_it = run_kept instance s (event kind ∷ []) (made s l kind) law (made s l kind, makes_it, refl)

  -- the history that lawfulness names is the one of `Here`
  pub history_same : (history : List Entry) (s : State) (l : Local) (here : Here instance caller history s l) → here.law.history ≡ history
  history_same history s l here = sym (history_is instance.base.place here.law.history s.locals here.law.tickets.merged) ∙ here.of_history

  -- a change of the caller's local state from `l` to `l'` leaves the history, where the caller's own entries stay. `after`: each caller's own entries
  -- are still its entries of the history.
  history_left : (s : State) (l l' : Local) (history : List Entry) → Here instance caller history s l → l'.own ≡ l.own → history_of instance.base.place (set s.locals caller l') ≡ history
  history_left s l l' history here own =
      let place = instance.base.place in
      let merged = here.law.tickets.merged in
      let after : IsHistory place here.law.history (set s.locals caller l') = record {
        own = EachLocal-set s.locals caller l l' (λ c x. x.own ≡ own_of c place here.law.history) here.at merged.own (own ∙ merged.own caller l here.at);
        of_callers = λ i entry item. subst (λ n. entry.caller < n) (sym (length-set s.locals caller l')) (merged.of_callers i entry item);
      } in
      history_is place here.law.history (set s.locals caller l') after ∙ history_same history s l here

  -- after a step that leaves the own list the state is lawful and has the same history; `l'` is the caller's local state then
  pub stepped : (s : State) (l l' : Local) (kind : Kind) (history : List Entry) → Here instance caller history s l → Guard instance (scene_of instance s) kind l →
      local_after instance (scene_of instance s) kind l ≡ l' → l'.own ≡ l.own → Here instance caller history (made s l kind) l'
  stepped s l l' kind history here guard is own = record {
    law = keeps s l kind here.law (makes s l kind here.at guard);
    at = there s l kind here.at ∙ ap Some is;
    of_history = ap (λ (x : Local). history_of instance.base.place (set s.locals caller x)) is ∙ history_left s l l' history here own;
  }

-- a run from `from` to `mid`, and one from `mid` to `to`, make one run
pub run_on : (instance : Instance) (from mid to : State) (first second : List Event) → Run instance from first mid → Run instance mid second to → Run instance from (first ++ second) to
run_on instance from mid to [] second a b = subst (λ s. Run instance s second to) a b
run_on instance from mid to (e ∷ first) second a b = (a.0, a.1, run_on instance a.0 mid to first second a.2 b)

-- where some run reaches `P` for `caller` after a step of caller `d`, some run reaches `P` from the state `s` before that step. `before` is the
-- history there.
pub step_by : (instance : Instance) (caller d : ℕ) {P : State → Local → Type 0} (s : State) (m : Local) (kind : Kind) (history before : List Entry) → Here instance d before s m →
    Guard instance (scene_of instance s) kind m → Reached instance caller history (made instance d s m kind) P → Reached instance caller history s P
step_by instance caller d s m kind history before here guard rest = record {
  events = event instance d kind ∷ rest.events;
  to = rest.to;
  ran = (made instance d s m kind, makes instance d s m kind here.at guard, rest.ran);
  after = rest.after;
  here = rest.here;
  holds = rest.holds;
}

module _ (instance : Instance) (caller : ℕ) where
  -- where `P` holds already, the run without a step reaches it
  pub stay : {P : State → Local → Type 0} (s : State) (l : Local) (history : List Entry) → Here instance caller history s l → P s l → Reached instance caller history s P
  stay s l history here holds = record { events = []; to = s; ran = refl; after = l; here = here; holds = holds }

  -- where some run reaches `P` after a step of the caller, some run reaches `P` from the state `s` before that step. `before` is the history there.
  pub step : {P : State → Local → Type 0} (s : State) (l : Local) (kind : Kind) (history before : List Entry) → Here instance caller before s l → Guard instance (scene_of instance s) kind l →
      Reached instance caller history (made instance caller s l kind) P → Reached instance caller history s P
  step s l kind history before here guard rest = step_by instance caller caller s l kind history before here guard rest

  -- where some run reaches `P`, and from each state with `P` some run reaches `Q`, some run reaches `Q`
  pub andthen : {P Q : State → Local → Type 0} (from : State) (before history : List Entry) → Reached instance caller before from P →
      ((s : State) (l : Local) → Here instance caller before s l → P s l → Reached instance caller history s Q) → Reached instance caller history from Q
  andthen from before history first next =
      let rest = next first.to first.after first.here first.holds in
      record {
        events = first.events ++ rest.events;
        to = rest.to;
        ran = run_on instance from first.to rest.to first.events rest.events first.ran rest.ran;
        after = rest.after;
        here = rest.here;
        holds = rest.holds;
      }

  -- where `Q i` holds, and from each state with `Q i`, `i` below `total`, some run reaches `Q (i + 1)`, some run reaches `Q total`. `n` tells how
  -- many are left.
  pub each_of : (Q : ℕ → State → Local → Type 0) (history : List Entry) (total : ℕ) →
      ((i : ℕ) (s : State) (l : Local) → i < total → Here instance caller history s l → Q i s l → Reached instance caller history s (Q (i + 1))) →
      (n i : ℕ) → i + n ≡ total → (s : State) (l : Local) → Here instance caller history s l → Q i s l → Reached instance caller history s (Q total)
  each_of Q history total one zero i all s l here holds = stay s l history here (subst (λ k. Q k s l) (let e : i ≡ total = omega arith in e) holds)
  each_of Q history total one (suc n) i all s l here holds =
      andthen s history history (one i s l (omega arith) here holds) (λ s' l' here' holds'. each_of Q history total one n (i + 1) (omega arith) s' l' here' holds')
