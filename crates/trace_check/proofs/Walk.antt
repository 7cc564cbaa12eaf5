-- Good lines, one more.
use Rattle.std.proofs.Common.{◌≡◌, ◌≢◌, ◌+◌, ◌<◌, ◌≤◌, ℕ, List, [], ◌∷◌, ◌++◌, length, take, get_or, slice_index, refl, ap, sym, subst, ◌∙◌, arith, Some}
use Rattle.std.proofs.lemmas.List.{append-nil, take_more}
use Rattle.std.proofs.lemmas.Option.{slice_get-get_or}
use Rattle.std.specs.List.{slice_get}
use Rattle.std.specs.Option.{option_to_list}
use Rattle.cx_core.specs.declared.kinds.Event.{Event as CoreEvent}
use Rattle.cx_core.specs.declared.local.Local.{Local}
use Rattle.cx_core.specs.declared.local.WonCode.{WonCode}
use Rattle.cx_core.specs.Chain.{IsCodeChain}
use Rattle.cx_core.specs.Events.{Allowed, Makes}
use Rattle.cx_core.specs.Lawful.{Lawful}
use Rattle.cx_core.specs.Layout.{cur_at, dur_at}
use Rattle.cx_core.specs.State.{Core, Instance, State}
use Rattle.core_runs.proofs.Keeps.{event_kept}
use Rattle.caller_cache.specs.Wins.{IsWayBy, wins_of}
use Rattle.caller_cache.proofs.Chaining.{way_up, wins_append}
use Rattle.trace_text.specs.declared.trace.TraceLine.{TraceLine}
use Rattle.trace_text.specs.declared.trace.TraceWhat.{TraceWhat}
use Rattle.trace_text.specs.declared.trace.TraceWhat.TheVariants.{Event, Crash}
use Rattle.trace_check.specs.Lines.{FailsGuard, FailsPlace, Good, LeavesPlace, Passes, crash_count, event_count, one_crash, one_event}

pub good_more : (instance : Instance) (from s to : State) (xs : List TraceLine) (x : TraceLine) → Good instance from xs s → Passes instance x.what s to → Good instance from (xs ++ x ∷ []) to
good_more instance from s to [] x good passes = (to, subst (λ (st : State). Passes instance x.what st to) good passes, refl)
good_more instance from s to (y ∷ ys) x good passes = (good.0, good.1, good_more instance good.0 s to ys x good.2 passes)

pub events_more : (xs : List TraceLine) (x : TraceLine) → event_count (xs ++ x ∷ []) ≡ event_count xs + one_event x.what
events_more [] x = omega arith
events_more (y ∷ ys) x = (let rest = events_more ys x in omega arith)

pub crashes_more : (xs : List TraceLine) (x : TraceLine) → crash_count (xs ++ x ∷ []) ≡ crash_count xs + one_crash x.what
crashes_more [] x = omega arith
crashes_more (y ∷ ys) x = (let rest = crashes_more ys x in omega arith)

-- the first n lines are good and lead to what the core holds
pub record Walked (instance : Instance) (from : State) (xs : List TraceLine) (n e c : ℕ) (core : Core) : Type 0 where
  pub callers : core.callers ≡ instance.callers
  pub base : core.base ≡ instance.base
  pub good : Good instance from (take n xs) core.state
  pub lawful : Lawful instance core.state
  pub events : e ≡ event_count (take n xs)
  pub crashes : c ≡ crash_count (take n xs)
  pub few : e + c ≤ n

-- the wins of one caller more
pub wins_more : (locals : List Local) (k : ℕ) (l : Local) → k < length locals → l ≡ get_or locals k l → wins_of (take (k + 1) locals) ≡ wins_of (take k locals) ++ option_to_list l.won
wins_more locals k l below is =
    ap wins_of (take_more locals k l below ∙ ap (λ (x : Local). take k locals ++ x ∷ []) (sym is))
    ∙ wins_append (take k locals) (l ∷ [])
    ∙ ap (λ ws. wins_of (take k locals) ++ ws) (append-nil (option_to_list l.won))

-- the codes that were read off the wins are the chain
pub chain_read : (instance : Instance) (s : State) (law : Lawful instance s) (wins : List WonCode) (dur : ℕ) (codes : List ℕ) → wins ≡ wins_of s.locals → dur ≡ slice_index s.words dur_at →
    ((above : List ℕ) (to : ℕ) → IsWayBy wins dur above to → codes ≡ dur ∷ above) → IsCodeChain s.words s.locals codes
chain_read instance s law wins dur codes are is read =
    let way = way_up instance s.words s.locals law.shape.some law.root in
    let here = subst (λ n. IsWayBy wins n law.root.above (slice_index s.words cur_at)) (sym is) (subst (λ ws. IsWayBy ws (slice_index s.words dur_at) law.root.above (slice_index s.words cur_at)) (sym are) way) in
    subst (IsCodeChain s.words s.locals) (sym (read law.root.above (slice_index s.words cur_at) here ∙ ap (λ n. n ∷ law.root.above) is)) (refl, law.root.leads)

-- one line more
module _ (instance : Instance) (from : State) (xs : List TraceLine) (n e c : ℕ) (core : Core) (x d : TraceLine) (below : n < length xs) (at : x ≡ get_or xs n d) (walked : Walked instance from xs n e c core) where
  taken : take (n + 1) xs ≡ take n xs ++ x ∷ []
  taken = take_more xs n d below ∙ ap (λ y. take n xs ++ y ∷ []) (sym at)

  on : (what : TraceWhat) → x.what ≡ what → (e' c' : ℕ) → e' ≡ e + one_event what → c' ≡ c + one_crash what → one_event what + one_crash what ≡ 1 →
      (core' : Core) → core'.callers ≡ core.callers → core'.base ≡ core.base → Passes instance what core.state core'.state → Lawful instance core'.state → Walked instance from xs (n + 1) e' c' core'
  on what is e' c' events crashes one core' callers base passes lawful =
      let here = subst (λ w. Passes instance w core.state core'.state) (sym is) passes in
      record {
        callers = callers ∙ walked.callers;
        base = base ∙ walked.base;
        good = subst (λ ys. Good instance from ys core'.state) (sym taken) (good_more instance from core.state core'.state (take n xs) x walked.good here);
        lawful = lawful;
        events = events ∙ ap (λ k. k + one_event what) walked.events ∙ ap (λ w. event_count (take n xs) + one_event w) (sym is) ∙ sym (events_more (take n xs) x) ∙ ap event_count (sym taken);
        crashes = crashes ∙ ap (λ k. k + one_crash what) walked.crashes ∙ ap (λ w. crash_count (take n xs) + one_crash w) (sym is) ∙ sym (crashes_more (take n xs) x) ∙ ap crash_count (sym taken);
        few = (let f = walked.few in omega arith);
      }

  pub on_event : (event : CoreEvent) → x.what ≡ Event event → (core' : Core) → core'.callers ≡ core.callers → core'.base ≡ core.base → Makes instance event core.state core'.state →
      Walked instance from xs (n + 1) (e + 1) c core'
  on_event event is core' callers base makes =
      on (Event event) is (e + 1) c refl (omega arith) refl core' callers base makes (event_kept instance event core.state core'.state walked.lawful makes)

  pub on_crash : (choice place : ℕ) → x.what ≡ Crash choice place → LeavesPlace instance core.state choice place → Walked instance from xs (n + 1) e (c + 1) core
  on_crash choice place is leaves = on (Crash choice place) is e (c + 1) (omega arith) refl refl core refl refl (leaves, refl) walked.lawful

  here : slice_get xs n ≡ Some x
  here = slice_get-get_or xs n d below ∙ ap Some (sym at)

  pub fails_guard : (event : CoreEvent) → x.what ≡ Event event → (Allowed instance event core.state → ⊥) → FailsGuard instance from xs x.line
  fails_guard event is fails = record { n = n; x = x; at = here; named = refl; state = core.state; before = walked.good; event = event; is = is; fails = fails }

  pub fails_place : (choice place found : ℕ) → x.what ≡ Crash choice place → LeavesPlace instance core.state choice found → found ≢ place → FailsPlace instance from xs x.line found
  fails_place choice place found is leaves other = record { n = n; x = x; at = here; named = refl; state = core.state; before = walked.good; choice = choice; place = place; is = is; leaves = leaves; other = other }
