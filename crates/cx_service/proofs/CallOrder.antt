-- The order of operations by the steps of their callers.
use Rattle.std.proofs.Common.{◌≡◌, ◌+◌, ◌==◌, ◌<◌, ◌≤◌, ◌⊎◌, inl, inr, ℕ, zero, suc, min, Bool, cond, true, false, List, [], ◌∷◌, ◌++◌, Some, All, length, map, drop, append_assoc, refl, ap, sym, subst, ◌∙◌, arith}
use Rattle.std.proofs.lemmas.Bool.{cases_eq, eq-eqb, false≢true}
use Rattle.std.proofs.lemmas.List.{append_cancel_left}
use Rattle.std.proofs.lemmas.List.Elements.{All-contains}
use Rattle.std.proofs.lemmas.Option.{none-some, same_Some, slice_get_read, slice_get_within}
use Rattle.std.specs.List.{Contains, range_with_len, slice_get}
use Rattle.cx_core.specs.declared.kinds.Event.{Event}
use Rattle.cx_core.specs.declared.local.Linked.{Linked}
use Rattle.cx_core.specs.declared.local.Local.{Local}
use Rattle.cx_core.specs.declared.local.SeenRead.{SeenRead}
use Rattle.cx_core.specs.Crash.{CrashImage, IsCrashImage, recovered}
use Rattle.cx_core.specs.Events.{Run, local_after}
use Rattle.cx_core.specs.Lawful.{Lawful}
use Rattle.cx_core.specs.Layout.{max_word}
use Rattle.cx_core.specs.Merge.{scene_of}
use Rattle.cx_core.specs.State.{EachLocal, Instance, State}
use Rattle.cx_core.proofs.ListLemmas.{item_below, slice_get-set_other}
use Rattle.core_replica.proofs.ReplyLaws.{reply_own}
use Rattle.core_replica.proofs.StillLaws.{has_run}
use Rattle.core_runs.specs.Counting.{steps_of}
use Rattle.core_runs.specs.RealTime.{IsAhead, IsAnswered, IsBefore, IsPointOf, Operation, Point}
use Rattle.core_runs.specs.RealTime.Operation.{Update, Read}
use Rattle.core_runs.specs.RealTime.Point.{At, Behind}
use Rattle.core_runs.proofs.Counting.{counts_run}
use Rattle.core_runs.proofs.Ordering.{keeps_real_time}
use Rattle.core_runs.proofs.Keeps.{run_kept}
use Rattle.core_runs.proofs.WholeLaws.{crash_kept}
use Rattle.core_order.proofs.Appearing.{runs_on}
use Rattle.core_order.proofs.Imaging.{durable_run}
use Rattle.table_invariant.specs.declared.rule.ImageTimes.{ImageTimes}
use Rattle.table_invariant.specs.declared.rule.Known.{Known}
use Rattle.table_invariant.specs.Rule.{opening_limited}
use Rattle.table_invariant.specs.Seats.{Seated, opening_known}
use Rattle.table_invariant.specs.Timing.{AllBelow, AreTimes, BeginsAt, BelowAt, ComesBy, DurableAt, EndsAt}
use Rattle.cx_service.specs.CallOrder.{IsBeginningOf, IsBy, IsOperationEnd, IsPointBelow, KeepsCalls, KeepsImages, caller_of}

-- a caller's steps of two lists, one behind the other, are those of both
steps_of-append : (caller : ℕ) (x y : List Event) → steps_of caller (x ++ y) ≡ steps_of caller x + steps_of caller y
steps_of-append caller [] y = omega arith
steps_of-append caller (event ∷ x) y = counted (event.caller == caller) (steps_of caller (x ++ y)) (steps_of caller x) (steps_of-append caller x y)
  where
    counted : (b : Bool) (n k : ℕ) → n ≡ k + steps_of caller y → cond b (n + 1) n ≡ cond b (k + 1) k + steps_of caller y
    counted true n k is = omega (arith, is)
    counted false n k is = is

-- the list `x` is a prefix of the list `y`
abbrev Begins : List Event → List Event → Type 0
Begins x y = (more : List Event) × (y ≡ x ++ more)

-- where `x` and `y` both begin one list, `x` begins `y` or `y` begins `x`
one_begins : (x x' y y' : List Event) → x ++ x' ≡ y ++ y' → Begins x y ⊎ Begins y x
one_begins [] x' y y' is = inl (y, refl)
one_begins (e ∷ x) x' [] y' is = inr (e ∷ x, refl)
one_begins (e ∷ x) x' (f ∷ y) y' is =
    let head : e ≡ f = same_Some e f (ap (λ (es : List Event). slice_get es 0) is) in
    elim (one_begins x x' y y' (ap (drop 1) is)) [
      | inl begins ↦ inl (begins.0, ap (λ es. f ∷ es) begins.1 ∙ ap (λ g. g ∷ (x ++ begins.0)) (sym head))
      | inr begins ↦ inr (begins.0, ap (λ es. e ∷ es) begins.1 ∙ ap (λ g. g ∷ (y ++ begins.0)) head)
    ]

module _ (instance : Instance) where
  -- each prefix of a run reaches a state
  comes_by : (x y : List Event) (from to : State) → Run instance from (x ++ y) to → (mid : State) × Run instance from x mid
  comes_by [] y from to run = (from, refl)
  comes_by (e ∷ x) y from to run =
      let rest = comes_by x y run.0 to run.2 in
      (rest.0, (run.0, run.1, rest.1))

  -- a caller that makes none of the steps keeps its local state
  idle_run : (events : List Event) (from to : State) (caller : ℕ) → Run instance from events to → steps_of caller events ≡ 0 → slice_get to.locals caller ≡ slice_get from.locals caller
  idle_run [] from to caller run none = ap (λ (s : State). slice_get s.locals caller) run
  idle_run (e ∷ events) from to caller run none = elim (cases_eq e.caller caller) [
    | inl mine ↦ absurd (some_made (e.caller == caller) (steps_of caller events) (eq-eqb e.caller caller mine) none)
    | inr ne ↦ idle_run events run.0 to caller run.2 (not_made (e.caller == caller) (steps_of caller events) none)
        ∙ ap (λ ls. slice_get ls caller) run.1.locals ∙ slice_get-set_other from.locals e.caller caller (local_after instance (scene_of instance from) e.kind run.1.local) (λ e. ne (sym e))
  ]
    where
      some_made : (b : Bool) (n : ℕ) → b ≡ true → cond b (n + 1) n ≡ 0 → ⊥
      some_made true n is none = omega (arith, none)
      some_made false n is none = false≢true is

      not_made : (b : Bool) (n : ℕ) → cond b (n + 1) n ≡ 0 → n ≡ 0
      not_made true n none = absurd (omega (arith, none))
      not_made false n none = none

  -- what was answered stays answered
  still_answered : (from to : State) (events : List Event) (a : Operation) → Run instance from events to → IsAnswered from a → IsAnswered to a
  still_answered from to events (Update caller i) run at =
      let still = has_run instance events from to caller at.0 run at.1 in
      let x = item_below at.0.answered i at.2 in
      (still.local, still.of_caller, slice_get_within still.local.answered i x.0 (still.has.answered i x.0 x.1))
  still_answered from to events (Read caller i) run at =
      let still = has_run instance events from to caller at.0 run at.1 in
      let x = item_below at.0.seen_reads i at.2 in
      (still.local, still.of_caller, slice_get_within still.local.seen_reads i x.0 (still.has.reads i x.0 x.1))

-- whether an operation was answered, and whether it has not begun, depend on its caller's local state alone
same_answered : (s t : State) (a : Operation) → slice_get t.locals (caller_of a) ≡ slice_get s.locals (caller_of a) → IsAnswered s a → IsAnswered t a
same_answered s t (Update caller i) same at = (at.0, same ∙ at.1, at.2)
same_answered s t (Read caller i) same at = (at.0, same ∙ at.1, at.2)

same_ahead : (s t : State) (b : Operation) → slice_get t.locals (caller_of b) ≡ slice_get s.locals (caller_of b) → IsAhead s b → IsAhead t b
same_ahead s t (Update caller i) same at = (at.0, same ∙ at.1, at.2)
same_ahead s t (Read caller i) same at = (at.0, same ∙ at.1, at.2, at.3)

module _ (instance : Instance) (from to : State) (events : List Event) (law : Lawful instance from) (unmoved : EachLocal from.locals (λ _ l. l.steps ≡ 0)) (run : Run instance from events to) where
  -- the count of steps in a caller's local state at a moment is that of its steps before it, up to the end of the type
  counted : (caller steps : ℕ) (by : ComesBy instance from events caller steps) → steps ≡ min (steps_of caller by.before) max_word
  counted caller steps by =
      let count = law.shape.count in
      let count' = (run_kept instance from by.before by.moment law by.run).shape.count in
      let within = slice_get_within by.moment.locals caller by.local by.of_caller in
      let l = item_below from.locals caller (omega (arith, within, count, count')) in
      let none = unmoved caller l.0 l.1 in
      let is = counts_run instance from by.before by.moment caller l.0 by.local by.run l.1 by.of_caller (omega (arith, none)) in
      let by_count = by.count in
      omega (arith, is, none, by_count)

  -- what was answered at one moment was answered at each at which its caller has made as many steps, also at an earlier one
  answered_by : (x x' y y' : List Event) (s t : State) (a : Operation) → x ++ x' ≡ y ++ y' → Run instance from x s → Run instance from y t → steps_of (caller_of a) x ≤ steps_of (caller_of a) y → IsAnswered s a → IsAnswered t a
  answered_by x x' y y' s t a one at_x at_y made answered = elim (one_begins x x' y y' one) [
    | inl begins ↦ still_answered instance s t begins.0 a (runs_on instance x begins.0 from s t at_x (subst (λ es. Run instance from es t) begins.1 at_y)) answered
    | inr begins ↦ (
        let between = runs_on instance y begins.0 from t s at_y (subst (λ es. Run instance from es s) begins.1 at_x) in
        let adds = ap (steps_of (caller_of a)) begins.1 ∙ steps_of-append (caller_of a) y begins.0 in
        same_answered s t a (sym (idle_run instance begins.0 t s (caller_of a) between (omega (arith, adds, made)))) answered)
  ]

  -- where at a moment one operation was answered and another one had not begun, they are in order
  at_moment : (x x' : List Event) (s : State) (a b : Operation) (p q : Point) → events ≡ x ++ x' → Run instance from x s → IsAnswered s a → IsAhead s b → IsPointOf to a p → IsPointOf to b q → IsBefore p q
  at_moment x x' s a b p q are at_x answered ahead = keeps_real_time instance from to law a b p q (record {
    before = x;
    moment = s;
    after = x';
    comes_by = at_x;
    goes_on = runs_on instance x x' from s to at_x (subst (λ es. Run instance from es to) are run);
    answered = answered;
    ahead = ahead;
  })

  -- where `a` ends in a prefix in which `b` has not begun, `a` is before `b`: the moment to look at is the later of the prefix's end and the beginning of `b`
  in_call_order : (a b : Operation) (m n : ℕ) (p q : Point) → EndsAt instance from events (caller_of a) a m → BeginsAt instance from events (caller_of b) b n → m < max_word → IsBy events (caller_of a) m (caller_of b) n →
      IsPointOf to a p → IsPointOf to b q → IsBefore p q
  in_call_order a b m n p q ends begins small by =
      let end_ = ends.by in
      let begin = begins.by in
      let m_is = counted (caller_of a) m end_ in
      let n_is = counted (caller_of b) n begin in
      let made = by.made in
      let not_more = by.not_more in
      elim (one_begins by.before by.after begin.before begin.after (sym by.are ∙ begin.are)) [
        | inl more ↦ (
            let adds = ap (steps_of (caller_of a)) more.1 ∙ steps_of-append (caller_of a) by.before more.0 in
            at_moment begin.before begin.after begin.moment a b p q begin.are begin.run
            (answered_by end_.before end_.after begin.before begin.after end_.moment begin.moment a (sym end_.are ∙ begin.are) end_.run begin.run (omega (arith, m_is, small, made, adds)) ends.answered) begins.ahead)
        | inr more ↦ (
            let here = comes_by instance by.before by.after from to (subst (λ es. Run instance from es to) by.are run) in
            let adds = ap (steps_of (caller_of b)) more.1 ∙ steps_of-append (caller_of b) begin.before more.0 in
            let between = runs_on instance begin.before more.0 from begin.moment here.0 begin.run (subst (λ es. Run instance from es here.0) more.1 here.1) in
            at_moment by.before by.after here.0 a b p q by.are here.1
            (answered_by end_.before end_.after by.before by.after end_.moment here.0 a (sym end_.are ∙ by.are) end_.run here.1 (omega (arith, m_is, small, made)) ends.answered)
            (same_ahead begin.moment here.0 b (idle_run instance more.0 begin.moment here.0 (caller_of b) between (omega (arith, n_is, not_more, adds))) begins.ahead))
      ]

  -- the times that a seat has are those of its caller's operations
  abbrev TimesOf : Seated → Type 0
  TimesOf s = AreTimes instance from events s.known.local.number s.known.local s.known.times

  ends_at : (seat : Seated) (a : Operation) (m : ℕ) → TimesOf seat → IsOperationEnd seat a m → EndsAt instance from events (caller_of a) a m
  ends_at seat (Update caller i) m times end_ = subst (λ c. EndsAt instance from events c (Update c i) m) end_.0 (times.answered i m end_.1)
  ends_at seat (Read caller i) m times end_ = subst (λ c. EndsAt instance from events c (Read c i) m) end_.0 (subst (EndsAt instance from events seat.known.local.number (Read seat.known.local.number i)) end_.3 (times.read i end_.1 end_.2))

  begins_at : (seat : Seated) (b : Operation) (n : ℕ) → TimesOf seat → IsBeginningOf seat b n → BeginsAt instance from events (caller_of b) b n
  begins_at seat (Update caller i) n times begin = subst (λ c. BeginsAt instance from events c (Update c i) n) begin.0 (times.linked i n begin.1)
  begins_at seat (Read caller i) n times begin = subst (λ c. BeginsAt instance from events c (Read c i) n) begin.0 (subst (BeginsAt instance from events seat.known.local.number (Read seat.known.local.number i)) begin.3 (times.begun i begin.1 begin.2))

  -- an operation that ended before another began, by the steps that the seats counted, stands before it in the history
  pub keeps_calls : (seats : List Seated) → All TimesOf seats → KeepsCalls events seats to
  keeps_calls seats times seat other a b m n p q has has' end_ begin =
      in_call_order a b m n p q (ends_at seat a m (All-contains TimesOf seats seat times has) end_) (begins_at other b n (All-contains TimesOf seats other times has') begin)

  -- what was answered while all that anyone was answered was below a place is below it in the history
  below_point : (s : State) (rest : List Event) (place : ℕ) (a : Operation) (p : Point) → Run instance s rest to → AllBelow place s → IsAnswered s a → IsPointOf to a p → IsPointBelow place p
  below_point s rest place (Update caller i) p on below answered at =
      let law' = run_kept instance from events to law run in
      let x = item_below answered.0.answered i answered.2 in
      let still = has_run instance rest s to caller answered.0 on answered.1 in
      let own = reply_own instance law'.history to.words to.locals caller still.local law'.answers still.of_caller law'.tickets i x.0 (still.has.answered i x.0 x.1) in
      let mine : at.0 ≡ still.local = same_Some at.0 still.local (sym at.1 ∙ still.of_caller) in
      let linked : Linked = record { ticket = x.0.ticket; entry = own.entry } in
      let same : at.2 ≡ linked = same_Some at.2 linked (sym at.3 ∙ ap (λ (y : Local). slice_get y.own i) mine ∙ own.own) in
      subst (IsPointBelow place) (sym (at.4 ∙ ap (λ (y : Linked). At y.ticket) same)) ((below caller answered.0 answered.1).0 i x.0 x.1)
  below_point s rest place (Read caller i) p on below answered at =
      let x = item_below answered.0.seen_reads i answered.2 in
      let still = has_run instance rest s to caller answered.0 on answered.1 in
      let mine : at.0 ≡ still.local = same_Some at.0 still.local (sym at.1 ∙ still.of_caller) in
      let same : at.2 ≡ x.0 = same_Some at.2 x.0 (sym at.3 ∙ ap (λ (y : Local). slice_get y.seen_reads i) mine ∙ still.has.reads i x.0 x.1) in
      subst (IsPointBelow place) (sym (at.4 ∙ ap (λ (y : SeenRead). Behind y.place) same)) ((below caller answered.0 answered.1).1 i x.0 x.1)

  -- behind a moment to which the caller's next step comes, no steps of others alone
  none_between : (caller : ℕ) (more after : List Event) (event : Event) (rest : List Event) → more ++ after ≡ event ∷ rest → event.caller ≡ caller → steps_of caller more ≡ 0 → more ≡ []
  none_between caller [] after event rest is own none = refl
  none_between caller (e ∷ more) after event rest is own none =
      let head : e ≡ event = same_Some e event (ap (λ (es : List Event). slice_get es 0) is) in
      absurd (some_made (e.caller == caller) (steps_of caller more) (eq-eqb e.caller caller (ap (λ (x : Event). x.caller) head ∙ own)) none)
    where
      some_made : (b : Bool) (n : ℕ) → b ≡ true → cond b (n + 1) n ≡ 0 → ⊥
      some_made true n is none = omega (arith, none)
      some_made false n is none = false≢true is

  -- an image holds what was answered by the step before which it was not begun
  holds_answered : (c : ℕ) (a : Operation) (m : ℕ) (p : Point) (x : ImageTimes) → EndsAt instance from events (caller_of a) a m → BelowAt instance from events c x.place x.begun → m < max_word → IsBy events (caller_of a) m c x.begun → IsPointOf to a p →
      IsPointBelow x.place p
  holds_answered c a m p x ends begins small by at =
      let end_ = ends.by in
      let begin = begins.by in
      let m_is = counted (caller_of a) m end_ in
      let n_is = counted c x.begun begin in
      let not_more = by.not_more in
      let by_made = by.made in
      let made : m ≤ steps_of (caller_of a) begin.before = elim (one_begins by.before by.after begin.before begin.after (sym by.are ∙ begin.are)) [
        | inl more ↦ (let adds = ap (steps_of (caller_of a)) more.1 ∙ steps_of-append (caller_of a) by.before more.0 in omega (arith, by_made, adds))
        | inr more ↦ (
            let adds = ap (steps_of c) more.1 ∙ steps_of-append c begin.before more.0 in
            let rest : more.0 ++ by.after ≡ begins.next.0 ∷ begins.next.1 =
            append_cancel_left begin.before (more.0 ++ by.after) (begins.next.0 ∷ begins.next.1) (sym (append_assoc begin.before more.0 by.after) ∙ ap (λ es. es ++ by.after) (sym more.1) ∙ sym by.are ∙ begin.are ∙ ap (λ es. begin.before ++ es) begins.next.2) in
            let none = none_between c more.0 by.after begins.next.0 begins.next.1 rest begins.next.3 (omega (arith, n_is, not_more, adds)) in
            let same = ap (steps_of (caller_of a)) more.1 ∙ steps_of-append (caller_of a) begin.before more.0 ∙ ap (λ es. steps_of (caller_of a) begin.before + steps_of (caller_of a) es) none in
            omega (arith, by_made, same))
      ] in
      let answered = answered_by end_.before end_.after begin.before begin.after end_.moment begin.moment a (sym end_.are ∙ begin.are) end_.run begin.run (omega (arith, m_is, small, made)) ends.answered in
      below_point begin.moment begin.after x.place a p (runs_on instance begin.before begin.after from begin.moment to begin.run (subst (λ es. Run instance from es to) begin.are run)) begins.below answered at

  -- a crash after that many steps of the caller recovers no place below the one that was durable by then
  stays_durable : (c : ℕ) (x : ImageTimes) (before after : List Event) (s : State) (image : CrashImage) → DurableAt instance from events c x.durable x.ended → x.ended < max_word → events ≡ before ++ after → Run instance from before s →
      x.ended ≤ steps_of c before → IsCrashImage instance s image → x.durable ≤ (recovered instance image).place
  stays_durable c x before after s image at small are come made crash =
      let by = at.by in
      let front = at.last.0 in
      let event = at.last.1 in
      let is = counted c x.ended by in
      let whole : before ++ after ≡ front ++ (event ∷ by.after) = sym are ∙ by.are ∙ ap (λ es. es ++ by.after) at.last.2 ∙ append_assoc front (event ∷ []) by.after in
      let count = ap (steps_of c) at.last.2 ∙ steps_of-append c front (event ∷ []) in
      let own : steps_of c (event ∷ []) ≡ 1 = ap (λ b. cond b 1 0) (eq-eqb event.caller c at.last.3) in
      let kept = (crash_kept instance s (run_kept instance from before s law come) image crash).durable in
      let durable = at.durable in
      elim (one_begins before after front (event ∷ by.after) whole) [
        -- the events cannot end before that step: the caller would not have made so many
        | inl more ↦ (let adds = ap (steps_of c) more.1 ∙ steps_of-append c before more.0 in absurd (omega (arith, adds, count, own, is, small, made)))
        | inr more ↦ (
            let rest : more.0 ++ after ≡ event ∷ by.after = append_cancel_left front (more.0 ++ after) (event ∷ by.after) (sym (append_assoc front more.0 after) ∙ ap (λ es. es ++ after) (sym more.1) ∙ whole) in
            let adds = ap (steps_of c) more.1 ∙ steps_of-append c front more.0 in
            let goes = begun more.0 rest (omega (arith, adds, count, own, is, small, made)) in
            let prefix : before ≡ by.before ++ goes.0 = more.1 ∙ ap (λ es. front ++ es) goes.1 ∙ sym (append_assoc front (event ∷ []) goes.0) ∙ ap (λ es. es ++ goes.0) (sym at.last.2) in
            let on = runs_on instance by.before goes.0 from by.moment s by.run (subst (λ es. Run instance from es s) prefix come) in
            let up = durable_run instance by.moment goes.0 s (run_kept instance from by.before by.moment law by.run) on in
            omega (arith, durable, up, kept))
      ]
    where
      begun : (more : List Event) → more ++ after ≡ at.last.1 ∷ at.by.after → 0 < steps_of c more → (rest : List Event) × (more ≡ at.last.1 ∷ rest)
      begun [] is some = absurd (omega (arith, some))
      begun (e ∷ more) is some = (more, ap (λ f. f ∷ more) (same_Some e at.last.1 (ap (λ (es : List Event). slice_get es 0) is)))

  -- the times of an image that a seat has
  there : (seat : Seated) (x : ImageTimes) → (has : Contains seat.known.times.images x) → slice_get seat.known.times.images has.0 ≡ Some x
  there seat x has = slice_get_read seat.known.times.images (length seat.known.times.images) has.0 x refl has.1 (sym has.2)

  pub keeps_images : (seats : List Seated) → All TimesOf seats → KeepsImages instance from events seats to
  keeps_images seats times = record {
    holds = λ seat other a m p x has has' end_ took. (
        let mine = (All-contains TimesOf seats other times has').images took.0 x (there other x took) in
        holds_answered other.known.local.number a m p x (ends_at seat a m (All-contains TimesOf seats seat times has) end_) mine.0);
    durable = λ other x before after s image has took. (let mine = (All-contains TimesOf seats other times has).images took.0 x (there other x took) in stays_durable other.known.local.number x before after s image mine.1);
  }

-- in the state with which a table opens no caller has made a step
module _ (instance : Instance) (limits : List ℕ) where
  abbrev known : ℕ → Known
  known = opening_known instance.callers instance.base.place limits

  none_of : (callers : List ℕ) (c : ℕ) (l : Local) → slice_get (map (λ (k : Known). k.local) (map known callers)) c ≡ Some l → l.steps ≡ 0
  none_of [] c l at = absurd (none-some l at)
  none_of (caller ∷ callers) zero l at = ap (λ (x : Local). x.steps) (sym (same_Some (known caller).local l at))
  none_of (caller ∷ callers) (suc c) l at = none_of callers c l at

  pub none_made : EachLocal (opening_limited instance limits).locals (λ _ l. l.steps ≡ 0)
  none_made c l at = none_of (range_with_len 0 instance.callers) c l at

  -- nor linked or read anything
  none_linked_of : (callers : List ℕ) (c : ℕ) (l : Local) → slice_get (map (λ (k : Known). k.local) (map known callers)) c ≡ Some l → (l.own ≡ []) × (l.seen_reads ≡ [])
  none_linked_of [] c l at = absurd (none-some l at)
  none_linked_of (caller ∷ callers) zero l at = (let same = same_Some (known caller).local l at in (ap (λ (x : Local). x.own) (sym same), ap (λ (x : Local). x.seen_reads) (sym same)))
  none_linked_of (caller ∷ callers) (suc c) l at = none_linked_of callers c l at

  pub none_linked : EachLocal (opening_limited instance limits).locals (λ _ l. (l.own ≡ []) × (l.seen_reads ≡ []))
  none_linked c l at = none_linked_of (range_with_len 0 instance.callers) c l at
