-- The times of a caller's operations go on with each step.
use Rattle.std.proofs.Common.{◌≡◌, ◌+◌, ◌==◌, ◌<◌, ◌≤◌, ◌⊎◌, inl, inr, ℕ, nat_lt, Bool, cond, true, false, List, [], ◌∷◌, ◌++◌, Some, None, length, refl, ap, sym, subst, ◌∙◌, arith, append_assoc}
use Rattle.std.proofs.lemmas.Bool.{false≢true}
use Rattle.std.proofs.lemmas.List.{append-nil, length-append}
use Rattle.std.specs.List.{slice_get}
use Rattle.core_runs.specs.RealTime.{Operation}
use Rattle.core_runs.specs.RealTime.Operation.{Update, Read}
use Rattle.cx_core.specs.declared.kinds.Event.{Event}
use Rattle.cx_core.specs.declared.kinds.Kind.{Kind}
use Rattle.cx_core.specs.declared.kinds.Kind.TheVariants.{Confirm, Link, LoadCur, LoadWord, TryExclusive, TryShared, BackOff, Publish, Raise, OpenFree, WriteCell}
use Rattle.cx_core.specs.declared.local.Local.{Local}
use Rattle.cx_core.specs.Events.{Run, next}
use Rattle.cx_core.specs.LockEvents.{exclusive_mark, is_fresh_on, passing, refused_by, shared_by, taken}
use Rattle.cx_core.specs.QueueEvents.{linked, lost, seen_word}
use Rattle.cx_core.specs.Rights.{is_at, shared_on}
use Rattle.cx_core.specs.RingEvents.{shows_outdated}
use Rattle.cx_core.specs.RootEvents.{outrun, published}
use Rattle.cx_core.specs.Shown.{shown}
use Rattle.cx_core.specs.State.{Instance, Scene, State, one_more}
use Rattle.cx_core.proofs.Locals.{slice_get-push}
use Rattle.cx_core.proofs.Putting.{either}
use Rattle.cx_base.specs.Codes.{root_place_of}
use Rattle.table_invariant.specs.declared.rule.ImageTimes.{ImageTimes}
use Rattle.table_invariant.specs.declared.rule.Times.{Times}
use Rattle.table_invariant.specs.Seats.{times_by}
use Rattle.table_invariant.specs.Timing.{AddTimes, AreTimes, BeginsAt, BelowAt, ComesBy, DurableAt, EndsAt}
use Rattle.table_invariant.proofs.Current.{MovesOn}

module _ (instance : Instance) (from : State) (events : List Event) where
  -- a moment that a run comes by is one that a longer run comes by
  abbrev by_longer : (more : List Event) (caller steps : ℕ) → ComesBy instance from events caller steps → ComesBy instance from (events ++ more) caller steps
  by_longer more caller steps by = record {
    before = by.before;
    after = by.after ++ more;
    are = ap (λ (es : List Event). es ++ more) by.are ∙ append_assoc by.before by.after more;
    moment = by.moment;
    run = by.run;
    local = by.local;
    of_caller = by.of_caller;
    count = by.count;
  }

  begins_longer : (more : List Event) (caller : ℕ) (operation : Operation) (steps : ℕ) → BeginsAt instance from events caller operation steps → BeginsAt instance from (events ++ more) caller operation steps
  begins_longer more caller operation steps at = record { by = by_longer more caller steps at.by; ahead = at.ahead }

  ends_longer : (more : List Event) (caller : ℕ) (operation : Operation) (steps : ℕ) → EndsAt instance from events caller operation steps → EndsAt instance from (events ++ more) caller operation steps
  ends_longer more caller operation steps at = record { by = by_longer more caller steps at.by; answered = at.answered }

  below_longer : (more : List Event) (caller place higher steps : ℕ) → place ≤ higher → BelowAt instance from events caller place steps → BelowAt instance from (events ++ more) caller higher steps
  below_longer more caller place higher steps up at = record {
    by = by_longer more caller steps at.by;
    next = (at.next.0, at.next.1 ++ more, ap (λ (es : List Event). es ++ more) at.next.2, at.next.3);
    below = λ c l here. (
        let was = at.below c l here in (
          λ i x there. (let below = was.0 i x there in omega (arith, below, up)),
          λ i x there. (let below = was.1 i x there in omega (arith, below, up)),
        ));
  }

  durable_longer : (more : List Event) (caller place steps : ℕ) → DurableAt instance from events caller place steps → DurableAt instance from (events ++ more) caller place steps
  durable_longer more caller place steps at = record { by = by_longer more caller steps at.by; last = at.last; durable = at.durable }

  -- the times of a caller that made none of the further steps of a longer run stay
  pub times_longer : (more : List Event) (caller : ℕ) (l : Local) (t : Times) → AreTimes instance from events caller l t → AreTimes instance from (events ++ more) caller l t
  times_longer more caller l t are = record {
    all_linked = are.all_linked;
    linked = λ i n at. begins_longer more caller (Update caller i) n (are.linked i n at);
    all_answered = are.all_answered;
    answered = λ i n at. ends_longer more caller (Update caller i) n (are.answered i n at);
    loaded = λ fresh. begins_longer more caller (Read caller (length l.seen_reads)) t.loaded (are.loaded fresh);
    all_reads = are.all_reads;
    begun = λ i x at. begins_longer more caller (Read caller i) x.0 (are.begun i x at);
    read = λ i x at. ends_longer more caller (Read caller i) x.1 (are.read i x at);
    seen = are.seen;
    current = λ is. below_longer more caller (root_place_of instance.callers l.seen_cur) (root_place_of instance.callers l.seen_cur) t.loaded (omega arith) (are.current is);
    images = λ i x at. (let both = are.images i x at in (below_longer more caller x.place x.place x.begun (omega arith) both.0, durable_longer more caller x.durable x.ended both.1));
  }

  -- a caller's own step
  module _ (event : Event) (state state' : State) (caller : ℕ) (x x' : Local) (run : Run instance from events state) (run' : Run instance from (events ++ event ∷ []) state')
      (here : slice_get state.locals caller ≡ Some x) (here' : slice_get state'.locals caller ≡ Some x') (own : event.caller ≡ caller) (moves : MovesOn instance state state' x x') where
    abbrev now_on : List Event
    now_on = events ++ event ∷ []

    -- the moment at which the caller's step is made
    abbrev at_step : ComesBy instance from now_on caller x.steps
    at_step = record { before = events; after = event ∷ []; are = refl; moment = state; run = run; local = x; of_caller = here; count = refl }

    -- the moment right after the caller's step
    abbrev behind_step : ComesBy instance from now_on caller x'.steps
    behind_step = record { before = now_on; after = []; are = sym (append-nil now_on); moment = state'; run = run'; local = x'; of_caller = here'; count = refl }

    pub times_added : (t t' : Times) → AreTimes instance from events caller (shown x) t → AddTimes instance.callers x x' t t' → AreTimes instance from now_on caller (shown x') t'
    times_added t t' are add = record {
      all_linked = elim add.linked [
        | inl same ↦ ap length same.1 ∙ are.all_linked ∙ sym same.0
        | inr more ↦ ap length more.1 ∙ length-append t.linked (x.steps ∷ []) ∙ ap (λ n. n + 1) are.all_linked ∙ sym more.0
      ];
      linked = λ i n at. elim add.linked [
        | inl same ↦ begins_longer (event ∷ []) caller (Update caller i) n (are.linked i n (ap (λ ns. slice_get ns i) (sym same.1) ∙ at))
        | inr more ↦ elim (slice_get-push t.linked x.steps i n (ap (λ ns. slice_get ns i) (sym more.1) ∙ at)) [
          | inl was ↦ begins_longer (event ∷ []) caller (Update caller i) n (are.linked i n was)
          | inr new ↦ (
              let all = are.all_linked in
              let is = new.0 in
              subst (BeginsAt instance from now_on caller (Update caller i)) new.1 (record { by = at_step; ahead = (x, here, (let e : length x.own ≤ i = omega (arith, all, is) in e)) }))
        ]
      ];
      all_answered = elim add.answered [
        | inl same ↦ ap length same.1 ∙ are.all_answered ∙ sym same.0
        | inr more ↦ ap length more.1 ∙ length-append t.answered (x'.steps ∷ []) ∙ ap (λ n. n + 1) are.all_answered ∙ sym more.0
      ];
      answered = λ i n at. elim add.answered [
        | inl same ↦ ends_longer (event ∷ []) caller (Update caller i) n (are.answered i n (ap (λ ns. slice_get ns i) (sym same.1) ∙ at))
        | inr more ↦ elim (slice_get-push t.answered x'.steps i n (ap (λ ns. slice_get ns i) (sym more.1) ∙ at)) [
          | inl was ↦ ends_longer (event ∷ []) caller (Update caller i) n (are.answered i n was)
          | inr new ↦ (
              let all = are.all_answered in
              let is = new.0 in
              let one = more.0 in
              subst (EndsAt instance from now_on caller (Update caller i)) new.1 (record { by = behind_step; answered = (x', here', (let e : i < length x'.answered = omega (arith, all, is, one) in e)) }))
        ]
      ];
      loaded = λ fresh. (
          let a = add.loaded fresh in
          elim a.1 [
            | inl still ↦ subst (λ m. BeginsAt instance from now_on caller (Read caller m) t'.loaded) (sym a.0)
                (subst (BeginsAt instance from now_on caller (Read caller (length x.seen_reads))) (sym still.1) (begins_longer (event ∷ []) caller (Read caller (length x.seen_reads)) t.loaded (are.loaded still.0)))
            | inr begins ↦ subst (λ m. BeginsAt instance from now_on caller (Read caller m) t'.loaded) (sym a.0)
                (subst (BeginsAt instance from now_on caller (Read caller (length x.seen_reads))) (sym begins.1) (record { by = at_step; ahead = (x, here, (let e : length x.seen_reads ≤ length x.seen_reads = omega arith in e), begins.0) }))
          ]);
      all_reads = elim add.reads [
        | inl same ↦ ap length same.1 ∙ are.all_reads ∙ sym same.0
        | inr more ↦ ap length more.2 ∙ length-append t.reads ((t.loaded, x'.steps) ∷ []) ∙ ap (λ n. n + 1) are.all_reads ∙ sym more.1
      ];
      begun = λ i y at. elim add.reads [
        | inl same ↦ begins_longer (event ∷ []) caller (Read caller i) y.0 (are.begun i y (ap (λ ys. slice_get ys i) (sym same.1) ∙ at))
        | inr more ↦ elim (slice_get-push t.reads (t.loaded, x'.steps) i y (ap (λ ys. slice_get ys i) (sym more.2) ∙ at)) [
          | inl was ↦ begins_longer (event ∷ []) caller (Read caller i) y.0 (are.begun i y was)
          | inr new ↦ subst (λ (z : ℕ × ℕ). BeginsAt instance from now_on caller (Read caller i) z.0) new.1
              (subst (λ m. BeginsAt instance from now_on caller (Read caller m) t.loaded) (sym are.all_reads ∙ sym new.0) (begins_longer (event ∷ []) caller (Read caller (length x.seen_reads)) t.loaded (are.loaded more.0)))
        ]
      ];
      read = λ i y at. elim add.reads [
        | inl same ↦ ends_longer (event ∷ []) caller (Read caller i) y.1 (are.read i y (ap (λ ys. slice_get ys i) (sym same.1) ∙ at))
        | inr more ↦ elim (slice_get-push t.reads (t.loaded, x'.steps) i y (ap (λ ys. slice_get ys i) (sym more.2) ∙ at)) [
          | inl was ↦ ends_longer (event ∷ []) caller (Read caller i) y.1 (are.read i y was)
          | inr new ↦ (
              let all = are.all_reads in
              let is = new.0 in
              let one = more.1 in
              subst (λ (z : ℕ × ℕ). EndsAt instance from now_on caller (Read caller i) z.1) new.1
              (record { by = behind_step; answered = (x', here', (let e : i < length x'.seen_reads = omega (arith, all, is, one) in e)) }))
        ]
      ];
      seen = λ fresh. elim add.current [
        | inl same ↦ same.1 ∙ are.seen (same.2 fresh)
        | inr loads ↦ loads.1
      ];
      current = λ is. elim add.current [
        | inl same ↦ subst (BelowAt instance from now_on caller (root_place_of instance.callers x'.seen_cur)) (sym same.0)
            (below_longer (event ∷ []) caller (root_place_of instance.callers x.seen_cur) (root_place_of instance.callers x'.seen_cur) t.loaded moves.rises (are.current (sym same.1 ∙ is)))
        | inr loads ↦ subst (BelowAt instance from now_on caller (root_place_of instance.callers x'.seen_cur)) (sym loads.0) (record {
          by = at_step;
          next = (event, [], refl, own);
          below = λ c l at. (
              let finds = moves.finds loads.2 loads.3 in
              let was = moves.answered c l at in (
                λ i y there. (let below = was.0 i y there in omega (arith, below, finds)),
                λ i y there. (let below = was.1 i y there in omega (arith, below, finds)),
              ));
        })
      ];
      images = λ i y at. elim add.images [
        | inl same ↦ images_longer i y (ap (λ ys. slice_get ys i) (sym same) ∙ at)
        | inr more ↦ elim (slice_get-push t.images more.0 i y (ap (λ ys. slice_get ys i) (sym more.1) ∙ at)) [
          | inl was ↦ images_longer i y was
          | inr new ↦ (
              let is = more.2 in
              subst (λ (z : ImageTimes). BelowAt instance from now_on caller z.place z.begun × DurableAt instance from now_on caller z.durable z.ended) new.1 (
                subst (λ n. BelowAt instance from now_on caller more.0.place n) (sym is.begun)
                    (below_longer (event ∷ []) caller (root_place_of instance.callers x.seen_cur) more.0.place t.loaded (let place = is.place in omega (arith, place)) (are.current is.seen)),
                subst (λ n. DurableAt instance from now_on caller more.0.durable n) (sym is.ended) (record { by = behind_step; last = (events, event, refl, own); durable = (let raised = moves.raised in let durable = is.durable in omega (arith, raised, durable)) }),
              ))
        ]
      ];
    }
      where
        images_longer : (i : ℕ) (y : ImageTimes) → slice_get t.images i ≡ Some y → BelowAt instance from now_on caller y.place y.begun × DurableAt instance from now_on caller y.durable y.ended
        images_longer i y was = (let both = are.images i y was in (below_longer (event ∷ []) caller y.place y.place y.begun (omega arith) both.0, durable_longer (event ∷ []) caller y.durable y.ended both.1))

-- a step that links, answers and loads nothing
abbrev Adds : ℕ → Times → Local → Local → Type 0
Adds callers t l l' = AddTimes callers l l' t t

-- a step from `l` to `l'` that adds no own entry, answer or read, and makes nothing fresh, leaves the times `t` as they are
same_times : (callers : ℕ) (l l' : Local) (t : Times) → l'.own ≡ l.own → l'.answered ≡ l.answered → l'.seen_reads ≡ l.seen_reads → (l'.fresh ≡ true → l.fresh ≡ true) → Adds callers t l l'
same_times callers l l' t own answered reads fresh = record {
  linked = inl (ap length own, refl);
  answered = inl (ap length answered, refl);
  loaded = λ is. (ap length reads, inl (fresh is, refl));
  reads = inl (ap length reads, refl);
  current = inl (refl, refl, fresh);
  images = inl refl;
}

never : (l : Local) → false ≡ true → l.fresh ≡ true
never l is = absurd (false≢true is)

ended : (b : Bool) (l : Local) → cond b false l.fresh ≡ true → l.fresh ≡ true
ended true l is = absurd (false≢true is)
ended false l is = is

-- a link that won, and one that lost
linking : (b : Bool) (instance : Instance) (l : Local) (j found : ℕ) (t : Times) → AddTimes instance.callers l (cond b (linked l j) (lost instance.callers l found)) t (record t { linked = t.linked ++ cond b (l.steps ∷ []) [] })
linking true instance l j found t = record {
  linked = inr (length-append l.own _, refl);
  answered = inl (refl, refl);
  loaded = λ is. (refl, inl (is, refl));
  reads = inl (refl, refl);
  current = inl (refl, refl, λ is. is);
  images = inl refl;
}
linking false instance l j found t = record {
  linked = inl (refl, append-nil t.linked);
  answered = inl (refl, refl);
  loaded = λ is. (refl, inl (is, refl));
  reads = inl (refl, refl);
  current = inl (refl, refl, λ is. is);
  images = inl refl;
}

loading : (b : Bool) (l : Local) (loaded : ℕ) → l.fresh ≡ b → ((l.fresh ≡ true) × (cond b loaded l.steps ≡ loaded)) ⊎ ((l.fresh ≡ false) × (cond b loaded l.steps ≡ l.steps))
loading true l loaded is = inl (is, refl)
loading false l loaded is = inr (is, refl)

finding : (b : Bool) (l : Local) (t : Times) → l.fresh ≡ b → ((cond b t.loaded l.steps ≡ t.loaded) × (cond b t.seen true ≡ t.seen) × (true ≡ true → l.fresh ≡ true)) ⊎ ((cond b t.loaded l.steps ≡ l.steps) × (cond b t.seen true ≡ true) × (l.fresh ≡ false) × (true ≡ true))
finding true l t is = inl (refl, refl, λ _. is)
finding false l t is = inr (refl, refl, is, refl)

-- a raise's times are its answers'
abbrev pub IsTimed : Kind → Type 0
IsTimed (Raise code read) = ⊥
IsTimed kind = Unit {0}

pub times_next : (instance : Instance) (scene : Scene) (kind : Kind) (l : Local) (found : ℕ) (t : Times) → IsTimed kind → AddTimes instance.callers l (next instance scene kind l found) t (times_by kind (shown l) t found)
times_next instance scene (Raise code read) l found t timed = absurd timed
times_next instance scene (WriteCell j i v) l found t timed = same_times instance.callers l _ t refl refl refl (never l)
times_next instance scene (Link j) l found t timed = linking (found == seen_word l.seen_slot) instance l j found t
times_next instance scene (TryExclusive r) l found t timed =
    either (Adds instance.callers t l) (found == 0) (taken instance scene r l) (refused_by instance.callers r l found) (same_times instance.callers l _ t refl refl refl (λ is. is)) (same_times instance.callers l _ t refl refl refl (λ is. is))
times_next instance scene (TryShared r) l found t timed =
    either (Adds instance.callers t l) (nat_lt found exclusive_mark) (shared_by r l found) (passing instance.callers r l found)
    (same_times instance.callers l _ t refl refl refl (λ is. is)) (same_times instance.callers l _ t refl refl refl (ended (is_fresh_on instance.callers r l) l))
times_next instance scene (BackOff r) l found t timed =
    let a = record l { shared = None; steps = one_more l.steps } in
    let b = record l { passer = None; steps = one_more l.steps } in
    let c = record l { downgraded = None; steps = one_more l.steps } in
    either (Adds instance.callers t l) (is_at r (shared_on l)) a (cond (is_at r l.passer) b c) (same_times instance.callers l _ t refl refl refl (λ is. is))
    (either (Adds instance.callers t l) (is_at r l.passer) b c (same_times instance.callers l _ t refl refl refl (λ is. is)) (same_times instance.callers l _ t refl refl refl (λ is. is)))
times_next instance scene (LoadWord r i refused) l found t timed = same_times instance.callers l _ t refl refl refl (ended refused l)
times_next instance scene LoadCur l found t timed = record {
  linked = inl (refl, refl);
  answered = inl (refl, refl);
  loaded = λ is. (refl, loading l.fresh l t.loaded refl);
  reads = inl (refl, refl);
  current = finding l.fresh l t refl;
  images = inl refl;
}
times_next instance scene Publish l found t timed =
    either (Adds instance.callers t l) (found == l.seen_cur) (published instance.callers l) (outrun instance.callers l found) (same_times instance.callers l _ t refl refl refl (never l)) (same_times instance.callers l _ t refl refl refl (never l))
times_next instance scene Confirm l found t timed = same_times instance.callers l _ t refl refl refl (ended (shows_outdated instance.callers l found l.protection) l)
times_next instance scene OpenFree l found t timed = same_times instance.callers l _ t refl refl refl (never l)
times_next instance scene kind l found t timed = same_times instance.callers l _ t refl refl refl (λ is. is)
