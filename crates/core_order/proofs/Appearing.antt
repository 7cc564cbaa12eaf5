-- The operations that took effect in a run, in the order in which they did: an update at its link, a read at its answer.
use Rattle.std.proofs.Common.{◌≡◌, ◌≢◌, ◌+◌, ◌-◌, ◌<◌, ◌≤◌, ◌⊎◌, inl, inr, ℕ, zero, suc, List, [], ◌∷◌, ◌++◌, Some, length, set, drop, refl, ap, sym, subst, ◌∙◌, arith}
use Rattle.std.proofs.lemmas.Bool.{cases_eq, cases_lt}
use Rattle.std.proofs.lemmas.Option.{same_Some, slice_get_within}
use Rattle.std.specs.List.{slice_get}
use Rattle.cx_core.specs.declared.kinds.Event.{Event}
use Rattle.cx_core.specs.declared.local.Linked.{Linked}
use Rattle.cx_core.specs.declared.local.Local.{Local}
use Rattle.cx_core.specs.Events.{Makes, Run, local_after, words_after}
use Rattle.cx_core.specs.Lawful.{Lawful}
use Rattle.cx_core.specs.Merge.{own_of, scene_of}
use Rattle.cx_core.specs.State.{Instance, State}
use Rattle.cx_core.proofs.ListLemmas.{item_below, slice_get-set_other, slice_get-set_same}
use Rattle.core_replica.proofs.StillLaws.{has_run}
use Rattle.core_runs.specs.RealTime.{Operation}
use Rattle.core_runs.specs.RealTime.Operation.{Update, Read}
use Rattle.core_order.specs.TotalOrder.{IsIn, TookEffect, StandsBefore}
use Rattle.core_runs.proofs.Going.{goes_run, own_stays}
use Rattle.core_runs.proofs.Keeps.{event_kept, run_kept}
use Rattle.core_order.proofs.Layers.{before_across, before_parts, before_right, in_either, in_left, in_right}

-- ---- operations of one caller and one kind, from an index on

abbrev index_of : Operation → ℕ
index_of (Update c i) = i
index_of (Read c i) = i

abbrev kind_of : Operation → ℕ
kind_of (Update c i) = 0
kind_of (Read c i) = 1

module _ (f : ℕ → Operation) (index : (i : ℕ) → index_of (f i) ≡ i) where
  abbrev from_on : ℕ → ℕ → List Operation
  from_on i zero = []
  from_on i (suc n) = f i ∷ from_on (i + 1) n

  in_from : (n i j : ℕ) → i ≤ j → j < i + n → IsIn (from_on i n) (f j)
  in_from zero i j from to = absurd (omega (arith, from, to))
  in_from (suc n) i j from to = elim (cases_eq j i) [
    | inl e ↦ inl (ap f e)
    | inr ne ↦ inr (in_from n (i + 1) j (omega (arith, from, ne)) (omega (arith, to)))
  ]

  of_from : (n i : ℕ) (o : Operation) → IsIn (from_on i n) o → (j : ℕ) × (o ≡ f j) × (i ≤ j) × (j < i + n)
  of_from zero i o has = absurd has
  of_from (suc n) i o has = elim has [
    | inl is ↦ (i, is, omega arith, omega arith)
    | inr rest ↦ (let r = of_from n (i + 1) o rest in let from = r.2 in let to = r.3 in (r.0, r.1, omega (arith, from), omega (arith, to)))
  ]

  from_once : (n i : ℕ) (o : Operation) → StandsBefore (from_on i n) o o → ⊥
  from_once zero i o twice = twice
  from_once (suc n) i o twice = elim twice [
    | inl first ↦ (
        let r = of_from n (i + 1) o first.1 in
        let from = r.2 in
        let same : i ≡ r.0 = sym (index i) ∙ ap index_of (sym first.0 ∙ r.1) ∙ index r.0 in
        absurd (omega (arith, same, from)))
    | inr rest ↦ from_once n (i + 1) o rest
  ]

-- ---- what took effect

pub made_or_not : (s : State) (o : Operation) → TookEffect s o ⊎ (TookEffect s o → ⊥)
made_or_not s (Update c i) = elim (cases_lt c (length s.locals)) [
  | inl within ↦ (
      let l = item_below s.locals c within in
      elim (cases_lt i (length l.0.own)) [
        | inl some ↦ inl (l.0, l.1, some)
        | inr past ↦ inr (λ made. (let same = ap (λ (x : Local). length x.own) (same_Some made.0 l.0 (sym made.1 ∙ l.1)) in let below = made.2 in absurd (omega (arith, same, below, past))))
      ])
  | inr out ↦ inr (λ made. (let within = slice_get_within s.locals c made.0 made.1 in absurd (omega (arith, within, out))))
]
made_or_not s (Read c i) = elim (cases_lt c (length s.locals)) [
  | inl within ↦ (
      let l = item_below s.locals c within in
      elim (cases_lt i (length l.0.seen_reads)) [
        | inl some ↦ inl (l.0, l.1, some)
        | inr past ↦ inr (λ made. (let same = ap (λ (x : Local). length x.seen_reads) (same_Some made.0 l.0 (sym made.1 ∙ l.1)) in let below = made.2 in absurd (omega (arith, same, below, past))))
      ])
  | inr out ↦ inr (λ made. (let within = slice_get_within s.locals c made.0 made.1 in absurd (omega (arith, within, out))))
]

module _ (instance : Instance) where
  -- an operation that took effect has taken effect in each state that a run leads to
  pub still_made : (from to : State) (events : List Event) (o : Operation) → Lawful instance from → Run instance from events to → TookEffect from o → TookEffect to o
  still_made from to events (Update c i) law run made =
      let law' = run_kept instance from events to law run in
      let grows = goes_run instance from events to law law' run in
      let base = instance.base.place in
      let l = made.0 in
      let still = has_run instance events from to c l run made.1 in
      let x = item_below l.own i made.2 in
      let was : slice_get (own_of c base law.history) i ≡ Some x.0 = ap (λ (os : List Linked). slice_get os i) (sym (law.tickets.merged.own c l made.1)) ∙ x.1 in
      let now : slice_get still.local.own i ≡ Some x.0 =
      ap (λ (os : List Linked). slice_get os i) (law'.tickets.merged.own c still.local still.of_caller) ∙ ap (λ h. slice_get (own_of c base h) i) grows.is ∙ own_stays c base law.history grows.more i x.0 was in
      (still.local, still.of_caller, slice_get_within still.local.own i x.0 now)
  still_made from to events (Read c i) law run made =
      let still = has_run instance events from to c made.0 run made.1 in
      let x = item_below made.0.seen_reads i made.2 in
      (still.local, still.of_caller, slice_get_within still.local.seen_reads i x.0 (still.has.reads i x.0 x.1))

  -- an event makes one state of a state
  pub makes_one : (event : Event) (s t t' : State) → Makes instance event s t → Makes instance event s t' → t ≡ t'
  makes_one event s t t' m m' =
      let l : m.local ≡ m'.local = same_Some m.local m'.local (sym m.of_caller ∙ m'.of_caller) in
      let words : t.words ≡ t'.words = m.words ∙ ap (λ x. words_after instance event.kind x s.words) l ∙ sym m'.words in
      let locals : t.locals ≡ t'.locals = m.locals ∙ ap (λ x. set s.locals event.caller (local_after instance (scene_of instance s) event.kind x)) l ∙ sym m'.locals in
      ap (λ ws. let u : State = record { words = ws; locals = t.locals } in u) words ∙ ap (λ ls. let u : State = record { words = t'.words; locals = ls } in u) locals

  -- a run goes on from the state that a prefix of it reaches
  pub runs_on : (x y : List Event) (from mid to : State) → Run instance from x mid → Run instance from (x ++ y) to → Run instance mid y to
  runs_on [] y from mid to first whole = subst (λ (s : State). Run instance s y to) (sym first) whole
  runs_on (e ∷ x) y from mid to first whole =
      runs_on x y first.0 mid to first.2 (subst (λ (s : State). Run instance s (x ++ y) to) (makes_one e from whole.0 first.0 whole.1 first.1) whole.2)

  -- ---- one event

  module _ (e : Event) (s t : State) (m : Makes instance e s t) where
    abbrev now : Local
    now = local_after instance (scene_of instance s) e.kind m.local

    abbrev updates : List Operation
    updates = from_on (λ i. Update e.caller i) (λ i. refl) (length m.local.own) (length now.own - length m.local.own)

    abbrev reads : List Operation
    reads = from_on (λ i. Read e.caller i) (λ i. refl) (length m.local.seen_reads) (length now.seen_reads - length m.local.seen_reads)

    abbrev news : List Operation
    news = updates ++ reads

    there : slice_get t.locals e.caller ≡ Some now
    there = ap (λ ls. slice_get ls e.caller) m.locals ∙ slice_get-set_same s.locals e.caller now (slice_get_within s.locals e.caller m.local m.of_caller)

    other : (d : ℕ) → d ≢ e.caller → slice_get t.locals d ≡ slice_get s.locals d
    other d ne = ap (λ ls. slice_get ls d) m.locals ∙ slice_get-set_other s.locals e.caller d now ne

    new_made : (o : Operation) → IsIn news o → TookEffect t o × (TookEffect s o → ⊥)
    new_made o has = elim (in_either updates reads o has) [
      | inl is ↦ (
          let r = of_from (λ i. Update e.caller i) (λ i. refl) (length now.own - length m.local.own) (length m.local.own) o is in
          let from = r.2 in
          let to = r.3 in
          subst (λ (x : Operation). TookEffect t x × (TookEffect s x → ⊥)) (sym r.1) (
            (now, there, omega (arith, from, to)),
            λ made. (let same = ap (λ (x : Local). length x.own) (same_Some made.0 m.local (sym made.1 ∙ m.of_caller)) in let below = made.2 in absurd (omega (arith, same, below, from))),
          ))
      | inr is ↦ (
          let r = of_from (λ i. Read e.caller i) (λ i. refl) (length now.seen_reads - length m.local.seen_reads) (length m.local.seen_reads) o is in
          let from = r.2 in
          let to = r.3 in
          subst (λ (x : Operation). TookEffect t x × (TookEffect s x → ⊥)) (sym r.1) (
            (now, there, omega (arith, from, to)),
            λ made. (let same = ap (λ (x : Local). length x.seen_reads) (same_Some made.0 m.local (sym made.1 ∙ m.of_caller)) in let below = made.2 in absurd (omega (arith, same, below, from))),
          ))
    ]

    made_new : (o : Operation) → TookEffect t o → (TookEffect s o → ⊥) → IsIn news o
    made_new (Update d j) made not = elim (cases_eq d e.caller) [
      | inl mine ↦ (
          let is = ap (λ (x : Local). length x.own) (same_Some made.0 now (sym made.1 ∙ ap (slice_get t.locals) mine ∙ there)) in
          let below = made.2 in
          let from : length m.local.own ≤ j = elim (cases_lt j (length m.local.own)) [ inl was ↦ absurd (not (m.local, ap (slice_get s.locals) mine ∙ m.of_caller, was)) | inr past ↦ past ] in
          subst (λ c. IsIn news (Update c j)) (sym mine)
          (in_left updates reads (Update e.caller j) (in_from (λ i. Update e.caller i) (λ i. refl) (length now.own - length m.local.own) (length m.local.own) j from (omega (arith, is, below, from)))))
      | inr ne ↦ absurd (not (made.0, sym (other d ne) ∙ made.1, made.2))
    ]
    made_new (Read d j) made not = elim (cases_eq d e.caller) [
      | inl mine ↦ (
          let is = ap (λ (x : Local). length x.seen_reads) (same_Some made.0 now (sym made.1 ∙ ap (slice_get t.locals) mine ∙ there)) in
          let below = made.2 in
          let from : length m.local.seen_reads ≤ j = elim (cases_lt j (length m.local.seen_reads)) [ inl was ↦ absurd (not (m.local, ap (slice_get s.locals) mine ∙ m.of_caller, was)) | inr past ↦ past ] in
          subst (λ c. IsIn news (Read c j)) (sym mine)
          (in_right updates reads (Read e.caller j) (in_from (λ i. Read e.caller i) (λ i. refl) (length now.seen_reads - length m.local.seen_reads) (length m.local.seen_reads) j from (omega (arith, is, below, from)))))
      | inr ne ↦ absurd (not (made.0, sym (other d ne) ∙ made.1, made.2))
    ]

    new_once : (o : Operation) → StandsBefore news o o → ⊥
    new_once o twice = elim (before_parts updates reads o o twice) [
      | inl left ↦ from_once (λ i. Update e.caller i) (λ i. refl) (length now.own - length m.local.own) (length m.local.own) o left
      | inr rest ↦ elim rest [
        | inl right ↦ from_once (λ i. Read e.caller i) (λ i. refl) (length now.seen_reads - length m.local.seen_reads) (length m.local.seen_reads) o right
        | inr across ↦ (
            let u = of_from (λ i. Update e.caller i) (λ i. refl) (length now.own - length m.local.own) (length m.local.own) o across.0 in
            let r = of_from (λ i. Read e.caller i) (λ i. refl) (length now.seen_reads - length m.local.seen_reads) (length m.local.seen_reads) o across.1 in
            let same : 0 ≡ 1 = ap kind_of (sym u.1 ∙ r.1) in
            absurd (omega (arith, same)))
      ]
    ]

  -- ---- a run

  -- The operations of a run, each once: what took effect by a moment stands before what took effect behind it.
  pub record Appears (from : State) (events : List Event) (to : State) : Type 0 where
    pub all : List Operation
    pub each : (o : Operation) → TookEffect to o → (TookEffect from o → ⊥) → IsIn all o
    pub only : (o : Operation) → IsIn all o → TookEffect to o × (TookEffect from o → ⊥)
    pub once : (o : Operation) → StandsBefore all o o → ⊥
    pub moments : (before after : List Event) (moment : State) (a b : Operation) → events ≡ before ++ after → Run instance from before moment →
        TookEffect moment a → (TookEffect from a → ⊥) → TookEffect to b → (TookEffect moment b → ⊥) → StandsBefore all a b

  -- two equal lists of events begin with the same event
  heads : (e f : Event) (x y : List Event) → e ∷ x ≡ f ∷ y → e ≡ f
  heads e f x y is = same_Some e f (ap (λ (es : List Event). slice_get es 0) is)

  pub appear : (from : State) (events : List Event) (to : State) → Lawful instance from → Run instance from events to → Appears from events to
  appear from [] to law run = record {
    all = [];
    each = λ o made not. absurd (not (subst (λ (s : State). TookEffect s o) run made));
    only = λ o has. absurd has;
    once = λ o twice. twice;
    moments = nothing_passed;
  }
    where
      nothing_passed : (before after : List Event) (moment : State) (a b : Operation) → [] ≡ before ++ after → Run instance from before moment →
          TookEffect moment a → (TookEffect from a → ⊥) → TookEffect to b → (TookEffect moment b → ⊥) → StandsBefore [] a b
      nothing_passed [] after moment a b are by made_a new_a made_b new_b = absurd (new_a (subst (λ (s : State). TookEffect s a) by made_a))
      nothing_passed (e ∷ before) after moment a b are by made_a new_a made_b new_b = (let long = ap length are in absurd (omega (arith, long)))
  appear from (e ∷ events) to law run =
      let mid = run.0 in
      let m = run.1 in
      let law_mid = event_kept instance e from mid law m in
      let rest = appear mid events to law_mid run.2 in
      let first = news e from mid m in
      record {
        all = first ++ rest.all;
        each = λ o made not. elim (made_or_not mid o) [
          | inl here ↦ in_left first rest.all o (made_new e from mid m o here not)
          | inr later ↦ in_right first rest.all o (rest.each o made later)
        ];
        only = λ o has. elim (in_either first rest.all o has) [
          | inl here ↦ (let is = new_made e from mid m o here in (still_made mid to events o law_mid run.2 is.0, is.1))
          | inr later ↦ (let is = rest.only o later in (is.0, λ was. is.1 (still_made from mid (e ∷ []) o law (mid, m, refl) was)))
        ];
        once = λ o twice. elim (before_parts first rest.all o o twice) [
          | inl left ↦ new_once e from mid m o left
          | inr other ↦ elim other [
            | inl right ↦ rest.once o right
            | inr across ↦ (rest.only o across.1).1 (new_made e from mid m o across.0).0
          ]
        ];
        moments = passed mid m law_mid rest;
      }
    where
      -- what took effect by a moment of the run stands before what took effect behind it, whether the moment is before the event `e` or behind it
      passed : (mid : State) (m : Makes instance e from mid) → Lawful instance mid → (rest : Appears mid events to) (before after : List Event) (moment : State) (a b : Operation) → e ∷ events ≡ before ++ after → Run instance from before moment →
          TookEffect moment a → (TookEffect from a → ⊥) → TookEffect to b → (TookEffect moment b → ⊥) → StandsBefore (news e from mid m ++ rest.all) a b
      passed mid m law_mid rest [] after moment a b are by made_a new_a made_b new_b = absurd (new_a (subst (λ (s : State). TookEffect s a) by made_a))
      passed mid m law_mid rest (f ∷ before) after moment a b are by made_a new_a made_b new_b =
          let head : e ≡ f = heads e f events (before ++ after) are in
          let tail : events ≡ before ++ after = ap (drop 1) are in
          let same : by.0 ≡ mid = makes_one e from by.0 mid (subst (λ (x : Event). Makes instance x from by.0) (sym head) by.1) m in
          let on : Run instance mid before moment = subst (λ (s : State). Run instance s before moment) same by.2 in
          let not_b : TookEffect mid b → ⊥ = λ was. new_b (still_made mid moment before b law_mid on was) in
          elim (made_or_not mid a) [
            | inl here ↦ before_across (news e from mid m) rest.all a b (made_new e from mid m a here new_a) (rest.each b made_b not_b)
            | inr later ↦ before_right (news e from mid m) rest.all a b (rest.moments before after moment a b tail on made_a later made_b new_b)
          ]
