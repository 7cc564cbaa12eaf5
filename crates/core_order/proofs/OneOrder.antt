-- The operations of a run in one order, layer by layer: the reads at a place, in the order of their answers, and then the update whose ticket it is.
use Rattle.std.proofs.Common.{◌≡◌, ◌+◌, ◌-◌, ◌*◌, ◌<◌, ◌≤◌, inl, inr, ℕ, zero, suc, Bool, IsTrue, List, [], ◌∷◌, ◌++◌, Option, None, Some, length, take, map, refl, ap, sym, subst, ◌∙◌, arith}
use Rattle.std.proofs.lemmas.Bool.{cases_eq, cases_lt}
use Rattle.std.proofs.lemmas.List.{take_more}
use Rattle.std.proofs.lemmas.Option.{get_or_from_slice_get, none-some, same_Some, slice_get_within}
use Rattle.std.specs.List.{range_with_len, slice_get}
use Rattle.cx_base.specs.Memory.{Words}
use Rattle.cx_core.specs.declared.entry.Base.{Base}
use Rattle.cx_core.specs.declared.entry.Entry.{Entry}
use Rattle.cx_core.specs.declared.kinds.Event.{Event}
use Rattle.cx_core.specs.declared.local.Linked.{Linked}
use Rattle.cx_core.specs.declared.local.Local.{Local}
use Rattle.cx_core.specs.declared.local.SeenRead.{SeenRead}
use Rattle.cx_core.specs.Base.{LawfulBase}
use Rattle.cx_core.specs.Events.{Run}
use Rattle.cx_core.specs.History.{image_after}
use Rattle.cx_core.specs.Lawful.{Lawful}
use Rattle.cx_core.specs.Merge.{own_of}
use Rattle.cx_core.specs.Region.{object_part}
use Rattle.cx_core.specs.State.{Instance, State, opening_local, opening_state}
use Rattle.cx_core.proofs.ListLemmas.{item_below}
use Rattle.cx_core.proofs.MergeLemmas.{has_own, own_at, own_mine, own_other}
use Rattle.core_replica.proofs.OwnLaws.{own_rises}
use Rattle.core_replica.proofs.Places.{durable_within}
use Rattle.core_replica.proofs.ReplyLaws.{reply_own}
use Rattle.core_runs.specs.RealTime.{IsAhead, IsAnswered, IsBefore, IsPointOf, Operation, Point}
use Rattle.core_runs.specs.RealTime.Operation.{Update, Read}
use Rattle.core_runs.specs.RealTime.Point.{At, Behind}
use Rattle.core_order.specs.TotalOrder.{IsIn, TookEffect, IsUnmade, Replays, RunsHaveOrder, StandsBefore}
use Rattle.core_order.proofs.Appearing.{appear, runs_on, still_made}
use Rattle.core_runs.proofs.Keeps.{bounds_of, run_kept}
use Rattle.core_order.proofs.Layers.{in_layers, in_only, layers, layers_before, layers_once, of_layers, of_only, one_alone, only_at, only_before}
use Rattle.core_runs.proofs.Ordering.{in_order}
use Rattle.core_runs.proofs.WholeLaws.{entries_of}

-- ---- keys: of an update twice its ticket and 1, of a read twice its place

abbrev own_in : Option Local → ℕ → Option Linked
own_in None i = None
own_in (Some l) i = slice_get l.own i

abbrev read_in : Option Local → ℕ → Option SeenRead
read_in None i = None
read_in (Some l) i = slice_get l.seen_reads i

abbrev key_own : Option Linked → ℕ
key_own None = 0
key_own (Some x) = 2 * x.ticket + 1

abbrev key_read : Option SeenRead → ℕ
key_read None = 0
key_read (Some x) = 2 * x.place

abbrev key_in : State → Operation → ℕ
key_in s (Update c i) = key_own (own_in (slice_get s.locals c) i)
key_in s (Read c i) = key_read (read_in (slice_get s.locals c) i)

abbrev point_key : Point → ℕ
point_key (At ticket) = 2 * ticket + 1
point_key (Behind place) = 2 * place

-- the key of an operation `o` is that of its point `p` in the history: odd for an update's ticket, even for a read's place
key_at : (s : State) (o : Operation) (p : Point) → IsPointOf s o p → key_in s o ≡ point_key p
key_at s (Update c i) p at = ap (λ (x : Option Local). key_own (own_in x i)) at.1 ∙ ap key_own at.3 ∙ sym (ap point_key at.4)
key_at s (Read c i) p at = ap (λ (x : Option Local). key_read (read_in x i)) at.1 ∙ ap key_read at.3 ∙ sym (ap point_key at.4)

keys_rise : (p q : Point) → IsBefore p q → point_key p ≤ point_key q
keys_rise (At t) (At u) before = omega (arith, before)
keys_rise (At t) (Behind r) before = omega (arith, before)
keys_rise (Behind r) (At t) before = omega (arith, before)
keys_rise (Behind r) (Behind s) before = omega (arith, before)

has_point : (s : State) (o : Operation) → TookEffect s o → (p : Point) × IsPointOf s o p
has_point s (Update c i) made = (let x = item_below made.0.own i made.2 in (At x.0.ticket, (made.0, made.1, x.0, x.1, refl)))
has_point s (Read c i) made = (let x = item_below made.0.seen_reads i made.2 in (Behind x.0.place, (made.0, made.1, x.0, x.1, refl)))

-- 2 n + 1
abbrev odd : ℕ → ℕ
odd zero = suc zero
odd (suc n) = suc (suc (odd n))

odd_is : (n : ℕ) → odd n ≡ 2 * n + 1
odd_is zero = refl
odd_is (suc n) = (let is = odd_is n in omega (arith, is))

-- an entry more
image_push : (step : List ℕ → List ℕ → List ℕ × List ℕ) (image : List ℕ) (xs : List Entry) (entry : Entry) → image_after step image (xs ++ entry ∷ []) ≡ (step (image_after step image xs) entry.op).0
image_push step image [] entry = refl
image_push step image (x ∷ xs) entry = image_push step (step image x.op).0 xs entry

-- an own entry is its caller's
own_caller : (caller ticket : ℕ) (history : List Entry) (i : ℕ) (x : Linked) → slice_get (own_of caller ticket history) i ≡ Some x → x.entry.caller ≡ caller
own_caller caller ticket [] i x at = absurd (none-some x at)
own_caller caller ticket (e ∷ rest) i x at = elim (cases_eq e.caller caller) [
  | inl is ↦ first i (subst (λ (os : List Linked). slice_get os i ≡ Some x) (own_mine caller ticket e rest is) at) is (λ k there. own_caller caller (ticket + 1) rest k x there)
  | inr ne ↦ own_caller caller (ticket + 1) rest i x (subst (λ (os : List Linked). slice_get os i ≡ Some x) (own_other caller ticket e rest ne) at)
]
  where
    first : (k : ℕ) → slice_get (record { ticket = ticket; entry = e } ∷ own_of caller (ticket + 1) rest) k ≡ Some x → e.caller ≡ caller → ((j : ℕ) → slice_get (own_of caller (ticket + 1) rest) j ≡ Some x → x.entry.caller ≡ caller) → x.entry.caller ≡ caller
    first zero here is next = ap (λ (y : Linked). y.entry.caller) (sym (same_Some (record { ticket = ticket; entry = e }) x here)) ∙ is
    first (suc k) here is next = next k here

-- the laws of an object that its order rests on: a step leaves a lawful image, and one that only reads leaves the image as it was
pub record OrderLaws (lawful : List ℕ → Type 0) (step : List ℕ → List ℕ → List ℕ × List ℕ) (reads : List ℕ → Bool) : Type 0 where
  pub keeps : (image op : List ℕ) → lawful image → Words 144 op → lawful (step image op).0
  pub leaves : (image op : List ℕ) → lawful image → Words 144 op → IsTrue (reads op) → (step image op).0 ≡ image

-- a lawful image stays lawful along entries
lawful_after : (lawful : List ℕ → Type 0) (step : List ℕ → List ℕ → List ℕ × List ℕ) → ((image op : List ℕ) → lawful image → Words 144 op → lawful (step image op).0) → (n : ℕ) (xs : List Entry) →
    ((i : ℕ) (x : Entry) → slice_get xs i ≡ Some x → Words 144 x.op) → (image : List ℕ) → lawful image → lawful (image_after step image (take n xs))
lawful_after lawful step keeps zero xs words image is = is
lawful_after lawful step keeps (suc n) [] words image is = is
lawful_after lawful step keeps (suc n) (x ∷ xs) words image is = lawful_after lawful step keeps n xs (λ i y at. words (suc i) y at) (step image x.op).0 (keeps image x.op is (words zero x refl))

-- what had not begun did not take effect, and what was answered did
ahead_unmade : (s : State) (o : Operation) → IsAhead s o → TookEffect s o → ⊥
ahead_unmade s (Update c i) ahead made = (let same = ap (λ (x : Local). length x.own) (same_Some made.0 ahead.0 (sym made.1 ∙ ahead.1)) in let below = made.2 in let past = ahead.2 in absurd (omega (arith, same, below, past)))
ahead_unmade s (Read c i) ahead made = (let same = ap (λ (x : Local). length x.seen_reads) (same_Some made.0 ahead.0 (sym made.1 ∙ ahead.1)) in let below = made.2 in let past = ahead.2 in absurd (omega (arith, same, below, past)))

unmade : (s : State) → IsUnmade s → (o : Operation) → TookEffect s o → ⊥
unmade s none (Update c i) made = (let long = ap length (none c made.0 made.1).0 in let below = made.2 in absurd (omega (arith, long, below)))
unmade s none (Read c i) made = (let long = ap length (none c made.0 made.1).1 in let below = made.2 in absurd (omega (arith, long, below)))

module _ (instance : Instance) where
  answered_made : (s : State) (o : Operation) → Lawful instance s → IsAnswered s o → TookEffect s o
  answered_made s (Update c i) law answered =
      let l = answered.0 in
      let x = item_below l.answered i answered.2 in
      let own = reply_own instance law.history s.words s.locals c l law.answers answered.1 law.tickets i x.0 x.1 in
      (l, answered.1, slice_get_within l.own i _ own.own)
  answered_made s (Read c i) law answered = answered

  module _ (lines : ℕ) (lawful : List ℕ → Type 0) (laws : OrderLaws lawful instance.step instance.reads) (based : LawfulBase lines lawful instance.base) (to : State) (law : Lawful instance to) where
    abbrev base : ℕ
    base = instance.base.place

    abbrev history : List Entry
    history = law.history

    abbrev key : Operation → ℕ
    key = key_in to

    -- an operation that took effect has a key within the history
    record Within (o : Operation) : Type 0 where
      from : 2 * base ≤ key o
      below : key o < 2 * base + odd (length history)

    -- an own entry `x` of the caller `c` stands in the history at its ticket, which is not below the base's place, as an entry of that caller
    own_within : (c : ℕ) (l : Local) (i : ℕ) (x : Linked) → slice_get to.locals c ≡ Some l → slice_get l.own i ≡ Some x → (base ≤ x.ticket) × (slice_get history (x.ticket - base) ≡ Some x.entry) × (x.entry.caller ≡ c)
    own_within c l i x of at =
        let there : slice_get (own_of c base history) i ≡ Some x = ap (λ (os : List Linked). slice_get os i) (sym (law.tickets.merged.own c l of)) ∙ at in
        let is = own_at c base history i x there in
        (is.0, is.1, own_caller c base history i x there)

    within : (o : Operation) → TookEffect to o → Within o
    within (Update c i) made =
        let x = item_below made.0.own i made.2 in
        let is = key_at to (Update c i) (At x.0.ticket) (made.0, made.1, x.0, x.1, refl) in
        let own = own_within c made.0 i x.0 made.1 x.1 in
        let from = own.0 in
        let below = slice_get_within history (x.0.ticket - base) x.0.entry own.1 in
        let n = odd_is (length history) in
        record { from = omega (arith, is, from); below = omega (arith, is, from, below, n) }
    within (Read c i) made =
        let x = item_below made.0.seen_reads i made.2 in
        let is = key_at to (Read c i) (Behind x.0.place) (made.0, made.1, x.0, x.1, refl) in
        let read = (law.answers.each c made.0 made.1).reads i x.0 x.1 in
        let from = read.from in
        let durable = read.durable in
        let end_ = durable_within instance history to.words to.locals law.shape.some (bounds_of instance to law) in
        let n = odd_is (length history) in
        record { from = omega (arith, is, from); below = omega (arith, is, durable, end_, n) }

    -- ---- the object alone

    -- the object's image below a place
    abbrev image_to : ℕ → List ℕ
    image_to place = image_after instance.step (object_part instance.base.words) (take (place - base) history)

    -- the image at a place is lawful
    image_lawful : (place : ℕ) → lawful (image_to place)
    image_lawful place = lawful_after lawful instance.step laws.keeps (place - base) history (λ i x at. (entries_of instance to law based.numbers i x at).op) (object_part instance.base.words) based.object

    -- reads at a place leave it, and each has the object's reply
    replays_reads : (place : ℕ) (xs ys : List Operation) → ((o : Operation) → IsIn xs o → TookEffect to o × (key o ≡ 2 * place)) → Replays instance to (image_to place) ys → Replays instance to (image_to place) (xs ++ ys)
    replays_reads place [] ys all rest = rest
    replays_reads place (Update c i ∷ xs) ys all rest =
        let one = all (Update c i) (inl refl) in
        let x = item_below one.0.0.own i one.0.2 in
        let is = key_at to (Update c i) (At x.0.ticket) (one.0.0, one.0.1, x.0, x.1, refl) in
        let at = one.1 in
        absurd (omega (arith, is, at))
    replays_reads place (Read c i ∷ xs) ys all rest =
        let one = all (Read c i) (inl refl) in
        let l = one.0.0 in
        let x = item_below l.seen_reads i one.0.2 in
        let is = key_at to (Read c i) (Behind x.0.place) (l, one.0.1, x.0, x.1, refl) in
        let at = one.1 in
        let here : x.0.place ≡ place = omega (arith, is, at) in
        let read = (law.answers.each c l one.0.1).reads i x.0 x.1 in (
          x.0.op,
          (l, one.0.1, x.0, x.1, refl),
          read.reads,
          (λ reply has. (
              let mine : has.0 ≡ l = same_Some has.0 l (sym has.1 ∙ one.0.1) in
              let same : has.2 ≡ x.0 = same_Some has.2 x.0 (sym has.3 ∙ ap (λ (y : Local). slice_get y.seen_reads i) mine ∙ x.1) in
              has.4 ∙ ap (λ (y : SeenRead). y.reply) same ∙ read.reply ∙ ap (λ (p : ℕ). (instance.step (image_to p) x.0.op).1) here)),
          subst (λ (image : List ℕ). Replays instance to image (xs ++ ys)) (sym (laws.leaves (image_to place) x.0.op (image_lawful place) read.words read.reads))
              (replays_reads place xs ys (λ o has. all o (inr has)) rest),
        )

    module _ (all : List Operation) (each : (o : Operation) → TookEffect to o → IsIn all o) (only : (o : Operation) → IsIn all o → TookEffect to o) (once : (o : Operation) → StandsBefore all o o → ⊥) where
      -- the update whose ticket this is stands alone in its layer
      record Single (ticket : ℕ) : Type 0 where
        caller : ℕ
        index : ℕ
        local : Local
        entry : Entry
        of : slice_get to.locals caller ≡ Some local
        own : slice_get local.own index ≡ Some (record { ticket = ticket; entry = entry })
        at : slice_get history (ticket - base) ≡ Some entry
        is : only_at key (2 * ticket + 1) all ≡ Update caller index ∷ []

      single : (ticket : ℕ) → base ≤ ticket → ticket < base + length history → Single ticket
      single ticket from to_ =
          let e = item_below history (ticket - base) (omega (arith, from, to_)) in
          let c = e.0.caller in
          let l = item_below to.locals c (law.tickets.merged.of_callers (ticket - base) e.0 e.1) in
          let k = has_own c base history (ticket - base) e.0 e.1 refl in
          let same : base + (ticket - base) ≡ ticket = omega (arith, from) in
          let x : Linked = record { ticket = ticket; entry = e.0 } in
          let there : slice_get (own_of c base history) k.0 ≡ Some x = k.1 ∙ ap (λ (t : ℕ). Some (let y : Linked = record { ticket = t; entry = e.0 } in y)) same in
          let mine : slice_get l.0.own k.0 ≡ Some x = ap (λ (os : List Linked). slice_get os k.0) (law.tickets.merged.own c l.0 l.1) ∙ there in
          let made : TookEffect to (Update c k.0) = (l.0, l.1, slice_get_within l.0.own k.0 x mine) in
          let has_key = key_at to (Update c k.0) (At ticket) (l.0, l.1, x, mine, refl) in
          record {
            caller = c;
            index = k.0;
            local = l.0;
            entry = e.0;
            of = l.1;
            own = mine;
            at = e.1;
            is = one_alone (only_at key (2 * ticket + 1) all) (Update c k.0) (in_only key (2 * ticket + 1) all (Update c k.0) (each (Update c k.0) made) has_key)
                (λ o has. (let r = of_only key (2 * ticket + 1) all o has in same_update o (only o r.0) r.1 e.0 e.1 k.0 x refl there))
                (λ o twice. once o (only_before key (2 * ticket + 1) all o o twice));
          }
        where
          same_update : (o : Operation) → TookEffect to o → key o ≡ 2 * ticket + 1 → (entry : Entry) → slice_get history (ticket - base) ≡ Some entry → (k : ℕ) (x : Linked) → x.ticket ≡ ticket → slice_get (own_of entry.caller base history) k ≡ Some x →
              o ≡ Update entry.caller k
          same_update (Read d j) made is entry at k x ticket_is own =
              let y = item_below made.0.seen_reads j made.2 in
              let has = key_at to (Read d j) (Behind y.0.place) (made.0, made.1, y.0, y.1, refl) in
              absurd (omega (arith, has, is))
          same_update (Update d j) made is entry at k x ticket_is own =
              let y = item_below made.0.own j made.2 in
              let has = key_at to (Update d j) (At y.0.ticket) (made.0, made.1, y.0, y.1, refl) in
              let there : y.0.ticket ≡ ticket = omega (arith, has, is) in
              let w = own_within d made.0 j y.0 made.1 y.1 in
              let one : y.0.entry ≡ entry = same_Some y.0.entry entry (sym w.1 ∙ ap (λ (t : ℕ). slice_get history (t - base)) there ∙ at) in
              let caller : d ≡ entry.caller = sym w.2 ∙ ap (λ (e : Entry). e.caller) one in
              let theirs : slice_get (own_of entry.caller base history) j ≡ Some y.0 =
              ap (λ (n : ℕ). slice_get (own_of n base history) j) (sym caller) ∙ ap (λ (os : List Linked). slice_get os j) (sym (law.tickets.merged.own d made.0 made.1)) ∙ y.1 in
              let index : j ≡ k = elim (cases_lt j k) [
                | inl less ↦ (let rises = own_rises entry.caller base history j k y.0 x theirs own less in absurd (omega (arith, rises, there, ticket_is)))
                | inr past ↦ elim (cases_lt k j) [
                  | inl less ↦ (let rises = own_rises entry.caller base history k j x y.0 own theirs less in absurd (omega (arith, rises, there, ticket_is)))
                  | inr other ↦ omega (arith, past, other)
                ]
              ] in
              ap (λ n. Update n j) caller ∙ ap (λ n. Update entry.caller n) index

      layer_reads : (k place : ℕ) → k ≡ 2 * place → (o : Operation) → IsIn (only_at key k all) o → TookEffect to o × (key o ≡ 2 * place)
      layer_reads k place is o has = (let r = of_only key k all o has in (only o r.0, r.1 ∙ is))

      replays : (m place k : ℕ) → k ≡ 2 * place → base ≤ place → place + m ≡ base + length history → Replays instance to (image_to place) (layers key k (odd m) all)
      replays zero place k is from end_ = replays_reads place (only_at key k all) [] (layer_reads k place is) tt
      replays (suc m) place k is from end_ =
          let one = single place from (omega (arith, end_)) in
          let next : image_to (place + 1) ≡ (instance.step (image_to place) one.entry.op).0 =
          ap (λ (n : ℕ). image_after instance.step (object_part instance.base.words) (take n history)) (let e : place + 1 - base ≡ (place - base) + 1 = omega (arith, from) in e)
          ∙ ap (image_after instance.step (object_part instance.base.words)) (take_more history (place - base) one.entry (slice_get_within history (place - base) one.entry one.at) ∙ ap (λ (y : Entry). take (place - base) history ++ y ∷ []) (get_or_from_slice_get history (place - base) one.entry one.entry one.at))
          ∙ image_push instance.step (object_part instance.base.words) (take (place - base) history) one.entry in
          let rest : Replays instance to (instance.step (image_to place) one.entry.op).0 (layers key (k + 1 + 1) (odd m) all) =
          subst (λ image. Replays instance to image (layers key (k + 1 + 1) (odd m) all)) next (replays m (place + 1) (k + 1 + 1) (omega (arith, is)) (omega (arith, from)) (omega (arith, end_))) in
          let x : Linked = record { ticket = place; entry = one.entry } in
          let update : Replays instance to (image_to place) (Update one.caller one.index ∷ layers key (k + 1 + 1) (odd m) all) = (
            one.entry.op,
            (one.local, one.of, x, one.own, refl),
            tt,
            (λ reply has. (
                let mine : has.0 ≡ one.local = same_Some has.0 one.local (sym has.1 ∙ one.of) in
                let own_answer = reply_own instance history to.words to.locals one.caller has.0 law.answers has.1 law.tickets one.index has.2 has.3 in
                let same : (let z : Linked = record { ticket = has.2.ticket; entry = own_answer.entry } in z) ≡ x =
                same_Some (record { ticket = has.2.ticket; entry = own_answer.entry }) x (sym own_answer.own ∙ ap (λ (y : Local). slice_get y.own one.index) mine ∙ one.own) in
                has.4 ∙ own_answer.reply ∙ ap (λ (z : Linked). (instance.step (image_to z.ticket) z.entry.op).1) same)),
            rest,
          ) in
          replays_reads place (only_at key k all) (only_at key (k + 1) all ++ layers key (k + 1 + 1) (odd m) all) (layer_reads k place is)
          (subst (λ (ys : List Operation). Replays instance to (image_to place) (ys ++ layers key (k + 1 + 1) (odd m) all)) (sym (ap (λ (n : ℕ). only_at key n all) (let e : k + 1 ≡ 2 * place + 1 = omega (arith, is) in e) ∙ one.is)) update)

  -- ---- the order

  pub one_order : (lines : ℕ) (lawful : List ℕ → Type 0) → OrderLaws lawful instance.step instance.reads → LawfulBase lines lawful instance.base → RunsHaveOrder instance
  one_order lines lawful laws based events from to start none run =
      let law = run_kept instance from events to start run in
      let a = appear instance from events to start run in
      let nothing = unmade from none in
      let key_of = key_in to in
      let first = 2 * instance.base.place in
      let n = odd (length law.history) in
      let each : (o : Operation) → TookEffect to o → IsIn a.all o = λ o made. a.each o made (nothing o) in
      let only : (o : Operation) → IsIn a.all o → TookEffect to o = λ o has. (a.only o has).0 in
      record {
        order = layers key_of first n a.all;
        is = record {
          each = λ o made. (let w = within lines lawful laws based to law o made in in_layers key_of n first a.all o (each o made) w.from w.below);
          only = λ o has. only o (of_layers key_of n first a.all o has).0;
          once = λ o twice. a.once o (layers_once key_of n first a.all o twice);
          real_time = λ x y precedes made_y. (
              let law_mid = run_kept instance from precedes.before precedes.moment start precedes.comes_by in
              let on = runs_on instance precedes.before precedes.after from precedes.moment to precedes.comes_by (subst (λ (es : List Event). Run instance from es to) precedes.are run) in
              let made_mid = answered_made precedes.moment x law_mid precedes.answered in
              let made_x = still_made instance precedes.moment to precedes.after x law_mid on made_mid in
              let p = has_point to x made_x in
              let q = has_point to y made_y in
              let before = in_order instance precedes.moment to precedes.after law_mid on x y p.0 q.0 precedes.answered precedes.ahead p.1 q.1 in
              let rise = keys_rise p.0 q.0 before in
              let at_x = key_at to x p.0 p.1 in
              let at_y = key_at to y q.0 q.1 in
              let stood = a.moments precedes.before precedes.after precedes.moment x y precedes.are precedes.comes_by made_mid (nothing x) made_y (ahead_unmade precedes.moment y precedes.ahead) in
              let w = within lines lawful laws based to law x made_x in
              let v = within lines lawful laws based to law y made_y in
              layers_before key_of n first a.all x y (each x made_x) (each y made_y) w.from v.below (elim (cases_lt (key_of x) (key_of y)) [
                | inl less ↦ inl less
                | inr past ↦ inr (omega (arith, rise, at_x, at_y, past), stood)
              ]));
          replays = subst (λ (image : List ℕ). Replays instance to image (layers key_of first n a.all)) (ap (λ (k : ℕ). image_after instance.step (object_part instance.base.words) (take k law.history)) (let e : instance.base.place - instance.base.place ≡ 0 = omega arith in e))
              (replays lines lawful laws based to law a.all each only a.once (length law.history) instance.base.place first refl (omega arith) refl);
        };
      }

-- in the opening state no caller has an entry or an answered read
opening_unmade_of : (n place : ℕ) (callers : List ℕ) (c : ℕ) (l : Local) → slice_get (map (opening_local n place) callers) c ≡ Some l → (l.own ≡ []) × (l.seen_reads ≡ [])
opening_unmade_of n place [] c l at = absurd (none-some l at)
opening_unmade_of n place (caller ∷ callers) zero l at = (let same = same_Some (opening_local n place caller) l at in (ap (λ (x : Local). x.own) (sym same), ap (λ (x : Local). x.seen_reads) (sym same)))
opening_unmade_of n place (caller ∷ callers) (suc c) l at = opening_unmade_of n place callers c l at

pub opening_unmade : (callers : ℕ) (base : Base) → IsUnmade (opening_state callers base)
opening_unmade callers base c l at = opening_unmade_of callers base.place (range_with_len 0 callers) c l at
