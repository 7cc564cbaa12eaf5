-- What was answered in a state stands before what had not begun in it.
use Rattle.std.proofs.Common.{◌≡◌, ◌^◌, ◌<◌, ◌≤◌, ◌++◌, inl, ℕ, List, Some, length, ap, sym, subst, ◌∙◌, arith}
use Rattle.std.proofs.lemmas.Option.{same_Some, slice_get_within}
use Rattle.std.specs.List.{slice_get}
use Rattle.cx_core.specs.declared.kinds.Event.{Event}
use Rattle.cx_core.specs.declared.local.Linked.{Linked}
use Rattle.cx_core.specs.declared.local.Local.{Local}
use Rattle.cx_core.specs.declared.local.SeenRead.{SeenRead}
use Rattle.cx_core.specs.Events.{Run}
use Rattle.cx_core.specs.Lawful.{Lawful}
use Rattle.cx_core.specs.LawfulAnswers.{durable_place}
use Rattle.cx_core.specs.Merge.{own_of}
use Rattle.cx_core.specs.Region.{place_of}
use Rattle.cx_core.specs.State.{Instance, State, opening_state}
use Rattle.cx_core.proofs.ListLemmas.{item_below}
use Rattle.core_replica.proofs.Places.{durable_within}
use Rattle.core_replica.proofs.ReplyLaws.{reply_own}
use Rattle.core_replica.proofs.StillLaws.{has_run}
use Rattle.core_runs.specs.Linearizable.{IsLinearizable}
use Rattle.core_runs.specs.RealTime.{IsAhead, IsAnswered, IsBefore, IsPointOf, KeepsRealTime, Operation, Point}
use Rattle.core_runs.specs.RealTime.Operation.{Update, Read}
use Rattle.core_runs.specs.RealTime.Point.{At, Behind}
use Rattle.core_runs.proofs.Going.{goes_run, own_later, own_stays}
use Rattle.core_runs.proofs.Since.{SinceIn, since_run}
use Rattle.core_runs.proofs.Keeps.{bounds_of, opening_lawful, run_kept}
use Rattle.core_runs.proofs.WholeLaws.{crash_kept}

-- a point is below a place, and one is not
abbrev IsBelow : ℕ → Point → Type 0
IsBelow place (At ticket) = ticket < place
IsBelow place (Behind read) = read ≤ place

abbrev IsFrom : ℕ → Point → Type 0
IsFrom place (At ticket) = place ≤ ticket
IsFrom place (Behind read) = place ≤ read

apart : (place : ℕ) (p q : Point) → IsBelow place p → IsFrom place q → IsBefore p q
apart place (At t) (At u) below from = omega (arith, below, from)
apart place (At t) (Behind r) below from = omega (arith, below, from)
apart place (Behind r) (At t) below from = omega (arith, below, from)
apart place (Behind r) (Behind s) below from = omega (arith, below, from)

module _ (instance : Instance) (now to : State) (events : List Event) (law : Lawful instance now) (run : Run instance now events to) where
  abbrev base : ℕ
  base = instance.base.place

  law' : Lawful instance to
  law' = run_kept instance now events to law run

  -- what was answered is below the place that is durable now
  answered_below : (a : Operation) (p : Point) → IsAnswered now a → IsPointOf to a p → IsBelow (durable_place instance now.words) p
  answered_below (Update caller i) p answered point =
      let l = answered.0 in
      let l' = point.0 in
      let x = point.2 in
      let grows = goes_run instance now events to law law' run in
      let y = item_below l.answered i answered.2 in
      let own = reply_own instance law.history now.words now.locals caller l law.answers answered.1 law.tickets i y.0 y.1 in
      let entry : Linked = record { ticket = y.0.ticket; entry = own.entry } in
      let was : slice_get (own_of caller base law.history) i ≡ Some entry = ap (λ (os : List Linked). slice_get os i) (sym (law.tickets.merged.own caller l answered.1)) ∙ own.own in
      let stays : slice_get (own_of caller base law'.history) i ≡ Some entry = ap (λ h. slice_get (own_of caller base h) i) grows.is ∙ own_stays caller base law.history grows.more i entry was in
      let same : entry ≡ x = same_Some entry x (sym stays ∙ ap (λ (os : List Linked). slice_get os i) (sym (law'.tickets.merged.own caller l' point.1)) ∙ point.3) in
      let ticket : y.0.ticket ≡ x.ticket = ap (λ (z : Linked). z.ticket) same in
      let durable = ((law.answers.each caller l answered.1).entries i y.0 y.1).durable in
      subst (IsBelow (durable_place instance now.words)) (sym point.4) (omega (arith, durable, ticket))
  answered_below (Read caller i) p answered point =
      let l = answered.0 in
      let x = point.2 in
      let y = item_below l.seen_reads i answered.2 in
      let still = has_run instance events now to caller l run answered.1 in
      let mine : still.local ≡ point.0 = same_Some still.local point.0 (sym still.of_caller ∙ point.1) in
      let same : y.0 ≡ x = same_Some y.0 x (sym (still.has.reads i y.0 y.1) ∙ ap (λ (z : Local). slice_get z.seen_reads i) mine ∙ point.3) in
      let place : y.0.place ≡ x.place = ap (λ (z : SeenRead). z.place) same in
      let durable = ((law.answers.each caller l answered.1).reads i y.0 y.1).durable in
      subst (IsBelow (durable_place instance now.words)) (sym point.4) (omega (arith, durable, place))

  -- what had not begun is not
  ahead_from : (b : Operation) (q : Point) → IsAhead now b → IsPointOf to b q → IsFrom (durable_place instance now.words) q
  ahead_from (Update caller i) q ahead point =
      let l = ahead.0 in
      let x = point.2 in
      let grows = goes_run instance now events to law law' run in
      let there : slice_get (own_of caller base (law.history ++ grows.more)) i ≡ Some x =
      ap (λ h. slice_get (own_of caller base h) i) (sym grows.is) ∙ ap (λ (os : List Linked). slice_get os i) (sym (law'.tickets.merged.own caller point.0 point.1)) ∙ point.3 in
      let past : length (own_of caller base law.history) ≤ i = subst (λ (os : List Linked). length os ≤ i) (law.tickets.merged.own caller l ahead.1) ahead.2 in
      let later = own_later caller base law.history grows.more i x there past in
      let within = durable_within instance law.history now.words now.locals law.shape.some (bounds_of instance now law) in
      subst (IsFrom (durable_place instance now.words)) (sym point.4) (omega (arith, later, within))
  ahead_from (Read caller i) q ahead point =
      let l = ahead.0 in
      let x = point.2 in
      let start : SinceIn instance.callers (durable_place instance now.words) (length l.seen_reads) now caller = record {
        local = l;
        of_caller = ahead.1;
        since = record { code = inl ahead.3; reads = λ k y at past. (let within = slice_get_within l.seen_reads k y at in absurd (omega (arith, within, past))) };
      } in
      let came = since_run instance now events to caller (durable_place instance now.words) (length l.seen_reads) law run (omega arith) start in
      let mine : came.local ≡ point.0 = same_Some came.local point.0 (sym came.of_caller ∙ point.1) in
      let read = came.since.reads i x (ap (λ (z : Local). slice_get z.seen_reads i) mine ∙ point.3) ahead.2 in
      subst (IsFrom (durable_place instance now.words)) (sym point.4) read

  pub in_order : (a b : Operation) (p q : Point) → IsAnswered now a → IsAhead now b → IsPointOf to a p → IsPointOf to b q → IsBefore p q
  in_order a b p q answered ahead at_a at_b = apart (durable_place instance now.words) p q (answered_below a p answered at_a) (ahead_from b q ahead at_b)

-- each run from a lawful state keeps its real-time order
pub keeps_real_time : (instance : Instance) (from to : State) → Lawful instance from → KeepsRealTime instance from to
keeps_real_time instance from to law a b p q precedes at_a at_b =
    let law' = run_kept instance from precedes.before precedes.moment law precedes.comes_by in
    in_order instance precedes.moment to precedes.after law' precedes.goes_on a b p q precedes.answered precedes.ahead at_a at_b

-- each state that a run from a lawful state reaches is that of a linearizable object
pub linearizable : (instance : Instance) (events : List Event) (from to : State) → Lawful instance from → Run instance from events to → IsLinearizable instance from to
linearizable instance events from to lawful run =
    let law = run_kept instance from events to lawful run in
    let end_ = durable_within instance law.history to.words to.locals law.shape.some (bounds_of instance to law) in
    record {
      history = law.history;
      merged = law.tickets.merged;
      replies = λ caller l at i x there. reply_own instance law.history to.words to.locals caller l law.answers at law.tickets i x there;
      reads = λ caller l at i x there. (let is = (law.answers.each caller l at).reads i x there in (is.from, omega (arith, is.durable, end_), is.reply));
      real_time = keeps_real_time instance from to lawful;
      durable = λ image crash. crash_kept instance to law image crash;
    }

pub run_linearizable : (instance : Instance) (events : List Event) (to : State) → 1 ≤ instance.callers → instance.callers ≤ 8 → instance.base.place ≤ 2 ^ 40 → place_of instance.base.words ≡ instance.base.place →
    Run instance (opening_state instance.callers instance.base) events to → IsLinearizable instance (opening_state instance.callers instance.base) to
run_linearizable instance events to some few within placed run = linearizable instance events (opening_state instance.callers instance.base) to (opening_lawful instance some few within placed) run
