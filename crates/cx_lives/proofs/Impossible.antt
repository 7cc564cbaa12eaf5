-- No closed service leaves a caller that found no further ticket while commands are left, or that was answered with words of no reply.
use Rattle.std.proofs.Common.{◌≡◌, ℕ, ◌+◌, ◌-◌, ◌^◌, ◌≤◌, List, length, map, slice_get, Some, sym, ap, subst, ◌∙◌, inl, inr, arith}
use Rattle.std.specs.Option.{option_map}
use Rattle.std.proofs.lemmas.Option.{same_Some, slice_get-map}
use Rattle.cx_core.proofs.MergeLemmas.{own_at, own_count}
use Rattle.cx_core.specs.Base.{LawfulBase}
use Rattle.cx_core.specs.declared.entry.Entry.{Entry}
use Rattle.cx_core.specs.declared.local.Linked.{Linked}
use Rattle.cx_core.specs.declared.local.Local.{Local}
use Rattle.cx_core.specs.Lawful.{Lawful}
use Rattle.cx_core.specs.Shown.{shown}
use Rattle.cx_core.specs.State.{EachLocal, Instance, State}
use Rattle.life_records.proofs.ItemLists.{Contains-item, map_item}
use Rattle.life_records.proofs.TypedSteps.{TypedSteps}
use Rattle.life_records.specs.Records.{AreOfNoReply, Life}
use Rattle.life_records.specs.Scripts.{own_ops}
use Rattle.cx_lives.specs.Ends.{CannotBe, IsBadAnswer, IsBadRead, IsCallerWorn}
use Rattle.cx_lives.specs.Gathering.{HasImpossibleEnd, IsLocalIn}
use Rattle.cx_lives.proofs.Images.{image_at, reply_at_is}
use Rattle.cx_lives.proofs.Totals.{entries_fewer}

module _ {Op Reply Store : Type 0} (t : TypedSteps Op Reply Store) (life : Life Op) (instance : Instance) (step_is : instance.step ≡ t.step) (base : LawfulBase t.lines t.lawful instance.base) (words : List ℕ) (whole : List Local)
    (law : Lawful instance (record { words = words; locals = whole })) where
  abbrev s : State
  s = record { words = words; locals = whole }

  module _ (client : ℕ) (w : Local) (at : slice_get whole client ≡ Some w) where
    not_worn : IsCallerWorn life client w → EachLocal whole (λ i l. length l.own ≤ length (own_ops i life.commands)) → instance.base.place + length life.commands ≤ 2 ^ 40 → ⊥
    not_worn worn few tickets =
        let behind = (law.fronts.each client w at).to in
        let entries = own_count instance.base.place law.history whole law.tickets.merged in
        let fewer = entries_fewer life.commands whole client w (λ i l there. (let same : i ≡ 0 + i = omega arith in subst (λ k. length l.own ≤ length (own_ops k life.commands)) same (few i l there))) at worn.fewer in
        omega (arith, worn.front, behind, entries, fewer, tickets)

    no_bad_answer : IsBadAnswer t.meaning w → ⊥
    no_bad_answer b =
        let answered = Contains-item w.answered b.answer b.there in
        let is = (law.answers.each client w at).entries answered.0 b.answer answered.1 in
        let own = Contains-item w.own b.entry b.linked in
        let here : slice_get law.history (b.entry.ticket - instance.base.place) ≡ Some b.entry.entry =
        (own_at client instance.base.place law.history own.0 b.entry (ap (λ (o : List Linked). slice_get o own.0) (sym (law.tickets.merged.own client w at)) ∙ own.1)).1 in
        let n = b.answer.ticket - instance.base.place in
        let at_ticket : slice_get law.history n ≡ Some b.entry.entry = ap (λ k. slice_get law.history (k - instance.base.place)) (sym b.at) ∙ here in
        let image = image_at t instance step_is base s law n in
        let reply : Some ((instance.step image b.entry.entry.op).1) ≡ Some b.answer.reply =
        ap (option_map (λ (e : Entry). (instance.step image e.op).1)) (sym at_ticket) ∙ is.reply in
        reply_at_is t instance step_is base s law n b.entry.entry.op b.op b.is (subst (AreOfNoReply t.meaning) (sym (same_Some (instance.step image b.entry.entry.op).1 b.answer.reply reply)) b.bad)

    no_bad_read : IsBadRead t.meaning w → ⊥
    no_bad_read b =
        let seen = Contains-item w.seen_reads b.read b.there in
        let is = (law.answers.each client w at).reads seen.0 b.read seen.1 in
        reply_at_is t instance step_is base s law (b.read.place - instance.base.place) b.read.op b.op b.is (subst (AreOfNoReply t.meaning) is.reply b.bad)

  -- no caller of a closed service has what none can have
  pub impossible : (locals : List Local) → map shown whole ≡ locals → EachLocal locals (IsLocalIn life) → instance.base.place + length life.commands ≤ 2 ^ 40 → HasImpossibleEnd t.meaning life locals → ⊥
  impossible locals shows each tickets h =
      let at = map_item shown whole h.client h.local (ap (λ ls. slice_get ls h.client) shows ∙ h.of_client) in
      let w = at.0 in
      let cannot : CannotBe t.meaning life h.client (shown w) = subst (CannotBe t.meaning life h.client) (sym at.2) h.is in
      elim cannot [
        | inl worn ↦ not_worn h.client w at.1 (record { front = worn.front; fewer = worn.fewer }) (λ i l there. few_whole i l there) tickets
        | inr bad ↦ elim bad [
          | inl answer ↦ no_bad_answer h.client w at.1 (record { answer = answer.answer; there = answer.there; entry = answer.entry; linked = answer.linked; at = answer.at; op = answer.op; is = answer.is; bad = answer.bad })
          | inr read ↦ no_bad_read h.client w at.1 (record { read = read.read; there = read.there; op = read.op; is = read.is; bad = read.bad })
        ]
      ]
    where
      few_whole : (i : ℕ) (l : Local) → slice_get whole i ≡ Some l → length l.own ≤ length (own_ops i life.commands)
      few_whole i l there = (each i (shown l) (ap (λ ls. slice_get ls i) (sym shows) ∙ slice_get-map shown whole i ∙ ap (option_map shown) there)).few
