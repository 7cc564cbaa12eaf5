-- The base that was kept of a life goes on behind it.
use Rattle.std.proofs.Common.{◌≡◌, ◌+◌, ◌-◌, ◌≤◌, inl, inr, ℕ, List, length, take, refl, sym, ap, subst, ◌∙◌, arith}
use Rattle.std.specs.List.{Contains, slice_get}
use Rattle.std.proofs.lemmas.List.Elements.{Contains-get_or}
use Rattle.cx_core.specs.Base.{LawfulBase}
use Rattle.cx_core.specs.History.{full_image, image_from}
use Rattle.cx_core.specs.Lawful.{Lawful}
use Rattle.cx_core.specs.Region.{object_part, slot_number, slot_reply}
use Rattle.cx_core.specs.State.{State}
use Rattle.cx_core.specs.declared.entry.Base.{Base}
use Rattle.cx_core.specs.declared.entry.Entry.{Entry}
use Rattle.cx_core.specs.declared.local.Linked.{Linked}
use Rattle.cx_core.proofs.ListLemmas.{item_below}
use Rattle.core_replica.proofs.BaseLaws.{kept_lawful}
use Rattle.core_runs.proofs.WholeLaws.{entries_of}
use Rattle.life_records.specs.Begins.{Begun, IsBaseOf, begun_after}
use Rattle.life_records.specs.Meanings.{object_instance}
use Rattle.life_records.specs.Recorded.{GoesOn, IsKeptIn, IsRecorded}
use Rattle.life_records.proofs.Recording.{answered_line, client_is, lines_are, read_client, read_of_line}
use Rattle.life_records.proofs.Slots.{Numbered, goes_on}
use Rattle.life_records.proofs.Turns.{line_behind}
use Rattle.life_records.proofs.TypedSteps.{TypedSteps}
use Rattle.life_records.specs.Lives.{ClientAnswer, answers_of, store_at}
use Rattle.life_records.specs.Records.{Life, LifeRecord}

full_is : {Op Reply Store : Type 0} → (t : TypedSteps Op Reply Store) (base : Base) (history : List Entry) (place : ℕ) → full_image t.step base history place ≡ image_from t.step base.words (take (place - base.place) history)
unfolding full_image
full_is t base history place = refl

module _ {Op Reply Store : Type 0} (t : TypedSteps Op Reply Store) (callers : ℕ) (base : Base) (s : State) (store : Store) (life : Life Op) (report : LifeRecord Reply) (base_law : LawfulBase t.lines t.lawful base)
    (law : Lawful (object_instance t.step t.reads callers base) s) (is : IsRecorded t.meaning (object_instance t.step t.reads callers base) s law.history store life report)
    (next : Base) (kept : IsKeptIn t.meaning (object_instance t.step t.reads callers base) s law.history report next) where
  next_law : LawfulBase t.lines t.lawful next × (next.words ≡ full_image t.step base law.history next.place)
  next_law =
      kept_lawful t.lines t.lawful (object_instance t.step t.reads callers base) law.history s next t.object base_law
      (entries_of (object_instance t.step t.reads callers base) s law base_law.numbers) law.tickets.below kept.image

  within : report.kept ≤ length law.history
  within = omega (arith, kept.kept, kept.image.from, kept.image.to)

  at_place : next.place ≡ base.place + report.kept
  at_place = omega (arith, kept.kept, kept.image.from)

  words_are : next.words ≡ image_from t.step base.words (take report.kept law.history)
  words_are = next_law.1 ∙ full_is t base law.history next.place ∙ ap (λ n. image_from t.step base.words (take n law.history)) (sym kept.kept)

  numbered : Numbered (length s.locals) base.place law.history base.words
  numbered = record {
    callers = law.tickets.merged.of_callers;
    numbers = λ caller below i x at. (
        let l = item_below s.locals caller below in
        (law.tickets.each caller l.0 l.1).numbers i x (ap (λ (o : List Linked). slice_get o i) (law.tickets.merged.own caller l.0 l.1) ∙ at));
  }

  -- the base that was kept begins the next life
  pub begins_next : (begun : Begun Store) → IsBaseOf t.meaning base begun → IsBaseOf t.meaning next (begun_after t.meaning begun life report.journal report.kept)
  begins_next begun begins =
      let few : length s.locals ≤ 8 = omega (arith, law.shape.count, law.shape.few) in
      let after = goes_on t life is.limits is.op_values (length s.locals) few report.kept law.history report.journal base begun base_law begins
      (lines_are t callers base s store life report base_law law is) (client_is t callers base s store life report base_law law is)
      (entries_of (object_instance t.step t.reads callers base) s law base_law.numbers) numbered law.tickets.below within in
      record {
        at_place = at_place ∙ after.at_place;
        stands = subst (λ ws. t.meaning.stands (object_part ws) (store_at t.meaning begun.store life report.journal report.kept)) (sym words_are) after.stands;
        numbers = λ client below. ap (slot_number client) words_are ∙ after.numbers client below;
        replies = λ client below. ap (slot_reply client) words_are ∙ after.replies client below;
      }

  -- what the base of the life stands for, and what its slots say
  begun_now : Begun Store
  begun_now = record { place = base.place; store = store; results = λ client. (slot_number client base.words, slot_reply client base.words) }

  answer_kept : (a : ClientAnswer) → Contains (answers_of report.journal report.reads) a → a.next ≤ base.place + report.kept
  answer_kept a among = elim (line_behind t callers base s store life report base_law law is a among) [
    | inl e ↦ (
        let x = answered_line t callers base s store life report base_law law is e.index e.line e.reply e.there e.has in
        let below = kept.image.answered x.client x.local x.of_client x.index _ x.there in
        omega (arith, below, e.next, at_place))
    | inr r ↦ (
        let seat = read_client t callers base s store life report base_law law is r.index r.line r.there in
        let x = read_of_line t callers base s store life report base_law law is r.line.client seat r.index r.line r.there refl in
        let below = kept.image.reads r.line.client seat.local seat.of_client x.index x.read x.there in
        omega (arith, below, r.next, x.is_line.place, at_place))
  ]

  pub life_goes_on : GoesOn t.meaning t.lines t.lawful base.place store life report next
  unfolding begun_now
  life_goes_on =
      let stands = (begins_next begun_now (record { at_place = refl; stands = is.stands; numbers = λ client below. refl; replies = λ client below. refl })).stands in
      record {
        prefix = (let long = is.is_told.long in omega (arith, within, long));
        answered = λ k d below. answer_kept _ (Contains-get_or (answers_of report.journal report.reads) k d below);
        items = kept.items (store_at t.meaning store life report.journal report.kept) stands;
        at_place = at_place;
        lawful = next_law.0;
        stands = stands;
      }
