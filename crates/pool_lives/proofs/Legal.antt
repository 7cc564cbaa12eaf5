-- A record of clients that shared callers is one of a legal life.
use Rattle.std.proofs.Common.{◌≡◌, ◌+◌, ◌-◌, ◌<◌, ◌≤◌, ℕ, true, length, take, slice_get, Option, None, Some, IfSome, IsSome, sym, ap, subst, ◌∙◌, refl, inl, inr, arith}
use Rattle.std.specs.Prelude.{◌↔◌, Contains}
use Rattle.std.proofs.lemmas.List.Elements.{All-nil, Contains-get_or}
use Rattle.std.proofs.lemmas.Option.{same_Some, slice_get_within}
use Rattle.core_replica.proofs.BaseLaws.{kept_lawful}
use Rattle.core_replica.proofs.Places.{durable_within}
use Rattle.core_runs.proofs.Keeps.{bounds_of}
use Rattle.core_runs.proofs.WholeLaws.{entries_of}
use Rattle.cx_core.specs.Base.{LawfulBase}
use Rattle.cx_core.specs.History.{full_image, image_after, reply_at}
use Rattle.cx_core.specs.Lawful.{Lawful}
use Rattle.cx_core.specs.LawfulAnswers.{IsRead, durable_place}
use Rattle.cx_core.specs.Region.{object_part}
use Rattle.cx_core.specs.RootEvents.{reply_after}
use Rattle.cx_core.specs.State.{Instance, State}
use Rattle.cx_core.specs.declared.entry.Base.{Base}
use Rattle.cx_core.specs.declared.entry.Entry.{Entry}
use Rattle.cx_core.specs.declared.local.Answer.{Answer as GivenAnswer}
use Rattle.cx_core.specs.declared.local.Local.{Local}
use Rattle.cx_core.specs.declared.local.SeenRead.{SeenRead}
use Rattle.cx_core.proofs.ListLemmas.{item_below}
use Rattle.life_records.specs.Meanings.{object_instance}
use Rattle.life_records.specs.Recorded.{IsKeptIn}
use Rattle.life_records.proofs.ItemLists.{All-item, Contains-item}
use Rattle.life_records.proofs.Steps.{image_stands, op_is}
use Rattle.life_records.proofs.TypedSteps.{TypedSteps}
use Rattle.life_records.proofs.Lists.{all_each, each_get, get_has}
use Rattle.life_records.specs.Lives.{ClientAnswer, HasReply, IsPrefixKept, IsKeptStop, IsLegal, IsLegalLife, IsLegalRead, answers_of, store_at}
use Rattle.life_records.specs.Records.{JournalLine, Life, LifeRecord, ReadLine, StopLine}
use Rattle.life_records.specs.Scripts.{named_op}
use Rattle.life_records.specs.Works.{IsReadLine}
use Rattle.pool_lives.specs.PoolLives.{AreToldIn, IsPoolEntry, IsPoolRead}
use Rattle.pool_lives.specs.Recorded.{IsPoolRecorded}
use Rattle.pool_lives.proofs.InTurn.{answers_moved, line_behind}
use Rattle.pool_lives.proofs.Kept.{object_of_full}
use Rattle.pool_lives.proofs.Lines.{answered, behind, caller_at, ended, entry_is, lines_are, long_journal, means, of_caller, placed, read_behind, tickets_are, words_are}

module _ {Op Reply Store : Type 0} (t : TypedSteps Op Reply Store) (callers : ℕ) (base : Base) (s : State) (store : Store) (life : Life Op) (report : LifeRecord Reply) (base_law : LawfulBase t.lines t.lawful base)
    (law : Lawful (object_instance t.step t.reads callers base) s) (is : IsPoolRecorded t.meaning (object_instance t.step t.reads callers base) s law.history store life report) where
  abbrev inst : Instance
  inst = object_instance t.step t.reads callers base

  -- a reply with the words of the store's is the store's
  reply_is_meant : (n : ℕ) (op : Op) (reply : Reply) → t.meaning.is_op op → t.meaning.is_op_value op → n ≤ length law.history → t.meaning.is_reply_value reply →
      t.meaning.encoding.reply_words reply ≡ t.meaning.encoding.reply_words (t.meaning.reply_to (store_at t.meaning store life report.journal n) op) → reply ≡ t.meaning.reply_to (store_at t.meaning store life report.journal n) op
  reply_is_meant n op reply limits op_value within value same =
      let st = store_at t.meaning store life report.journal n in
      let image = image_stands t life is.limits is.op_values base base_law law.history report.journal store (lines_are t callers base s store life report base_law law is) is.stands n within in
      t.means.told reply (t.meaning.reply_to st op) value (t.means.replies _ st op image.is_lawful image.stands limits op_value) same

  reply_by : (i : ℕ) (line : JournalLine Reply) (o : Option Reply) → slice_get report.journal i ≡ Some line → line.reply ≡ o →
      IfSome o (HasReply t.meaning (store_at t.meaning store life report.journal i) (named_op life line.client line.command))
  reply_by i line None at has = tt
  reply_by i line (Some reply) at has =
      let below = slice_get_within report.journal i line at in
      let long = long_journal t callers base s store life report base_law law is in
      let entry = item_below law.history i (omega (arith, below, long)) in
      let words = words_are t callers base s store life report base_law law is i line entry.0 at entry.1 in
      let op_of = op_is t life is.limits is.op_values line.client line.command entry.0.op words in
      let a = answered t callers base s store life report base_law law is i line reply at has in
      let w = caller_at t callers base s store life report base_law law is a.caller a.local a.of_caller in
      let k = Contains-item a.local.answered _ a.there in
      let there = ap (λ (l : Local). slice_get l.answered k.0) w.2 ∙ k.1 in
      let history_s = ((law.answers.each a.caller w.0 w.1).entries k.0 _ there).reply in
      let store_s = (means t callers base s store life report base_law law is).replies i line words.op at words.named in
      let ticket = tickets_are t callers base s store life report base_law law is i line at in
      let value = subst (λ o. IfSome o t.meaning.is_reply_value) has (All-item (λ (l : JournalLine Reply). IfSome l.reply t.meaning.is_reply_value) report.journal i line is.values.journal at) in
      let same = same_Some (t.meaning.encoding.reply_words reply) _ (sym history_s ∙ ap (reply_at t.step base.place (object_part base.words) law.history) ticket ∙ store_s) in
      subst (λ o. HasReply t.meaning (store_at t.meaning store life report.journal i) o reply) (sym words.named) (reply_is_meant i words.op reply op_of.limits op_of.value (omega (arith, below, long)) value same)

  replies : (i : ℕ) (line : JournalLine Reply) → slice_get report.journal i ≡ Some line → IfSome line.reply (HasReply t.meaning (store_at t.meaning store life report.journal i) (named_op life line.client line.command))
  replies i line at = reply_by i line line.reply at refl

  -- what is known of the read that a line tells
  record Seen (line : ReadLine Reply) : Type 0 where
    read : SeenRead
    is_line : IsReadLine t.meaning.encoding life line.client read line
    caller : ℕ
    local : Local
    of_caller : slice_get s.locals caller ≡ Some local
    index : ℕ
    there : slice_get local.seen_reads index ≡ Some read
    is_read : IsRead inst law.history (durable_place inst s.words) local read

  seen_at : (k : ℕ) (line : ReadLine Reply) → slice_get report.reads k ≡ Some line → Seen line
  seen_at k line at =
      let b = read_behind t callers base s store life report base_law law is k line at in
      let r = b.read in
      let w = caller_at t callers base s store life report base_law law is r.caller r.local r.of_caller in
      let i = Contains-item r.local.seen_reads r.read r.there in
      let there = ap (λ (l : Local). slice_get l.seen_reads i.0) w.2 ∙ i.1 in
      record {
        read = r.read;
        is_line = b.is_line;
        caller = r.caller;
        local = w.0;
        of_caller = w.1;
        index = i.0;
        there = there;
        is_read = (law.answers.each r.caller w.0 w.1).reads i.0 r.read there;
      }

  legal_read : (k : ℕ) (line : ReadLine Reply) → slice_get report.reads k ≡ Some line → IsLegalRead t.meaning base.place store life report.journal line
  legal_read k line at =
      let r = seen_at k line at in
      let b = read_behind t callers base s store life report base_law law is k line at in
      let op = r.is_line.op in
      let op_of = op_is t life is.limits is.op_values line.client line.command r.read.op op in
      let within = durable_within inst law.history s.words s.locals law.shape.some (bounds_of inst s law) in
      let place = r.is_line.place in
      let long = long_journal t callers base s store life report base_law law is in
      let to : line.place - base.place ≤ length law.history = omega (arith, within, place, r.is_read.durable, r.is_read.from) in
      let value = All-item (λ (l : ReadLine Reply). t.meaning.is_reply_value l.reply) report.reads k line is.values.reads at in
      let answer = (means t callers base s store life report base_law law is).answers callers r.read.place op.op op_of.limits op_of.value (omega (arith, within, r.is_read.durable)) in
      let same = r.is_line.reply ∙ r.is_read.reply ∙ ap (reply_after inst law.history r.read.place) (sym op.words_are) ∙ answer ∙ ap (λ p. t.meaning.encoding.reply_words (t.meaning.reply_to (store_at t.meaning store life report.journal (p - base.place)) op.op)) (sym place) in
      let reading : t.meaning.is_reading op.op ≡ true = sym (t.means.readings op.op op_of.limits op_of.value) ∙ ap t.reads op_of.has ∙ r.is_read.reads in
      record {
        named = record {
          takes_part = omega (arith, slice_get_within is.clients line.client b.client b.of_client, is.count);
          there = subst IsSome (sym op.named) refl;
        };
        reads = subst (λ o. IfSome o (λ p. t.meaning.is_reading p ≡ true)) (sym op.named) reading;
        from = omega (arith, place, r.is_read.from);
        to = omega (arith, within, place, r.is_read.durable, long);
        reply = subst (λ o. HasReply t.meaning (store_at t.meaning store life report.journal (line.place - base.place)) o line.reply) (sym op.named) (reply_is_meant (line.place - base.place) op.op line.reply op_of.limits op_of.value to value same);
      }

  in_turn : (a b : ClientAnswer) → Contains (answers_of report.journal report.reads) a → Contains (answers_of report.journal report.reads) b → a.client ≡ b.client → a.command < b.command → a.next ≤ b.at
  in_turn a b at_a at_b same order =
      is.in_turn a b (answers_moved is.entries report.journal report.reads a is.sorted.moved at_a) (answers_moved is.entries report.journal report.reads b is.sorted.moved at_b) same order

  pub legal : IsLegal t.meaning base.place store life report
  legal =
      let e = ended t callers base s store life report base_law law is in
      record {
        tickets = tickets_are t callers base s store life report base_law law is;
        interleaved = e.interleaved;
        reads_in_order = e.reads_in_order;
        stops_in_order = e.stops_in_order;
        fulls_in_order = e.fulls_in_order;
        ended = e.ended;
        stops = e.stops;
        fulls = e.fulls;
        replies = replies;
        legal_reads = all_each (IsLegalRead t.meaning base.place store life report.journal) report.reads (each_get (IsLegalRead t.meaning base.place store life report.journal) report.reads legal_read);
        in_turn = in_turn;
      }

  -- what the record tells of the history and of the callers
  pub report_is_told : AreToldIn t.meaning.encoding life base.place law.history is.locals report
  report_is_told = record {
    long = long_journal t callers base s store life report base_law law is;
    entries = λ i line entry at there. (tickets_are t callers base s store life report base_law law is i line at, is_pool_entry i line entry at there);
    reads = all_each (IsPoolRead t.meaning.encoding life is.locals) report.reads (each_get (IsPoolRead t.meaning.encoding life is.locals) report.reads is_pool_read);
  }
    where
      is_pool_read : (k : ℕ) (line : ReadLine Reply) → slice_get report.reads k ≡ Some line → IsPoolRead t.meaning.encoding life is.locals line
      is_pool_read k line at =
          let b = read_behind t callers base s store life report base_law law is k line at in
          let r = b.read in
          record {
            caller = r.caller;
            local = r.local;
            of_caller = r.of_caller;
            read = r.read;
            there = r.there;
            is = b.is_line;
          }

      -- the caller of a line's answer is that of its entry
      reply_was_given : (i : ℕ) (line : JournalLine Reply) (entry : Entry) (l : Local) → slice_get report.journal i ≡ Some line → slice_get law.history i ≡ Some entry → slice_get is.locals entry.caller ≡ Some l
          → (reply : Option Reply) → line.reply ≡ reply → IfSome reply (λ r. Contains l.answered (record { ticket = line.ticket; reply = t.meaning.encoding.reply_words r }))
      reply_was_given i line entry l at there of None has = tt
      reply_was_given i line entry l at there of (Some reply) has =
          let a = answered t callers base s store life report base_law law is i line reply at has in
          let given : GivenAnswer = record { ticket = line.ticket; reply = t.meaning.encoding.reply_words reply } in
          let p = placed t callers base s store life report base_law law is a.caller a.local a.entry a.of_caller a.linked in
          let index : a.entry.ticket - base.place ≡ i = (let ticket = tickets_are t callers base s store life report base_law law is i line at in omega (arith, a.at, ticket)) in
          let same : a.entry.entry ≡ entry = same_Some a.entry.entry entry (sym p.1 ∙ ap (slice_get law.history) index ∙ there) in
          let by : a.caller ≡ entry.caller = sym (of_caller t callers base s store life report base_law law is a.caller a.local a.entry a.of_caller a.linked) ∙ ap (λ (e : Entry). e.caller) same in
          let local : a.local ≡ l = same_Some a.local l (sym a.of_caller ∙ ap (slice_get is.locals) by ∙ of) in
          subst (λ (x : Local). Contains x.answered given) local a.there

      is_pool_entry : (i : ℕ) (line : JournalLine Reply) (entry : Entry) → slice_get report.journal i ≡ Some line → slice_get law.history i ≡ Some entry → IsPoolEntry t.meaning.encoding life is.locals entry line
      is_pool_entry i line entry at there =
          let b = behind t callers base s store life report base_law law is i line at in
          let e = b.entry in
          let by : e.caller ≡ entry.caller =
          sym (of_caller t callers base s store life report base_law law is e.caller e.local e.entry e.of_caller e.there) ∙ ap (λ (x : Entry). x.caller) (entry_is t callers base s store life report base_law law is i line entry at there) in
          let of : slice_get is.locals entry.caller ≡ Some e.local = ap (slice_get is.locals) (sym by) ∙ e.of_caller in
          record {
            words = words_are t callers base s store life report base_law law is i line entry at there;
            local = e.local;
            of_caller = of;
            reply = reply_was_given i line entry e.local at there of line.reply refl;
          }

  module _ (next : Base) (kept : IsKeptIn t.meaning inst s law.history report next) where
    next_law : LawfulBase t.lines t.lawful next × (next.words ≡ full_image t.step base law.history next.place)
    next_law =
        kept_lawful t.lines t.lawful inst law.history s next t.object base_law (entries_of inst s law base_law.numbers) law.tickets.below kept.image

    within : report.kept ≤ length law.history
    within = omega (arith, kept.kept, kept.image.from, kept.image.to)

    at_place : next.place ≡ base.place + report.kept
    at_place = omega (arith, kept.kept, kept.image.from)

    stands_kept : t.meaning.stands (object_part next.words) (store_at t.meaning store life report.journal report.kept)
    stands_kept =
        let part = object_of_full t.lines t.lawful inst t.object law.history base_law (entries_of inst s law base_law.numbers) law.tickets.below next.place kept.image.from kept.image.to in
        subst (λ image. t.meaning.stands image (store_at t.meaning store life report.journal report.kept))
        (sym (ap object_part next_law.1 ∙ part ∙ ap (λ n. image_after t.step (object_part base.words) (take n law.history)) (sym kept.kept)))
        ((means t callers base s store life report base_law law is).images report.kept within)

    -- the answer to an entry is below what was kept
    entry_kept : (line : JournalLine Reply) (i : ℕ) → slice_get report.journal i ≡ Some line → (o : Option Reply) → line.reply ≡ o → IsSome o → line.ticket < next.place
    entry_kept line i at None has some = cc
    entry_kept line i at (Some reply) has some =
        let a = answered t callers base s store life report base_law law is i line reply at has in
        let w = caller_at t callers base s store life report base_law law is a.caller a.local a.of_caller in
        let k = Contains-item a.local.answered _ a.there in
        kept.image.answered a.caller w.0 w.1 k.0 _ (ap (λ (l : Local). slice_get l.answered k.0) w.2 ∙ k.1)

    answer_kept : (a : ClientAnswer) → Contains (answers_of report.journal report.reads) a → a.next ≤ base.place + report.kept
    answer_kept a among = elim (line_behind report.journal report.reads a among) [
      | inl e ↦ (
          let k = get_has report.journal e.0 e.1 in
          let below = entry_kept e.0 k.0 k.1 e.0.reply refl e.2 in
          let next_is = ap (λ (z : ClientAnswer). z.next) e.3 in
          omega (arith, below, next_is, at_place))
      | inr r ↦ (
          let k = get_has report.reads r.0 r.1 in
          let x = seen_at k.0 r.0 k.1 in
          let below = kept.image.reads x.caller x.local x.of_caller x.index x.read x.there in
          let next_is = ap (λ (z : ClientAnswer). z.next) r.2 in
          omega (arith, below, next_is, x.is_line.place, at_place))
    ]

    pub kept_is : IsPrefixKept t.meaning base.place store life report
    kept_is = record {
      prefix = (let long = long_journal t callers base s store life report base_law law is in omega (arith, within, long));
      answered = λ k d below. answer_kept _ (Contains-get_or (answers_of report.journal report.reads) k d below);
      stops = rw is.stops (All-nil (λ (line : StopLine). (line.kept ≡ true) ↔ IsKeptStop base.place report.kept report.journal line));
      items = kept.items (store_at t.meaning store life report.journal report.kept) stands_kept;
    }

    pub legal_life : IsLegalLife t.meaning base.place store life report
    legal_life = record { clients = is.clients_are; choice = is.choice; from = is.from; legal = legal; kept = kept_is }
