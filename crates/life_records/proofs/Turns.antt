-- No answer to a client lies below what the client was told before, in an answer to an earlier command.
use Rattle.std.proofs.Common.{◌≡◌, ◌+◌, ◌<◌, ◌≤◌, ◌⊎◌, inl, inr, ℕ, List, map, filter, Some, refl, sym, ap, ◌∙◌, arith}
use Rattle.std.specs.List.{Contains, filter_map, slice_get}
use Rattle.std.proofs.lemmas.Bool.{cases_lt, cases_order}
use Rattle.std.proofs.lemmas.Option.{same_Some}
use Rattle.cx_core.specs.Base.{LawfulBase}
use Rattle.cx_core.specs.Lawful.{Lawful}
use Rattle.cx_core.specs.Shown.{shown}
use Rattle.cx_core.specs.State.{State}
use Rattle.cx_core.specs.declared.entry.Base.{Base}
use Rattle.cx_core.specs.declared.local.Linked.{Linked}
use Rattle.core_replica.proofs.OwnLaws.{own_rises}
use Rattle.life_records.specs.Works.{IsEntryBefore, IsSeenBefore, IsWork, StandsBetween, by_entry, by_read, full_of, stop_of}
use Rattle.life_records.specs.Meanings.{object_instance}
use Rattle.life_records.specs.Recorded.{IsRecorded}
use Rattle.life_records.proofs.ItemLists.{contained_in, filter_map_item, map_item, pair_items, some_made, zip_items}
use Rattle.life_records.proofs.Recording.{Own, Read, Seat, entry_client, own_of_line, read_client, read_of_line, work_of}
use Rattle.life_records.proofs.TypedSteps.{TypedSteps}
use Rattle.life_records.specs.Lives.{ClientAnswer, answers_of, journal_answer, read_answer}
use Rattle.life_records.specs.Records.{JournalLine, Life, LifeRecord, ReadLine}

module _ {Op Reply Store : Type 0} (t : TypedSteps Op Reply Store) (callers : ℕ) (base : Base) (s : State) (store : Store) (life : Life Op) (report : LifeRecord Reply) (base_law : LawfulBase t.lines t.lawful base)
    (law : Lawful (object_instance t.step t.reads callers base) s) (is : IsRecorded t.meaning (object_instance t.step t.reads callers base) s law.history store life report) where
  abbrev SeatOf : ℕ → Type 0
  SeatOf client = Seat t callers base s store life report base_law law is client

  abbrev OwnOf : (client : ℕ) → SeatOf client → JournalLine Reply → Type 0
  OwnOf = Own t callers base s store life report base_law law is

  abbrev ReadOf : (client : ℕ) → SeatOf client → ReadLine Reply → Type 0
  ReadOf = Read t callers base s store life report base_law law is

  module _ (client : ℕ) (seat : SeatOf client) where
    abbrev work : IsWork t.meaning.encoding life client (shown seat.local) (filter (by_entry client) report.journal) (filter (by_read client) report.reads) (stop_of client is.stops) (full_of client report.fulls)
    work = work_of t callers base s store life report base_law law is client seat

    -- two entries
    entries_rise : (x y : JournalLine Reply) → OwnOf client seat x → OwnOf client seat y → x.command < y.command → x.ticket + 1 ≤ y.ticket
    entries_rise x y at_x at_y order = elim (cases_order at_x.index at_y.index) [
      | inl same ↦ (
          let one = same_Some x y (sym at_x.among ∙ ap (slice_get (filter (by_entry client) report.journal)) same ∙ at_y.among) in
          absurd (omega (arith, ap (λ (l : JournalLine Reply). l.command) one)))
      | inr (inl less) ↦ (
          let history = law.tickets.merged.own client seat.local seat.of_client in
          let rise = own_rises client base.place law.history at_x.index at_y.index at_x.own at_y.own (ap (λ (o : List Linked). slice_get o at_x.index) (sym history) ∙ at_x.there) (ap (λ (o : List Linked). slice_get o at_y.index) (sym history) ∙ at_y.there) less in
          omega (arith, rise, at_x.ticket, at_y.ticket))
      | inr (inr more) ↦ (
          let back = pair_items IsEntryBefore (filter (by_entry client) report.journal) at_y.index at_x.index y x work.entries_in_turn at_y.among at_x.among more in
          absurd (omega arith))
    ]

    -- where a read stands among the entries
    stands : (x : ReadLine Reply) (at_x : ReadOf client seat x) → StandsBetween (filter (by_entry client) report.journal) at_x.read x
    stands x at_x = zip_items (StandsBetween (filter (by_entry client) report.journal)) work.read_lines.reported (filter (by_read client) report.reads) at_x.index at_x.read x work.between at_x.in_reported at_x.among

    read_then_entry : (x : ReadLine Reply) (y : JournalLine Reply) → ReadOf client seat x → OwnOf client seat y → x.command < y.command → x.place ≤ y.ticket
    read_then_entry x y at_x at_y order = elim (cases_lt at_y.index at_x.read.before) [
      | inl front ↦ (let before = (stands x at_x).0 at_y.index y at_y.among front in absurd (omega arith))
      | inr behind ↦ (let above = at_x.is_read.above at_y.index at_y.own at_y.there behind in omega (arith, above, at_x.is_line.place, at_y.ticket))
    ]

    entry_then_read : (x : JournalLine Reply) (y : ReadLine Reply) → OwnOf client seat x → ReadOf client seat y → x.command < y.command → x.ticket + 1 ≤ y.place
    entry_then_read x y at_x at_y order = elim (cases_lt at_x.index at_y.read.before) [
      | inl front ↦ (let below = at_y.is_read.below at_x.index at_x.own at_x.there front in omega (arith, below, at_y.is_line.place, at_x.ticket))
      | inr behind ↦ (let after = (stands y at_y).1 at_x.index x at_x.among behind in absurd (omega arith))
    ]

    -- two reads
    reads_rise : (x y : ReadLine Reply) → ReadOf client seat x → ReadOf client seat y → x.command < y.command → x.place ≤ y.place
    reads_rise x y at_x at_y order = elim (cases_order at_x.index at_y.index) [
      | inl same ↦ (
          let one = same_Some x y (sym at_x.among ∙ ap (slice_get (filter (by_read client) report.reads)) same ∙ at_y.among) in
          absurd (omega (arith, ap (λ (l : ReadLine Reply). l.command) one)))
      | inr (inl less) ↦ (
          let rise = (law.answers.each client seat.local seat.of_client).rise at_x.index at_y.index at_x.read at_y.read at_x.there at_y.there (omega arith) in
          omega (arith, rise.0, at_x.is_line.place, at_y.is_line.place))
      | inr (inr more) ↦ (
          let back = pair_items IsSeenBefore (filter (by_read client) report.reads) at_y.index at_x.index y x work.reads_in_turn at_y.among at_x.among more in
          absurd (omega arith))
    ]

  -- the line behind an answer
  pub record OfEntry (a : ClientAnswer) : Type 0 where
    pub index : ℕ
    pub line : JournalLine Reply
    pub there : slice_get report.journal index ≡ Some line
    pub reply : Reply
    pub has : line.reply ≡ Some reply
    pub client : line.client ≡ a.client
    pub command : line.command ≡ a.command
    pub at : a.at ≡ line.ticket
    pub next : a.next ≡ line.ticket + 1

  pub record OfRead (a : ClientAnswer) : Type 0 where
    pub index : ℕ
    pub line : ReadLine Reply
    pub there : slice_get report.reads index ≡ Some line
    pub client : line.client ≡ a.client
    pub command : line.command ≡ a.command
    pub at : a.at ≡ line.place
    pub next : a.next ≡ line.place

  of_entry : (a : ClientAnswer) (k : ℕ) → slice_get (filter_map journal_answer report.journal) k ≡ Some a → OfEntry a
  of_entry a k at =
      let l = filter_map_item journal_answer report.journal k a at in
      let line = l.1 in
      let made : ClientAnswer = record { client = line.client; command = line.command; at = line.ticket; next = line.ticket + 1 } in
      let r = some_made (λ (reply : Reply). made) line.reply a l.3 in
      record {
        index = l.0;
        line = line;
        there = l.2;
        reply = r.0;
        has = r.1;
        client = ap (λ (x : ClientAnswer). x.client) r.2;
        command = ap (λ (x : ClientAnswer). x.command) r.2;
        at = sym (ap (λ (x : ClientAnswer). x.at) r.2);
        next = sym (ap (λ (x : ClientAnswer). x.next) r.2);
      }

  of_read : (a : ClientAnswer) (k : ℕ) → slice_get (map read_answer report.reads) k ≡ Some a → OfRead a
  of_read a k at =
      let l = map_item read_answer report.reads k a at in
      record {
        index = k;
        line = l.0;
        there = l.1;
        client = ap (λ (x : ClientAnswer). x.client) l.2;
        command = ap (λ (x : ClientAnswer). x.command) l.2;
        at = sym (ap (λ (x : ClientAnswer). x.at) l.2);
        next = sym (ap (λ (x : ClientAnswer). x.next) l.2);
      }

  pub line_behind : (a : ClientAnswer) → Contains (answers_of report.journal report.reads) a → OfEntry a ⊎ OfRead a
  line_behind a among = elim (contained_in (filter_map journal_answer report.journal) (map read_answer report.reads) a among) [
    | inl entry ↦ inl (of_entry a entry.0 entry.1)
    | inr read ↦ inr (of_read a read.0 read.1)
  ]

  own_line : (client : ℕ) (seat : SeatOf client) (a : ClientAnswer) (e : OfEntry a) → e.line.client ≡ client → OwnOf client seat e.line
  own_line client seat a e mine = own_of_line t callers base s store life report base_law law is client seat e.index e.line e.there mine

  read_line : (client : ℕ) (seat : SeatOf client) (a : ClientAnswer) (r : OfRead a) → r.line.client ≡ client → ReadOf client seat r.line
  read_line client seat a r mine = read_of_line t callers base s store life report base_law law is client seat r.index r.line r.there mine

  -- an answer `b` to a later command of the client is not below the place that the answer `a` of an entry names as the next
  after_entry : (a b : ClientAnswer) → OfEntry a → OfEntry b ⊎ OfRead b → a.client ≡ b.client → a.command < b.command → a.next ≤ b.at
  after_entry a b x y same order =
      let client = x.line.client in
      let seat = entry_client t callers base s store life report base_law law is x.index x.line x.there in
      let own = own_line client seat a x refl in
      elim y [
        | inl e ↦ (
            let rise = entries_rise client seat x.line e.line own (own_line client seat b e (e.client ∙ sym same ∙ sym x.client)) (omega (arith, order, x.command, e.command)) in
            omega (arith, rise, x.next, e.at))
        | inr r ↦ (
            let rise = entry_then_read client seat x.line r.line own (read_line client seat b r (r.client ∙ sym same ∙ sym x.client)) (omega (arith, order, x.command, r.command)) in
            omega (arith, rise, x.next, r.at))
      ]

  -- an answer `b` to a later command of the client is not below the place that the answer `a` of a read names as the next
  after_read : (a b : ClientAnswer) → OfRead a → OfEntry b ⊎ OfRead b → a.client ≡ b.client → a.command < b.command → a.next ≤ b.at
  after_read a b x y same order =
      let client = x.line.client in
      let seat = read_client t callers base s store life report base_law law is x.index x.line x.there in
      let read = read_line client seat a x refl in
      elim y [
        | inl e ↦ (
            let rise = read_then_entry client seat x.line e.line read (own_line client seat b e (e.client ∙ sym same ∙ sym x.client)) (omega (arith, order, x.command, e.command)) in
            omega (arith, rise, x.next, e.at))
        | inr r ↦ (
            let rise = reads_rise client seat x.line r.line read (read_line client seat b r (r.client ∙ sym same ∙ sym x.client)) (omega (arith, order, x.command, r.command)) in
            omega (arith, rise, x.next, r.at))
      ]

  pub in_turn : (a b : ClientAnswer) → Contains (answers_of report.journal report.reads) a → Contains (answers_of report.journal report.reads) b → a.client ≡ b.client → a.command < b.command → a.next ≤ b.at
  in_turn a b among_a among_b same order = elim (line_behind a among_a) [
    | inl e ↦ after_entry a b e (line_behind b among_b) same order
    | inr r ↦ after_read a b r (line_behind b among_b) same order
  ]
