-- What a record says of the callers of the service behind each line.
use Rattle.std.proofs.Common.{◌≡◌, ◌+◌, ◌-◌, ◌<◌, ◌≤◌, ℕ, List, [], ◌∷◌, length, map, filter, slice_get, Option, None, Some, sym, ap, subst, ◌∙◌, refl, inl, inr, arith}
use Rattle.std.specs.Prelude.{All, Contains}
use Rattle.std.specs.Option.{option_map}
use Rattle.std.proofs.lemmas.Bool.{cases_eq, eq-eqb}
use Rattle.std.proofs.lemmas.List.Elements.{All-contains, All-nil, Contains-append_left}
use Rattle.std.proofs.lemmas.List.Sorted.{length_permutation}
use Rattle.std.proofs.lemmas.Option.{same_Some, slice_get-map}
use Rattle.cx_core.specs.Base.{LawfulBase}
use Rattle.cx_core.specs.Lawful.{Lawful}
use Rattle.cx_core.specs.Merge.{own_of}
use Rattle.cx_core.specs.Shown.{shown}
use Rattle.cx_core.specs.State.{State}
use Rattle.cx_core.specs.declared.entry.Base.{Base}
use Rattle.cx_core.specs.declared.entry.Entry.{Entry}
use Rattle.cx_core.specs.declared.local.Answer.{Answer as GivenAnswer}
use Rattle.cx_core.specs.declared.local.Linked.{Linked}
use Rattle.cx_core.specs.declared.local.Local.{Local}
use Rattle.cx_core.specs.declared.local.SeenRead.{SeenRead}
use Rattle.cx_core.proofs.ListLemmas.{item_below}
use Rattle.cx_core.proofs.MergeLemmas.{own_at, own_mine, own_other}
use Rattle.life_records.specs.Meanings.{HaveWordsOfLines, MeanStores, object_instance}
use Rattle.life_records.proofs.ItemLists.{All-item, Contains-item, map_item}
use Rattle.life_records.proofs.Steps.{mean_stores}
use Rattle.life_records.proofs.TypedSteps.{TypedSteps}
use Rattle.life_records.proofs.Endings.{has_ended, interleaves}
use Rattle.pool_lives.proofs.InOrder.{works_in_order}
use Rattle.life_records.proofs.Lists.{Each, Has, climbs_from, contains_has, each_has, has_contains, has_filter, has_get, has_map, has_moved, length_map, ranged, rises_from, zip_back}
use Rattle.life_records.specs.Ended.{IsEnded}
use Rattle.life_records.specs.Lives.{IsLegalFull, IsLegalStop}
use Rattle.life_records.specs.Records.{FullLine, JournalLine, Life, LifeRecord, ReadLine}
use Rattle.life_records.specs.Works.{AreWorks, HasCommandWords, IsLineOf, IsReadLine, IsReplyAt, by_entry, by_read}
use Rattle.pool_lives.specs.Recorded.{IsCallersAnswer, IsEntryOfSomeCaller, IsReadOfSomeCaller, IsPoolRecorded}
use Rattle.pool_lives.proofs.InTurn.{tickets_rise}

-- an entry among a caller's own is of that caller
own_by : (caller ticket : ℕ) (history : List Entry) → Each (λ (x : Linked). x.entry.caller ≡ caller) (own_of caller ticket history)
own_by caller ticket [] = tt
own_by caller ticket (e ∷ rest) =
    let next = own_by caller (ticket + 1) rest in
    elim (cases_eq e.caller caller) [
      | inl mine ↦ subst (Each (λ (x : Linked). x.entry.caller ≡ caller)) (sym (own_mine caller ticket e rest mine)) (mine, next)
      | inr other ↦ subst (Each (λ (x : Linked). x.entry.caller ≡ caller)) (sym (own_other caller ticket e rest other)) next
    ]

module _ {Op Reply Store : Type 0} (t : TypedSteps Op Reply Store) (callers : ℕ) (base : Base) (s : State) (store : Store) (life : Life Op) (report : LifeRecord Reply) (base_law : LawfulBase t.lines t.lawful base)
    (law : Lawful (object_instance t.step t.reads callers base) s) (is : IsPoolRecorded t.meaning (object_instance t.step t.reads callers base) s law.history store life report) where
  abbrev ticket_of : JournalLine Reply → ℕ
  ticket_of line = line.ticket

  pub long_journal : length report.journal ≡ length law.history
  long_journal = length_permutation is.entries report.journal is.sorted.moved ∙ is.long

  -- by ticket, the lines have the tickets from the place on
  pub tickets_are : (i : ℕ) (line : JournalLine Reply) → slice_get report.journal i ≡ Some line → line.ticket ≡ base.place + i
  tickets_are i line at =
      let long : length (map ticket_of report.journal) ≡ length law.history = length_map ticket_of report.journal ∙ long_journal in
      let all : (n : ℕ) → base.place ≤ n → n < base.place + length (map ticket_of report.journal) → Has (map ticket_of report.journal) n = λ n from below. (
      let within : n - base.place < length law.history = omega arith in
      let found = is.tickets (n - base.place) within in
      let same : found.0.ticket ≡ n = found.2 ∙ omega arith in
      has_map ticket_of report.journal found.0 n (has_moved is.entries report.journal found.0 is.sorted.moved (contains_has is.entries found.0 found.1)) same) in
      ranged base.place (map ticket_of report.journal) (climbs_from ticket_of report.journal is.sorted.up) all i line.ticket (slice_get-map ticket_of report.journal i ∙ ap (option_map ticket_of) at)

  -- by ticket, the lines are the clients'
  pub works : AreWorks t.meaning.encoding life is.clients report.journal report.reads [] []
  works =
      works_in_order t.meaning.encoding life is.clients is.entries report.journal report.reads [] [] is.works is.sorted.moved (rises_from ticket_of base.place report.journal tickets_are)
      (tickets_rise t.meaning.encoding life is.clients is.entries report.reads is.works is.in_turn)

  -- all clients have ended: each was answered all its commands
  pub ended : IsEnded life report
  ended = record {
    tickets = λ i line at. tickets_are i line at ∙ ap (λ p. p + i) (sym is.from);
    interleaved = interleaves t.meaning.encoding life is.clients report.journal report.reads [] [] works is.count;
    reads_in_order = works.reads_in_order;
    stops_in_order = rw is.stops works.stops_in_order;
    fulls_in_order = rw is.fulls works.fulls_in_order;
    ended = λ client below.
        let l = item_below is.clients client (omega (arith, is.count)) in
        has_ended t.meaning.encoding life is.clients report.journal report.reads [] [] works is.count client l.0 l.1 report refl refl is.stops is.fulls;
    stops = rw is.stops (All-nil (IsLegalStop life));
    fulls = subst (λ (fs : List FullLine). All (IsLegalFull life report) fs) (sym is.fulls) (All-nil (IsLegalFull life report));
  }

  -- the client's entry behind a line
  pub record Behind (line : JournalLine Reply) : Type 0 where
    pub local : Local
    pub of_client : slice_get is.clients line.client ≡ Some local
    pub own : Linked
    pub is_line : IsLineOf t.meaning.encoding life line.client local.answered None own line
    pub entry : IsEntryOfSomeCaller is.locals own

  pub behind : (i : ℕ) (line : JournalLine Reply) → slice_get report.journal i ≡ Some line → Behind line
  behind i line at =
      let c = line.client in
      let l = item_below is.clients c (All-item (λ (x : JournalLine Reply). x.client < length is.clients) report.journal i line works.of_entries at) in
      let mine : Has (filter (by_entry c) report.journal) line = has_filter (by_entry c) report.journal line (has_get report.journal i line at) (eq-eqb c c refl) in
      let x = zip_back (IsLineOf t.meaning.encoding life c l.0.answered None) l.0.own (filter (by_entry c) report.journal) line (works.each c l.0 l.1).entry_lines mine in
      record {
        local = l.0;
        of_client = l.1;
        own = x.0;
        is_line = x.2;
        entry = All-contains (IsEntryOfSomeCaller is.locals) l.0.own x.0 (is.calls c l.0 l.1).entries (has_contains l.0.own x.0 x.1);
      }

  -- the caller behind what a seat shows of it
  pub caller_at : (caller : ℕ) (l : Local) → slice_get is.locals caller ≡ Some l → (w : Local) × (slice_get s.locals caller ≡ Some w) × (shown w ≡ l)
  caller_at caller l at = map_item shown s.locals caller l (ap (λ ls. slice_get ls caller) is.seats ∙ at)

  -- a caller's entry has its place in the history
  pub placed : (caller : ℕ) (l : Local) (x : Linked) → slice_get is.locals caller ≡ Some l → Contains l.own x → (base.place ≤ x.ticket) × (slice_get law.history (x.ticket - base.place) ≡ Some x.entry)
  placed caller l x at there =
      let w = caller_at caller l at in
      let k = Contains-item l.own x there in
      let same : l.own ≡ w.0.own = sym (ap (λ (y : Local). y.own) w.2) in
      own_at caller base.place law.history k.0 x (ap (λ (os : List Linked). slice_get os k.0) (sym (law.tickets.merged.own caller w.0 w.1)) ∙ ap (λ (os : List Linked). slice_get os k.0) (sym same) ∙ k.1)

  -- a caller's entry is of that caller
  pub of_caller : (caller : ℕ) (l : Local) (x : Linked) → slice_get is.locals caller ≡ Some l → Contains l.own x → x.entry.caller ≡ caller
  of_caller caller l x at there =
      let w = caller_at caller l at in
      let same : l.own ≡ own_of caller base.place law.history = sym (ap (λ (y : Local). y.own) w.2) ∙ law.tickets.merged.own caller w.0 w.1 in
      each_has (λ (y : Linked). y.entry.caller ≡ caller) (own_of caller base.place law.history) x (own_by caller base.place law.history)
      (contains_has (own_of caller base.place law.history) x (subst (λ (ys : List Linked). Contains ys x) same there))

  -- the entry of the history at a line is the one of the caller behind it
  pub entry_is : (i : ℕ) (line : JournalLine Reply) (entry : Entry) (at : slice_get report.journal i ≡ Some line) → slice_get law.history i ≡ Some entry → (behind i line at).entry.entry.entry ≡ entry
  entry_is i line entry at there =
      let b = behind i line at in
      let e = b.entry in
      let p = placed e.caller e.local e.entry e.of_caller e.there in
      let ticket : line.ticket ≡ base.place + i = tickets_are i line at in
      let index : e.entry.ticket - base.place ≡ i = omega (arith, e.ticket, b.is_line.ticket, ticket) in
      same_Some e.entry.entry entry (sym p.1 ∙ ap (slice_get law.history) index ∙ there)

  pub words_are : (i : ℕ) (line : JournalLine Reply) (entry : Entry) → slice_get report.journal i ≡ Some line → slice_get law.history i ≡ Some entry → HasCommandWords t.meaning.encoding life line.client line.command entry.op
  words_are i line entry at there =
      let b = behind i line at in
      let same : b.own.entry.op ≡ entry.op = sym b.entry.op ∙ ap (λ (x : Entry). x.op) (entry_is i line entry at there) in
      subst (HasCommandWords t.meaning.encoding life line.client line.command) same b.is_line.op

  pub lines_are : HaveWordsOfLines t.meaning.encoding life law.history report.journal
  lines_are = record { long = long_journal; words = λ i line entry at there. words_are i line entry at there }

  pub means : MeanStores t.meaning t.step t.reads life base law.history report.journal store
  means = mean_stores t life is.limits is.op_values base base_law law.history report.journal store lines_are is.stands

  -- the answer of a caller behind a line with a reply
  pub answered : (i : ℕ) (line : JournalLine Reply) (reply : Reply) → slice_get report.journal i ≡ Some line → line.reply ≡ Some reply →
      IsCallersAnswer is.locals (record { ticket = line.ticket; reply = t.meaning.encoding.reply_words reply })
  answered i line reply at has =
      let b = behind i line at in
      let a : GivenAnswer = record { ticket = line.ticket; reply = t.meaning.encoding.reply_words reply } in
      let there : Contains b.local.answered a = subst (λ (o : Option Reply). IsReplyAt t.meaning.encoding b.local.answered line.ticket o) has b.is_line.reply in
      All-contains (IsCallersAnswer is.locals) b.local.answered a (is.calls line.client b.local b.of_client).answers there

  -- the caller's read behind a line
  pub record ReadBehind (line : ReadLine Reply) : Type 0 where
    pub client : Local
    pub of_client : slice_get is.clients line.client ≡ Some client
    pub seen : SeenRead
    pub read : IsReadOfSomeCaller is.locals seen
    pub is_line : IsReadLine t.meaning.encoding life line.client read.read line

  pub read_behind : (k : ℕ) (line : ReadLine Reply) → slice_get report.reads k ≡ Some line → ReadBehind line
  read_behind k line at =
      let c = line.client in
      let l = item_below is.clients c (All-item (λ (x : ReadLine Reply). x.client < length is.clients) report.reads k line works.of_reads at) in
      let mine : Has (filter (by_read c) report.reads) line = has_filter (by_read c) report.reads line (has_get report.reads k line at) (eq-eqb c c refl) in
      let reads = (works.each c l.0 l.1).read_lines in
      let x = zip_back (IsReadLine t.meaning.encoding life c) reads.reported (filter (by_read c) report.reads) line reads.lines_are mine in
      let there : Contains l.0.seen_reads x.0 = subst (λ (xs : List SeenRead). Contains xs x.0) (sym reads.are) (Contains-append_left reads.reported reads.left x.0 (has_contains reads.reported x.0 x.1)) in
      let read = All-contains (IsReadOfSomeCaller is.locals) l.0.seen_reads x.0 (is.calls c l.0 l.1).reads there in
      record {
        client = l.0;
        of_client = l.1;
        seen = x.0;
        read = read;
        is_line = record {
          place = x.2.place ∙ sym read.place;
          client_is = x.2.client_is;
          op = subst (HasCommandWords t.meaning.encoding life line.client line.command) (sym read.op) x.2.op;
          reply = x.2.reply ∙ sym read.reply;
        };
      }
