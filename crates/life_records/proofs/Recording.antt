-- What a record says of the state that tells it: the answer and the read behind each line.
use Rattle.std.proofs.Common.{◌≡◌, ◌+◌, ◌-◌, ◌<◌, ◌≤◌, ℕ, Bool, true, false, List, length, filter, Option, None, Some, IfSome, IsSome, refl, sym, ap, subst, ◌∙◌, arith}
use Rattle.std.specs.List.{All, Contains, slice_get}
use Rattle.std.specs.Option.{option_map}
use Rattle.std.proofs.lemmas.Bool.{eq-eqb}
use Rattle.std.proofs.lemmas.List.{length-map}
use Rattle.std.proofs.lemmas.Option.{same_Some, slice_get-get_or, slice_get-map, slice_get_within}
use Rattle.cx_core.specs.Base.{LawfulBase}
use Rattle.cx_core.specs.History.{reply_at}
use Rattle.cx_core.specs.Lawful.{Lawful}
use Rattle.cx_core.specs.LawfulAnswers.{IsRead, durable_place}
use Rattle.cx_core.specs.Region.{object_part}
use Rattle.cx_core.specs.RootEvents.{reply_after}
use Rattle.cx_core.specs.Shown.{shown}
use Rattle.cx_core.specs.State.{State}
use Rattle.cx_core.specs.declared.entry.Base.{Base}
use Rattle.cx_core.specs.declared.entry.Entry.{Entry}
use Rattle.cx_core.specs.declared.local.Answer.{Answer}
use Rattle.cx_core.specs.declared.local.Linked.{Linked}
use Rattle.cx_core.specs.declared.local.Local.{Local}
use Rattle.cx_core.specs.declared.local.SeenRead.{SeenRead}
use Rattle.cx_core.proofs.ListLemmas.{item_below, slice_get-append_left}
use Rattle.core_replica.proofs.Places.{durable_within}
use Rattle.core_runs.proofs.Keeps.{bounds_of}
use Rattle.life_records.specs.Works.{HasCommandWords, IsLineOf, IsLineReply, IsReadLine, IsWork, by_entry, by_read, full_of, stop_of, stops_in}
use Rattle.life_records.specs.Meanings.{HaveWordsOfLines, MeanStores, object_instance}
use Rattle.life_records.specs.Recorded.{IsRecorded}
use Rattle.life_records.proofs.ItemLists.{All-item, Contains-item, filter_item, zip_item}
use Rattle.life_records.proofs.Steps.{image_stands, mean_stores, op_is}
use Rattle.life_records.proofs.TypedSteps.{TypedSteps}
use Rattle.life_records.specs.Lives.{HasReply, IsLegalRead, store_at}
use Rattle.life_records.specs.Scripts.{named_op}
use Rattle.life_records.specs.Records.{Encoding, OpHasWords, JournalLine, Life, LifeRecord, ReadLine}

-- the words of a reading are those of an operation that only reads
reading_is : {Op Reply Store : Type 0} → (t : TypedSteps Op Reply Store) (words : List ℕ) (op : Op) → OpHasWords t.meaning words op → t.reads words ≡ true → t.meaning.is_reading op ≡ true
reading_is t words op is reads = sym (t.means.readings op is.limits is.value) ∙ ap t.reads is.has ∙ reads

-- a reply that stands in a line was answered
answer_of : {Op Reply : Type 0} → (encoding : Encoding Op Reply) (b : Bool) (answered : List Answer) (ticket : ℕ) (reply : Reply) → IsLineReply encoding b answered ticket (Some reply) → Contains answered (record { ticket = ticket; reply = encoding.reply_words reply })
answer_of encoding true answered ticket reply is = cc
answer_of encoding false answered ticket reply is = is

module _ {Op Reply Store : Type 0} (t : TypedSteps Op Reply Store) (callers : ℕ) (base : Base) (s : State) (store : Store) (life : Life Op) (report : LifeRecord Reply) (base_law : LawfulBase t.lines t.lawful base)
    (law : Lawful (object_instance t.step t.reads callers base) s) (is : IsRecorded t.meaning (object_instance t.step t.reads callers base) s law.history store life report) where
  -- the local state of a client, and what its seat shows of it
  pub record Seat (client : ℕ) : Type 0 where
    pub local : Local
    pub of_client : slice_get s.locals client ≡ Some local
    pub shows : slice_get is.locals client ≡ Some (shown local)

  seat_at : (client : ℕ) (l : Local) → slice_get s.locals client ≡ Some l → Seat client
  seat_at client l at = record { local = l; of_client = at; shows = ap (λ (ls : List Local). slice_get ls client) (sym is.seats) ∙ slice_get-map shown s.locals client ∙ ap (option_map shown) at }

  seats_long : length is.locals ≡ length s.locals
  seats_long = ap length (sym is.seats) ∙ length-map s.locals shown

  pub seat_of : (client : ℕ) → client < length is.locals → Seat client
  seat_of client below = let l = item_below s.locals client (omega (arith, below, seats_long)) in seat_at client l.0 l.1

  pub seat_of_entry : (i : ℕ) (entry : Entry) → slice_get law.history i ≡ Some entry → Seat entry.caller
  seat_of_entry i entry at = let l = item_below s.locals entry.caller (law.tickets.merged.of_callers i entry at) in seat_at entry.caller l.0 l.1

  line_of : (i : ℕ) (line : JournalLine Reply) (entry : Entry) (seat : Seat entry.caller) → slice_get report.journal i ≡ Some line → slice_get law.history i ≡ Some entry →
      IsLineOf t.meaning.encoding life entry.caller seat.local.answered (stop_of entry.caller report.stops) (record { ticket = base.place + i; entry = entry }) line
  line_of i line entry seat at_line at_entry = is.is_told.entries i line entry (shown seat.local) at_line at_entry seat.shows

  pub lines_are : HaveWordsOfLines t.meaning.encoding life law.history report.journal
  lines_are = record {
    long = is.is_told.long;
    words = λ i line entry at_line at_entry. (
        let l = line_of i line entry (seat_of_entry i entry at_entry) at_line at_entry in
        subst (λ c. HasCommandWords t.meaning.encoding life c line.command entry.op) (sym l.client_is) l.op);
  }

  pub client_is : (i : ℕ) (line : JournalLine Reply) (entry : Entry) → slice_get report.journal i ≡ Some line → slice_get law.history i ≡ Some entry → line.client ≡ entry.caller
  client_is i line entry at_line at_entry = (line_of i line entry (seat_of_entry i entry at_entry) at_line at_entry).client_is

  pub means : MeanStores t.meaning t.step t.reads life base law.history report.journal store
  means = mean_stores t life is.limits is.op_values base base_law law.history report.journal store lines_are is.stands

  -- the answer behind a line that has a reply
  pub record Answered (line : JournalLine Reply) (reply : Reply) : Type 0 where
    pub client : ℕ
    pub local : Local
    pub of_client : slice_get s.locals client ≡ Some local
    pub index : ℕ
    pub there : slice_get local.answered index ≡ Some (record { ticket = line.ticket; reply = t.meaning.encoding.reply_words reply })

  pub answered_line : (i : ℕ) (line : JournalLine Reply) (reply : Reply) → slice_get report.journal i ≡ Some line → line.reply ≡ Some reply → Answered line reply
  answered_line i line reply at has =
      let below = slice_get_within report.journal i line at in
      let entry = item_below law.history i (omega (arith, below, is.is_told.long)) in
      let seat = seat_of_entry i entry.0 entry.1 in
      let l = line_of i line entry.0 seat at entry.1 in
      let b = stops_in (stop_of entry.0.caller report.stops) line.command in
      let answer = answer_of t.meaning.encoding b seat.local.answered line.ticket reply (subst (IsLineReply t.meaning.encoding b seat.local.answered line.ticket) has l.reply) in
      let item = Contains-item seat.local.answered (record { ticket = line.ticket; reply = t.meaning.encoding.reply_words reply }) answer in
      record { client = entry.0.caller; local = seat.local; of_client = seat.of_client; index = item.0; there = item.1 }

  -- a reply with the words of the store's is the store's
  reply_is_meant : (n : ℕ) (op : Op) (reply : Reply) → t.meaning.is_op op → t.meaning.is_op_value op → n ≤ length law.history → t.meaning.is_reply_value reply →
      t.meaning.encoding.reply_words reply ≡ t.meaning.encoding.reply_words (t.meaning.reply_to (store_at t.meaning store life report.journal n) op) → reply ≡ t.meaning.reply_to (store_at t.meaning store life report.journal n) op
  reply_is_meant n op reply limits op_value within value same =
      let st = store_at t.meaning store life report.journal n in
      let image = image_stands t life is.limits is.op_values base base_law law.history report.journal store lines_are is.stands n within in
      t.means.told reply (t.meaning.reply_to st op) value (t.means.replies _ st op image.is_lawful image.stands limits op_value) same

  reply_by : (i : ℕ) (line : JournalLine Reply) (o : Option Reply) → slice_get report.journal i ≡ Some line → line.reply ≡ o →
      IfSome o (HasReply t.meaning (store_at t.meaning store life report.journal i) (named_op life line.client line.command))
  reply_by i line None at has = tt
  reply_by i line (Some reply) at has =
      let below = slice_get_within report.journal i line at in
      let entry = item_below law.history i (omega (arith, below, is.is_told.long)) in
      let words = lines_are.words i line entry.0 at entry.1 in
      let op_of = op_is t life is.limits is.op_values line.client line.command entry.0.op words in
      let answer = answered_line i line reply at has in
      let history_s = ((law.answers.each answer.client answer.local answer.of_client).entries answer.index _ answer.there).reply in
      let store_s = means.replies i line words.op at words.named in
      let ticket = is.is_told.tickets i line at in
      let value = subst (λ o. IfSome o t.meaning.is_reply_value) has (All-item (λ (l : JournalLine Reply). IfSome l.reply t.meaning.is_reply_value) report.journal i line is.values.journal at) in
      let same = same_Some (t.meaning.encoding.reply_words reply) _ (sym history_s ∙ ap (reply_at t.step base.place (object_part base.words) law.history) ticket ∙ store_s) in
      subst (λ o. HasReply t.meaning (store_at t.meaning store life report.journal i) o reply) (sym words.named) (reply_is_meant i words.op reply op_of.limits op_of.value (omega (arith, below, is.is_told.long)) value same)

  pub replies : (i : ℕ) (line : JournalLine Reply) → slice_get report.journal i ≡ Some line → IfSome line.reply (HasReply t.meaning (store_at t.meaning store life report.journal i) (named_op life line.client line.command))
  replies i line at = reply_by i line line.reply at refl

  -- the work of a client, and the local state behind it
  pub work_of : (client : ℕ) (seat : Seat client) → IsWork t.meaning.encoding life client (shown seat.local) (filter (by_entry client) report.journal) (filter (by_read client) report.reads) (stop_of client is.stops) (full_of client report.fulls)
  work_of client seat = is.works.each client (shown seat.local) seat.shows

  -- the own entry behind a line
  pub record Own (client : ℕ) (seat : Seat client) (line : JournalLine Reply) : Type 0 where
    pub index : ℕ
    pub among : slice_get (filter (by_entry client) report.journal) index ≡ Some line
    pub own : Linked
    pub there : slice_get seat.local.own index ≡ Some own
    pub ticket : line.ticket ≡ own.ticket

  pub own_of_line : (client : ℕ) (seat : Seat client) (i : ℕ) (line : JournalLine Reply) → slice_get report.journal i ≡ Some line → line.client ≡ client → Own client seat line
  own_of_line client seat i line at mine =
      let among = filter_item (by_entry client) report.journal i line at (eq-eqb line.client client mine) in
      let x = zip_item (IsLineOf t.meaning.encoding life client seat.local.answered (stop_of client is.stops)) seat.local.own (filter (by_entry client) report.journal) among.0 line (work_of client seat).entry_lines among.1 in
      record { index = among.0; among = among.1; own = x.0; there = x.1; ticket = x.2.ticket }

  -- the read behind a line
  pub record Read (client : ℕ) (seat : Seat client) (line : ReadLine Reply) : Type 0 where
    pub index : ℕ
    pub among : slice_get (filter (by_read client) report.reads) index ≡ Some line
    pub read : SeenRead
    pub in_reported : slice_get (work_of client seat).read_lines.reported index ≡ Some read
    pub there : slice_get seat.local.seen_reads index ≡ Some read
    pub is_line : IsReadLine t.meaning.encoding life client read line
    pub is_read : IsRead (object_instance t.step t.reads callers base) law.history (durable_place (object_instance t.step t.reads callers base) s.words) seat.local read

  pub read_of_line : (client : ℕ) (seat : Seat client) (k : ℕ) (line : ReadLine Reply) → slice_get report.reads k ≡ Some line → line.client ≡ client → Read client seat line
  read_of_line client seat k line at mine =
      let among = filter_item (by_read client) report.reads k line at (eq-eqb line.client client mine) in
      let reads = (work_of client seat).read_lines in
      let x = zip_item (IsReadLine t.meaning.encoding life client) reads.reported (filter (by_read client) report.reads) among.0 line reads.lines_are among.1 in
      let there = ap (λ (xs : List SeenRead). slice_get xs among.0) reads.are ∙ slice_get-append_left reads.reported reads.left among.0 x.0 x.1 in
      record {
        index = among.0;
        among = among.1;
        read = x.0;
        in_reported = x.1;
        there = there;
        is_line = x.2;
        is_read = (law.answers.each client seat.local seat.of_client).reads among.0 x.0 there;
      }

  pub entry_client : (i : ℕ) (line : JournalLine Reply) → slice_get report.journal i ≡ Some line → Seat line.client
  entry_client i line at = seat_of line.client (All-item (λ (l : JournalLine Reply). l.client < length is.locals) report.journal i line is.works.of_entries at)

  pub read_client : (k : ℕ) (line : ReadLine Reply) → slice_get report.reads k ≡ Some line → Seat line.client
  read_client k line at = seat_of line.client (All-item (λ (l : ReadLine Reply). l.client < length is.locals) report.reads k line is.works.of_reads at)

  legal_read : (k : ℕ) (line : ReadLine Reply) → slice_get report.reads k ≡ Some line → IsLegalRead t.meaning base.place store life report.journal line
  legal_read k line at =
      let seat = read_client k line at in
      let r = read_of_line line.client seat k line at refl in
      let op = r.is_line.op in
      let op_of = op_is t life is.limits is.op_values line.client line.command r.read.op op in
      let within = durable_within (object_instance t.step t.reads callers base) law.history s.words s.locals law.shape.some (bounds_of (object_instance t.step t.reads callers base) s law) in
      let place = r.is_line.place in
      let to : line.place - base.place ≤ length law.history = omega (arith, within, place, r.is_read.durable, r.is_read.from) in
      let value = All-item (λ (l : ReadLine Reply). t.meaning.is_reply_value l.reply) report.reads k line is.values.reads at in
      let answer = means.answers callers r.read.place op.op op_of.limits op_of.value (omega (arith, within, r.is_read.durable)) in
      let same = r.is_line.reply ∙ r.is_read.reply ∙ ap (reply_after (object_instance t.step t.reads callers base) law.history r.read.place) (sym op.words_are) ∙ answer ∙ ap (λ p. t.meaning.encoding.reply_words (t.meaning.reply_to (store_at t.meaning store life report.journal (p - base.place)) op.op)) (sym place) in
      record {
        named = record {
          takes_part = omega (arith, slice_get_within is.locals line.client (shown seat.local) seat.shows, is.is_told.callers);
          there = subst IsSome (sym op.named) refl;
        };
        reads = subst (λ o. IfSome o (λ p. t.meaning.is_reading p ≡ true)) (sym op.named) (reading_is t r.read.op op.op op_of r.is_read.reads);
        from = omega (arith, place, r.is_read.from);
        to = omega (arith, within, place, r.is_read.durable, is.is_told.long);
        reply = subst (λ o. HasReply t.meaning (store_at t.meaning store life report.journal (line.place - base.place)) o line.reply) (sym op.named) (reply_is_meant (line.place - base.place) op.op line.reply op_of.limits op_of.value to value same);
      }

  pub legal_reads : All (IsLegalRead t.meaning base.place store life report.journal) report.reads
  legal_reads k d below = legal_read k _ (slice_get-get_or report.reads k d below)
