-- Kept flags may be set, and the numbers of entries kept and of items filled in: what a closed table tells of a record, and
-- what clients came to, stays.
use Rattle.std.proofs.Common.{◌≡◌, ◌+◌, ◌<◌, ◌==◌, ◌&&◌, ◌||◌, ℕ, zero, suc, Bool, true, false, cond, List, [], ◌∷◌, length, get_or, set, filter, slice_get, Option, None, Some, sym, ap, subst, ◌∙◌, refl, inl, inr, ◌⊎◌, arith}
use Rattle.std.specs.Prelude.{All}
use Rattle.std.specs.List.{AllZip}
use Rattle.std.proofs.lemmas.List.Elements.{All-weaker}
use Rattle.std.proofs.lemmas.Option.{none-some, same_Some}
use Rattle.cx_core.specs.declared.entry.Entry.{Entry}
use Rattle.cx_core.specs.declared.local.Answer.{Answer}
use Rattle.cx_core.specs.declared.local.Linked.{Linked}
use Rattle.cx_core.specs.declared.local.Local.{Local}
use Rattle.cx_core.specs.declared.local.SeenRead.{SeenRead}
use Rattle.life_records.specs.Records.{Encoding, FullLine, JournalLine, Life, LifeRecord, ReadLine, StopLine}
use Rattle.life_records.specs.Lives.{HasEnded, IsEndedEntry, IsLegalFull, IsLegalStop, has_full, has_stop, is_stopped}
use Rattle.life_records.specs.Scripts.{own_ops}
use Rattle.life_records.specs.Ended.{IsEnded, IsSameButKept, IsSameStop}
use Rattle.life_records.specs.Told.{IsTold, IsToldFull, IsToldStop}
use Rattle.life_records.specs.Works.{AreReadLines, HasCommandWords, IsLineOf, IsLineReply, IsStoppedRead, IsUnderWay, by_read, stop_of, stops_in}
use Rattle.life_records.proofs.Lists.{all_each, each_all, pairs_rise, rises_pairs, zip_each, zip_rises}

pub same_stops : (stops : List StopLine) → AllZip IsSameStop stops stops
same_stops [] = tt
same_stops (line ∷ lines) = (record { client = refl; command = refl; steps = refl }, same_stops lines)

-- to set one flag leaves the stops the same
pub set_flag : (xs ys : List StopLine) (i : ℕ) (d : StopLine) (flag : Bool) → AllZip IsSameStop xs ys → i < length ys →
    AllZip IsSameStop xs (set ys i (record { client = (get_or ys i d).client; command = (get_or ys i d).command; steps = (get_or ys i d).steps; kept = flag }))
set_flag xs [] i d flag z within = absurd (omega arith)
set_flag [] (y ∷ ys) i d flag z within = absurd z
set_flag (x ∷ xs) (y ∷ ys) zero d flag z within = (record { client = z.0.client; command = z.0.command; steps = z.0.steps }, z.1)
set_flag (x ∷ xs) (y ∷ ys) (suc i) d flag z within = (z.0, set_flag xs ys i d flag z.1 (omega arith))

-- two stop lines that are the same but for the kept flag, or none twice
abbrev SameStopOf : Option StopLine → Option StopLine → Type 0
SameStopOf None None = Unit {0}
SameStopOf (Some a) (Some b) = IsSameStop a b
SameStopOf _ _ = ⊥

same_stop_of : (client : ℕ) (xs ys : List StopLine) → AllZip IsSameStop xs ys → SameStopOf (stop_of client xs) (stop_of client ys)
same_stop_of client [] [] z = tt
same_stop_of client (x ∷ xs) (y ∷ ys) z =
    subst (λ k. SameStopOf (stop_of client (x ∷ xs)) (cond (k == client) (Some y) (stop_of client ys))) (sym z.0.client)
    (elim (x.client == client) as (λ b. SameStopOf (cond b (Some x) (stop_of client xs)) (cond b (Some y) (stop_of client ys))) [
      | true ↦ z.0
      | false ↦ same_stop_of client xs ys z.1
    ])
same_stop_of client _ _ z = absurd z

same_stops_in : (a b : Option StopLine) → SameStopOf a b → (command : ℕ) → stops_in a command ≡ stops_in b command
same_stops_in None None same command = refl
same_stops_in (Some a) (Some b) same command = ap (λ k. k == command) (sym same.command)
same_stops_in _ _ same command = absurd same

same_has_stop : (client command : ℕ) (xs ys : List StopLine) → AllZip IsSameStop xs ys → has_stop client command xs ≡ has_stop client command ys
same_has_stop client command [] [] z = refl
same_has_stop client command (x ∷ xs) (y ∷ ys) z =
    ap (λ k. ((k == client) && (x.command == command)) || has_stop client command xs) (sym z.0.client)
    ∙ ap (λ k. ((y.client == client) && (k == command)) || has_stop client command xs) (sym z.0.command)
    ∙ ap (λ b. ((y.client == client) && (y.command == command)) || b) (same_has_stop client command xs ys z.1)
same_has_stop client command _ _ z = absurd z

same_stopped : (client : ℕ) (xs ys : List StopLine) → AllZip IsSameStop xs ys → is_stopped client xs ≡ is_stopped client ys
same_stopped client [] [] z = refl
same_stopped client (x ∷ xs) (y ∷ ys) z =
    ap (λ k. (k == client) || is_stopped client xs) (sym z.0.client)
    ∙ ap (λ b. (y.client == client) || b) (same_stopped client xs ys z.1)
same_stopped client _ _ z = absurd z

-- a line of the entry `x` beside its client's stop line `a` is one beside `b`, which is the same stop but for the kept flag
line_flagged : {Op Reply : Type 0} → (encoding : Encoding Op Reply) → (life : Life Op) (client : ℕ) (answered : List Answer) (a b : Option StopLine) (x : Linked) (line : JournalLine Reply) → SameStopOf a b → IsLineOf encoding life client answered a x line → IsLineOf encoding life client answered b x line
line_flagged encoding life client answered a b x line same is = record {
  ticket = is.ticket;
  by = is.by;
  client_is = is.client_is;
  op = is.op;
  reply = subst (λ s. IsLineReply encoding s answered line.ticket line.reply) (same_stops_in a b same line.command) is.reply;
}

stopped_flagged : {Op Reply : Type 0} → (encoding : Encoding Op Reply) → (life : Life Op) (client : ℕ) (a b : Option StopLine) (x : SeenRead) → SameStopOf a b → IsStoppedRead encoding life client a x → IsStoppedRead encoding life client b x
stopped_flagged encoding life client None b x same is = absurd (none-some is.line is.is)
stopped_flagged encoding life client (Some a) None x same is = absurd same
stopped_flagged encoding life client (Some a) (Some b) x same is =
    let command : is.line.command ≡ b.command = ap (λ (s : StopLine). s.command) (sym (same_Some a is.line is.is)) ∙ sym same.command in
    record { line = b; is = refl; op = subst (λ k. HasCommandWords encoding life client k x.op) command is.op }

reads_flagged : {Op Reply : Type 0} → (encoding : Encoding Op Reply) → (life : Life Op) (client : ℕ) (a b : Option StopLine) (seen : List SeenRead) (lines : List (ReadLine Reply)) → SameStopOf a b → AreReadLines encoding life client a seen lines → AreReadLines encoding life client b seen lines
reads_flagged encoding life client a b seen lines same are = record {
  reported = are.reported;
  left = are.left;
  are = are.are;
  lines_are = are.lines_are;
  few = are.few;
  stopped = All-weaker (IsStoppedRead encoding life client a) (IsStoppedRead encoding life client b) (λ x is. stopped_flagged encoding life client a b x same is) are.left are.stopped;
}

-- what holds of stop lines whatever their kept flags are, still holds of them with other flags
stops_flagged : (P : StopLine → Type 0) → ((a b : StopLine) → IsSameStop a b → P a → P b) → (xs ys : List StopLine) → AllZip IsSameStop xs ys → All P xs → All P ys
stops_flagged P f xs ys z all = all_each P ys (zip_each IsSameStop P P f xs ys z (each_all P xs all))

module _ {Op Reply : Type 0} (life : Life Op) (report flagged : LifeRecord Reply) (same : IsSameButKept report flagged) where
  -- what a closed table tells of the record stays
  pub still_is_told : (encoding : Encoding Op Reply) (place : ℕ) (history : List Entry) (locals : List Local) → IsTold encoding life place history locals report → IsTold encoding life place history locals flagged
  still_is_told encoding place history locals is = record {
    clients = same.clients ∙ is.clients;
    callers = is.callers;
    limits = is.limits;
    from = same.from ∙ is.from;
    of_callers = is.of_callers;
    long = rw same.journal is.long;
    tickets = rw same.journal is.tickets;
    entries = rw same.journal (λ i line entry l at there of.
        line_flagged encoding life entry.caller l.answered (stop_of entry.caller report.stops) (stop_of entry.caller flagged.stops) (record { ticket = place + i; entry = entry }) line
        (same_stop_of entry.caller report.stops flagged.stops same.stops) (is.entries i line entry l at there of));
    reads = rw same.reads (λ client l at.
        reads_flagged encoding life client (stop_of client report.stops) (stop_of client flagged.stops) l.seen_reads (filter (by_read client) report.reads)
        (same_stop_of client report.stops flagged.stops same.stops) (is.reads client l at));
    stops = stops_flagged (IsToldStop locals)
        (λ a b s t. record { local = t.local; of_client = ap (slice_get locals) s.client ∙ t.of_client; steps = t.steps; under_way = subst (IsUnderWay t.local) (sym s.command) t.under_way })
        report.stops flagged.stops same.stops is.stops;
    fulls = subst (All (IsToldFull locals flagged.stops)) (sym same.fulls) (All-weaker (IsToldFull locals report.stops) (IsToldFull locals flagged.stops)
        (λ line t. record {
          local = t.local;
          of_client = t.of_client;
          need = t.need;
          cells = t.cells;
          stopped = sym (same_stopped line.note.holder report.stops flagged.stops same.stops) ∙ t.stopped;
        })
        report.fulls is.fulls);
  }

  has_flag : (client command : ℕ) → has_stop client command report.stops ≡ has_stop client command flagged.stops
  has_flag client command = same_has_stop client command report.stops flagged.stops same.stops

  entry_flagged : (client answered : ℕ) (line : JournalLine Reply) → IsEndedEntry client answered report.stops line → IsEndedEntry client answered flagged.stops line
  entry_flagged client answered line (inl has) = inl has
  entry_flagged client answered line (inr last) = inr (last.0, last.1, sym (has_flag client (answered + 1)) ∙ last.2)

  over_flagged : (client answered n : ℕ) (full : Type 0) → (answered ≡ n) ⊎ ((has_stop client (answered + 1) report.stops ≡ true) ⊎ full) → (answered ≡ n) ⊎ ((has_stop client (answered + 1) flagged.stops ≡ true) ⊎ full)
  over_flagged client answered n full (inl all) = inl all
  over_flagged client answered n full (inr (inl stop)) = inr (inl (sym (has_flag client (answered + 1)) ∙ stop))
  over_flagged client answered n full (inr (inr gave_up)) = inr (inr gave_up)

  ended_flagged : (client : ℕ) → HasEnded life report client → HasEnded life flagged client
  ended_flagged client e = record {
    answered = e.answered;
    within = e.within;
    once = rw (same.journal, same.reads) e.once;
    entries = rw same.journal (All-weaker (λ (x : JournalLine Reply). x.client ≡ client → IsEndedEntry client e.answered report.stops x) (λ (x : JournalLine Reply). x.client ≡ client → IsEndedEntry client e.answered flagged.stops x)
        (λ x was by. entry_flagged client e.answered x (was by)) report.journal e.entries);
    reads = rw same.reads e.reads;
    stops = stops_flagged (λ (x : StopLine). x.client ≡ client → x.command ≡ e.answered + 1)
        (λ a b s was by. s.command ∙ was (sym s.client ∙ by))
        report.stops flagged.stops same.stops e.stops;
    fulls = rw same.fulls e.fulls;
    over = rw same.fulls (over_flagged client e.answered (length (own_ops client life.commands)) (has_full client (e.answered + 1) report.fulls ≡ true) e.over);
  }

  full_flagged : (line : FullLine) → IsLegalFull life report line → IsLegalFull life flagged line
  full_flagged line f = record {
    named = f.named;
    other = f.other;
    stopped = sym (same_stopped line.note.holder report.stops flagged.stops same.stops) ∙ f.stopped;
    need = f.need;
    cells = rw same.journal f.cells;
    least = f.least;
    there = rw same.journal f.there;
    own = f.own;
    at = f.at;
    answered = f.answered;
  }

  -- what the clients came to stays
  pub still_ended : IsEnded life report → IsEnded life flagged
  still_ended e = record {
    tickets = rw (same.journal, same.from) e.tickets;
    interleaved = rw same.journal e.interleaved;
    reads_in_order = rw same.reads e.reads_in_order;
    stops_in_order = rises_pairs (λ (x : StopLine). x.client) flagged.stops
        (zip_rises IsSameStop (λ (x : StopLine). x.client) (λ (x : StopLine). x.client) (λ a b s. s.client) report.stops flagged.stops same.stops
        (pairs_rise (λ (x : StopLine). x.client) report.stops e.stops_in_order));
    fulls_in_order = rw same.fulls e.fulls_in_order;
    ended = λ client below. ended_flagged client (e.ended client below);
    stops = stops_flagged (IsLegalStop life)
        (λ a b s was. record {
          named = rw (s.client, s.command) was.named;
          steps = rw (s.client, s.steps) was.steps;
          limit = rw s.steps was.limit;
        })
        report.stops flagged.stops same.stops e.stops;
    fulls = subst (All (IsLegalFull life flagged)) (sym same.fulls) (All-weaker (IsLegalFull life report) (IsLegalFull life flagged) full_flagged report.fulls e.fulls);
  }
