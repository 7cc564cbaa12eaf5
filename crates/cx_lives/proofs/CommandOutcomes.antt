-- What a command comes to, from what its operation came to.
use Rattle.std.proofs.Common.{◌≡◌, ℕ, ◌+◌, ◌-◌, ◌≤◌, Bool, true, false, List, [], ◌∷◌, length, Option, None, Some, sym, ap, subst, ◌∙◌, refl, inl, inr, arith}
use Rattle.std.specs.Prelude.{Contains}
use Rattle.std.proofs.lemmas.List.Elements.{Contains-push}
use Rattle.std.proofs.lemmas.List.{length-append}
use Rattle.cx_core.specs.declared.local.Answer.{Answer}
use Rattle.cx_core.specs.declared.local.FullNote.{FullNote}
use Rattle.cx_core.specs.declared.local.Local.{Local}
use Rattle.cx_core.specs.declared.local.SeenRead.{SeenRead}
use Rattle.table_invariant.specs.Running.{IsSeatOf, Running}
use Rattle.table_invariant.specs.Seats.{Seated}
use Rattle.cx_service.specs.Callers.{StoppedSeat}
use Rattle.cx_attempts.specs.declared.lookup.Seen.{Seen}
use Rattle.life_records.specs.Scripts.{named_op, own_ops}
use Rattle.life_records.specs.Records.{FullLine, OpHasWords, JournalLine, Life, Meaning, ReadLine}
use Rattle.life_records.specs.Works.{IsFullOf, IsWork}
use Rattle.cx_lives.specs.declared.progress.Progress.{Progress}
use Rattle.cx_lives.specs.declared.progress.End.TheVariants.{Whole, Full}
use Rattle.cx_lives.specs.declared.lines.Lines.{Lines}
use Rattle.cx_lives.specs.declared.progress.CommandOutcome.TheVariants.{Over, Full as FullTurn}
use Rattle.cx_lives.specs.declared.progress.Work.{Work}
use Rattle.cx_lives.specs.Calls.{AsksDone, AsksFull, AsksRead, AsksWorn, HaltsCall, LinksEntryAt}
use Rattle.cx_lives.specs.Ends.{CannotBe, IsCallerIn, IsKeptOut, IsNewIn, IsWorkOf, IsCommandOutcome, full_in}
use Rattle.cx_lives.specs.Serving.{HasServed, IsServed}
use Rattle.cx_lives.specs.Lines.{AddsClientEntry, AddsClientRead}
use Rattle.cx_lives.specs.Turns.{StopsIn, ended, stop_line, attempt_after, with_linked}
use Rattle.cx_lives.proofs.Serving.{few_own, is_given_up, is_whole, named_within, serves_entry, serves_none, serves_read, serves_still, stops_beside, stops_linked}

module _ {O Op Reply Store : Type 0} (m : Meaning Op Reply Store) (life : Life Op) (r : Running O) (client n number : ℕ) (before : Seated) (lines : Lines Reply) (s : HasServed m life client n before.known.local lines.entries.items lines.reads.items) (next : number ≡ n + 1)
    (op : Op) (ws : List ℕ) (are : ws ≡ m.encoding.op_words op) (named : named_op life client number ≡ Some op) (limits : m.is_op op) (value : m.is_op_value op) where
  abbrev pub l : Local
  l = before.known.local

  abbrev es : List (JournalLine Reply)
  es = lines.entries.items

  abbrev rs : List (ReadLine Reply)
  rs = lines.reads.items

  within : number ≤ length (own_ops client life.commands)
  within = named_within life client number op named

  few_before : length l.own ≤ n
  few_before = few_own m life client n l es rs s

  is_op : (words : List ℕ) → words ≡ ws → OpHasWords m words op
  is_op words same = record { limits = limits; value = value; has = sym (same ∙ are) }

  -- what is known of the caller with as many entries as before, and with one more
  still_in : (after : Seated) → IsSeatOf r after → after.known.local.number ≡ l.number → after.known.local.limit ≡ l.limit → after.known.local.own ≡ l.own → IsCallerIn life r client after
  still_in after of number_is limit own = record { of = of; by = number_is ∙ s.by; limit = limit ∙ s.limit; few = omega (arith, ap length own, few_before, within) }

  linked_in : (after : Seated) (ticket : ℕ) → IsSeatOf r after → LinksEntryAt ws ticket l after.known.local → IsCallerIn life r client after
  linked_in after ticket of links = record {
    of = of;
    by = links.number ∙ s.by;
    limit = links.limit ∙ s.limit;
    few = omega (arith, ap length links.own, length-append l.own (links.entry ∷ []), few_before, within);
  }

  -- the caller has what none can have
  never_turned : (after : Seated) (new : Lines Reply) → IsCallerIn life r client after → CannotBe m life client after.known.local → IsCommandOutcome m life r client number (attempt_after (record { caller = after; lines = new }) false)
  never_turned after new caller cannot = (record { caller = caller; ends = cannot }, refl)

  -- the entry was answered
  pub entry_turned : (after : Seated) (new : Lines Reply) (answer : Answer) (is_reply : Bool) → AsksDone r ws before after answer → AddsClientEntry m client number answer lines new is_reply → IsCommandOutcome m life r client number (attempt_after (record { caller = after; lines = new }) is_reply)
  entry_turned after new answer true a notes = record {
    caller = a.caller;
    lists = serves_entry m life client n l es rs s number next op ws are named after.known.local new.entries.items new.reads.items answer notes.reply a.links a.answered notes.words notes.entries_are notes.reads_are;
  }
  entry_turned after new answer false a bad =
      let among : Contains after.known.local.answered answer = rw a.answered (Contains-push l.answered answer) in
      let own : Contains after.known.local.own a.links.entry = rw a.links.own (Contains-push l.own a.links.entry) in
      never_turned after new (linked_in after answer.ticket a.caller.of a.links)
      (inr (inl (record { answer = answer; there = among; entry = a.links.entry; linked = own; at = a.links.at; op = op; is = is_op a.links.entry.entry.op a.links.op_is; bad = bad.1 })))

  -- the read was answered
  pub read_turned : length l.own ≡ length l.answered → (after : Seated) (new : Lines Reply) (seen : Seen) (is_reply : Bool) → AsksRead r ws before after seen → AddsClientRead m client number seen lines new is_reply → IsCommandOutcome m life r client number (attempt_after (record { caller = after; lines = new }) is_reply)
  read_turned even after new seen true a notes = record {
    caller = a.caller;
    lists = serves_read m life client n l es rs s number next op ws are named even seen notes.reply notes.words after.known.local new.entries.items new.reads.items a.number a.limit a.own a.answered a.reads notes.entries_are notes.reads_are;
  }
  read_turned even after new seen false a bad =
      let x : SeenRead = record { place = seen.place; op = ws; reply = seen.reply; before = length l.answered } in
      let among : Contains after.known.local.seen_reads x = rw a.reads (Contains-push l.seen_reads x) in
      never_turned after new (still_in after a.caller.of a.number a.limit a.own) (inr (inr (record { read = x; there = among; op = op; is = is_op ws refl; bad = bad.1 })))

  -- there was no further ticket
  pub worn_turned : (after : Seated) → AsksWorn r before after → IsCommandOutcome m life r client number (attempt_after (record { caller = after; lines = lines }) false)
  worn_turned after a =
      never_turned after lines (still_in after a.caller.of a.keeps.number a.keeps.limit a.keeps.own) (inl (record { front = a.front; fewer = omega (arith, ap length a.keeps.own, few_before, within) }))

  -- another caller keeps the cells, and nothing was answered
  pub full_turned : (most : Option ℕ) (after : Seated) (note : FullNote) → AsksFull r most before after note → IsCommandOutcome m life r client number (FullTurn (record { caller = after; lines = lines }) note)
  full_turned most after note a =
      let same : n ≡ number - 1 = omega arith in
      record {
        served = record {
          caller = a.caller;
          lists = subst (λ k. HasServed m life client k after.known.local es rs) same (serves_still m life client n l es rs s after.known.local a.keeps.number a.keeps.limit a.keeps.own a.keeps.answered a.keeps.reads);
        };
        names = a.names;
      }

  -- the client is stopped
  pub stop_turned : length l.own ≡ length l.answered → (stopped : StoppedSeat) (work : Work Reply) → HaltsCall r ws before stopped.seat stopped.linked → StopsIn client number stopped lines work → IsCommandOutcome m life r client number (Over work)
  stop_turned even stopped work a w = (
    record {
      caller = rw w.handed (caller stopped.linked a);
      ends = rw (w.handed, w.end_is) (ends stopped.linked a w.entries_are);
    },
    ap full_in w.end_is,
  )
    where
      caller : (linked : Option ℕ) → HaltsCall r ws before stopped.seat linked → IsCallerIn life r client stopped.seat
      caller None a = still_in stopped.seat a.caller.of a.number a.limit a.own
      caller (Some ticket) a = linked_in stopped.seat ticket a.caller.of a.links

      ends : (linked : Option ℕ) → HaltsCall r ws before stopped.seat linked → work.lines.entries.items ≡ with_linked client number linked es
          → IsWork m.encoding life client stopped.seat.known.local work.lines.entries.items work.lines.reads.items (Some (stop_line client number stopped)) None
      ends None a linked =
          stops_beside m life client n l es rs s number next op ws are named within even stopped.seat.known.local a.limit a.caller.limit work.lines.entries.items work.lines.reads.items a.number a.own a.answered a.reads linked w.reads_are
      ends (Some ticket) a linked =
          stops_linked m life client n l es rs s number next op ws are named within even stopped.seat.known.local a.links.limit a.caller.limit ticket a.more work.lines.entries.items work.lines.reads.items a.links a.answered a.won linked w.reads_are

-- a client that was answered all its commands, and one that gave up
pub whole_work : {O Op Reply Store : Type 0} (m : Meaning Op Reply Store) (life : Life Op) (r : Running O) (client n : ℕ) (p : Progress Reply) → IsServed m life r client n p → n ≡ length (own_ops client life.commands)
    → IsWorkOf m life r client (ended p Whole)
whole_work m life r client n p s all = record {
  caller = record { of = s.caller.of; by = s.lists.by; limit = s.lists.limit; few = omega (arith, few_own m life client n p.caller.known.local p.lines.entries.items p.lines.reads.items s.lists) };
  ends = is_whole m life client n p.caller.known.local p.lines.entries.items p.lines.reads.items s.lists all;
}

pub given_up_work : {O Op Reply Store : Type 0} (m : Meaning Op Reply Store) (life : Life Op) (r : Running O) (client n : ℕ) (p : Progress Reply) (line : FullLine) → IsServed m life r client n p → IsFullOf life client n p.caller.known.local line
    → IsWorkOf m life r client (ended p (Full line))
given_up_work m life r client n p line s full = record {
  caller = record { of = s.caller.of; by = s.lists.by; limit = s.lists.limit; few = omega (arith, few_own m life client n p.caller.known.local p.lines.entries.items p.lines.reads.items s.lists, full.within) };
  ends = is_given_up m life client n p.caller.known.local p.lines.entries.items p.lines.reads.items s.lists line full;
}

-- the line with which a client would give up whose cells another caller keeps
pub full_line : {O Op Reply Store : Type 0} (m : Meaning Op Reply Store) (life : Life Op) (r : Running O) (client n number : ℕ) (progress : Progress Reply) (note : FullNote) (op : Op) → IsKeptOut m life r client n progress note → number ≡ n + 1 → named_op life client number ≡ Some op
    → IsFullOf life client n progress.caller.known.local (record { client = client; command = number; note = note })
full_line m life r client n number progress note op kept next named =
    let l = progress.caller.known.local in
    record {
      client_is = refl;
      command = next;
      within = omega (arith, named_within life client number op named);
      other = λ same. kept.names.other (same ∙ sym kept.served.lists.by);
      need = kept.names.need;
      seen = kept.names.seen;
      cells = record { each = kept.names.cells.each; here = kept.names.cells.here };
      own = kept.served.caller.cells.own;
      apart = kept.served.caller.cells.apart;
    }

-- a client before its first command
pub first_served : {O Op Reply Store : Type 0} (m : Meaning Op Reply Store) (life : Life Op) (r : Running O) (progress : Progress Reply) → IsNewIn life r progress.caller → progress.lines.entries.items ≡ [] → progress.lines.reads.items ≡ [] → IsServed m life r progress.caller.known.local.number 0 progress
first_served m life r progress new entries reads = record {
  caller = new.caller;
  lists = serves_none m life progress.caller.known.local progress.lines.entries.items progress.lines.reads.items new.own new.answered new.reads new.limit entries reads;
}
