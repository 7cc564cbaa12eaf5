-- The lines of all clients by ticket are the journal of the history.
use Rattle.std.proofs.Common.{◌≡◌, ◌+◌, ◌-◌, ◌<◌, ◌≤◌, ℕ, true, List, length, map, filter, slice_get, Option, None, Some, sym, ap, subst, ◌∙◌, refl, arith}
use Rattle.std.specs.Option.{option_map}
use Rattle.std.proofs.lemmas.Bool.{eq-eqb}
use Rattle.std.proofs.lemmas.List.Elements.{All-contains, filter_passes}
use Rattle.std.specs.Prelude.{All}
use Rattle.std.proofs.lemmas.List.Sorted.{IsPermutation-sym, length_permutation, All-permutation}
use Rattle.std.proofs.lemmas.Option.{same_Some, slice_get-map}
use Rattle.cx_core.specs.declared.entry.Entry.{Entry}
use Rattle.cx_core.specs.declared.local.Linked.{Linked}
use Rattle.cx_core.specs.declared.local.Local.{Local}
use Rattle.cx_core.specs.Merge.{IsHistory}
use Rattle.cx_core.proofs.ListLemmas.{item_below}
use Rattle.cx_core.proofs.MergeLemmas.{has_own, own_at, own_count}
use Rattle.life_records.specs.Records.{Encoding, FullLine, JournalLine, Life, LifeRecord, ReadLine, StopLine}
use Rattle.life_records.specs.Scripts.{limit_in}
use Rattle.life_records.specs.Journal.{IsByTicket, IsRecordOf}
use Rattle.life_records.specs.Told.{IsTold, IsToldFull, IsToldStop}
use Rattle.life_records.specs.Works.{AreWorks, IsEnd, IsLineOf, IsFullOf, IsStopOf, IsWork, by_entry, by_read, full_of, stop_of}
use Rattle.life_records.proofs.Lists.{Has, Rises, all_each, climbs_from, each_get, filter_has, get_has, has_contains, has_filter, has_get, has_map, has_moved, length_map, ranged, rises_filter, rises_from, same_items, zip_back, zip_has, zip_rises}
use Rattle.life_records.proofs.Owns.{own_rises}
use Rattle.life_records.proofs.Firsts.{first_is}
use Rattle.life_records.specs.Lives.{is_stopped}

-- a linked entry `x` with the given ticket and the given entry is the record of these two
linked_is : (x : Linked) (ticket : ℕ) (entry : Entry) → x.ticket ≡ ticket → x.entry ≡ entry → x ≡ record { ticket = ticket; entry = entry }
linked_is x ticket entry t e = ap (λ (k : ℕ). record { ticket = k; entry = x.entry }) t ∙ ap (λ (y : Entry). record { ticket = ticket; entry = y }) e

-- a client with a stop line was stopped, and one with a full line gave up
pub stop_end : {Op : Type 0} → (life : Life Op) (client done : ℕ) (l : Local) (line : StopLine) (full : Option FullLine) → IsEnd life client done l (Some line) full → IsStopOf life client done l line
stop_end life client done l line None end = end
stop_end life client done l line (Some other) end = absurd end

pub full_end : {Op : Type 0} → (life : Life Op) (client done : ℕ) (l : Local) (stop : Option StopLine) (line : FullLine) → IsEnd life client done l stop (Some line) → IsFullOf life client done l line
full_end life client done l None line end = end
full_end life client done l (Some other) line end = absurd end

module _ {Op Reply : Type 0} (encoding : Encoding Op Reply) (life : Life Op) (place : ℕ) (history : List Entry) (locals : List Local) (entries journal : List (JournalLine Reply)) (reads : List (ReadLine Reply)) (stops : List StopLine) (fulls : List FullLine)
    (m : AreWorks encoding life locals entries reads stops fulls) (merged : IsHistory place history locals) (sorted : IsByTicket entries journal) where
  abbrev ticket_of : JournalLine Reply → ℕ
  ticket_of line = line.ticket

  -- a caller's lines rise by ticket
  own_lines_rise : (i : ℕ) (l : Local) → slice_get locals i ≡ Some l → Rises ticket_of (filter (by_entry i) entries)
  own_lines_rise i l at =
      zip_rises (IsLineOf encoding life i l.answered (stop_of i stops)) (λ (x : Linked). x.ticket) ticket_of (λ x line is. is.ticket) l.own (filter (by_entry i) entries) (m.each i l at).entry_lines
      (subst (Rises (λ (x : Linked). x.ticket)) (sym (merged.own i l at)) (own_rises i place history))

  -- each ticket of the history has a line
  has_line : (n : ℕ) (entry : Entry) → slice_get history n ≡ Some entry → (line : JournalLine Reply) × Has entries line × (line.ticket ≡ place + n)
  has_line n entry at =
      let c = entry.caller in
      let l = item_below locals c (merged.of_callers n entry at) in
      let own = has_own c place history n entry at refl in
      let x : Linked = record { ticket = place + n; entry = entry } in
      let there : Has l.0.own x = has_get l.0.own own.0 x (ap (λ xs. slice_get xs own.0) (merged.own c l.0 l.1) ∙ own.1) in
      let found = zip_has (IsLineOf encoding life c l.0.answered (stop_of c stops)) l.0.own (filter (by_entry c) entries) x (m.each c l.0 l.1).entry_lines there in
      (found.0, filter_has (by_entry c) entries found.0 found.1, found.2.ticket)

  long_journal : length journal ≡ length history
  long_journal = length_permutation entries journal sorted.moved ∙ m.long ∙ own_count place history locals merged

  -- by ticket, the lines have the tickets from the place on
  tickets_are : (i : ℕ) (line : JournalLine Reply) → slice_get journal i ≡ Some line → line.ticket ≡ place + i
  tickets_are i line at =
      let long : length (map ticket_of journal) ≡ length history = length_map ticket_of journal ∙ long_journal in
      let all : (t : ℕ) → place ≤ t → t < place + length (map ticket_of journal) → Has (map ticket_of journal) t = λ t from below. (
      let within : t - place < length history = omega arith in
      let a = item_below history (t - place) within in
      let found = has_line (t - place) a.0 a.1 in
      let same : found.0.ticket ≡ t = found.2 ∙ omega arith in
      has_map ticket_of journal found.0 t (has_moved entries journal found.0 sorted.moved found.1) same) in
      ranged place (map ticket_of journal) (climbs_from ticket_of journal sorted.up) all i line.ticket (slice_get-map ticket_of journal i ∙ ap (option_map ticket_of) at)

  -- by ticket, each caller has the same lines in the same order
  same_lines : (i : ℕ) (l : Local) → slice_get locals i ≡ Some l → filter (by_entry i) journal ≡ filter (by_entry i) entries
  same_lines i l at =
      let p = by_entry i in
      let passes : (xs : List (JournalLine Reply)) (z : JournalLine Reply) → Has (filter p xs) z → p z ≡ true = λ xs z h. All-contains (λ (x : JournalLine Reply). p x ≡ true) (filter p xs) z (filter_passes p xs) (has_contains (filter p xs) z h) in
      same_items ticket_of (filter p journal) (filter p entries)
      (rises_filter ticket_of p journal (rises_from ticket_of place journal tickets_are))
      (own_lines_rise i l at)
      (λ z h. has_filter p entries z (has_moved journal entries z (IsPermutation-sym entries journal sorted.moved) (filter_has p journal z h)) (passes journal z h))
      (λ z h. has_filter p journal z (has_moved entries journal z sorted.moved (filter_has p entries z h)) (passes entries z h))

  -- by ticket, the lines are still the clients'
  pub still_works : AreWorks encoding life locals journal reads stops fulls
  still_works = record {
    each = λ i l at. subst (λ ls. IsWork encoding life i l ls (filter (by_read i) reads) (stop_of i stops) (full_of i fulls)) (sym (same_lines i l at)) (m.each i l at);
    of_entries = All-permutation (λ (x : JournalLine Reply). x.client < length locals) entries journal sorted.moved m.of_entries;
    of_reads = m.of_reads;
    of_stops = m.of_stops;
    of_fulls = m.of_fulls;
    long = length_permutation entries journal sorted.moved ∙ m.long;
    reads_in_order = m.reads_in_order;
    stops_in_order = m.stops_in_order;
    fulls_in_order = m.fulls_in_order;
  }

  -- one line for each entry, at its ticket
  line_at : (i : ℕ) (line : JournalLine Reply) (entry : Entry) (l : Local) → slice_get journal i ≡ Some line → slice_get history i ≡ Some entry → slice_get locals entry.caller ≡ Some l →
      IsLineOf encoding life entry.caller l.answered (stop_of entry.caller stops) (record { ticket = place + i; entry = entry }) line
  line_at i line entry l at there of =
      let c = line.client in
      let has = has_get journal i line at in
      let h = item_below locals c (All-contains (λ (x : JournalLine Reply). x.client < length locals) journal line still_works.of_entries (has_contains journal line has)) in
      let mine : Has (filter (by_entry c) journal) line = has_filter (by_entry c) journal line has (eq-eqb c c refl) in
      let x = zip_back (IsLineOf encoding life c h.0.answered (stop_of c stops)) h.0.own (filter (by_entry c) journal) line (still_works.each c h.0 h.1).entry_lines mine in
      let own = get_has h.0.own x.0 x.1 in
      let place_of = own_at c place history own.0 x.0 (ap (λ xs. slice_get xs own.0) (sym (merged.own c h.0 h.1)) ∙ own.1) in
      let ticket : line.ticket ≡ place + i = tickets_are i line at in
      let from : x.0.ticket ≡ place + i = sym x.2.ticket ∙ ticket in
      let index : x.0.ticket - place ≡ i = omega arith in
      let same : x.0.entry ≡ entry = same_Some x.0.entry entry (sym place_of.1 ∙ ap (slice_get history) index ∙ there) in
      let by : entry.caller ≡ c = ap (λ (e : Entry). e.caller) (sym same) ∙ x.2.by in
      let local : h.0 ≡ l = same_Some h.0 l (sym h.1 ∙ ap (slice_get locals) (sym by) ∙ of) in
      let whole = linked_is x.0 (place + i) entry from same in
      subst (λ (w : Linked). IsLineOf encoding life entry.caller l.answered (stop_of entry.caller stops) w line) whole
      (subst (λ (k : ℕ). IsLineOf encoding life k l.answered (stop_of k stops) x.0 line) (sym by) (subst (λ (w : Local). IsLineOf encoding life c w.answered (stop_of c stops) x.0 line) local x.2))

  -- a stopped client made all the steps that it may, and its command asks for one more
  stopped_at : (line : StopLine) (k : ℕ) → slice_get stops k ≡ Some line → IsToldStop locals line
  stopped_at line k at =
      let has = has_get stops k line at in
      let l = item_below locals line.client (All-contains (λ (x : StopLine). x.client < length locals) stops line m.of_stops (has_contains stops line has)) in
      let w = m.each line.client l.0 l.1 in
      let stop : IsStopOf life line.client w.done l.0 line =
      stop_end life line.client w.done l.0 line (full_of line.client fulls) (subst (λ (o : Option StopLine). IsEnd life line.client w.done l.0 o (full_of line.client fulls)) (first_is (λ (x : StopLine). x.client) stops line m.stops_in_order has) w.ends) in
      record { local = l.0; of_client = l.1; steps = stop.reached; under_way = stop.under_way }

  -- of a client that gave up the last scan and the cells are as its line says
  gave_up_at : All (λ (line : FullLine). is_stopped line.note.holder stops ≡ true) fulls → (line : FullLine) (k : ℕ) → slice_get fulls k ≡ Some line → IsToldFull locals stops line
  gave_up_at stopped line k at =
      let has = has_get fulls k line at in
      let l = item_below locals line.client (All-contains (λ (x : FullLine). x.client < length locals) fulls line m.of_fulls (has_contains fulls line has)) in
      let w = m.each line.client l.0 l.1 in
      let full : IsFullOf life line.client w.done l.0 line =
      full_end life line.client w.done l.0 (stop_of line.client stops) line (subst (λ (o : Option FullLine). IsEnd life line.client w.done l.0 (stop_of line.client stops) o) (first_is (λ (x : FullLine). x.client) fulls line m.fulls_in_order has) w.ends) in
      record {
        local = l.0;
        of_client = l.1;
        need = full.seen;
        cells = full.cells;
        stopped = All-contains (λ (x : FullLine). is_stopped x.note.holder stops ≡ true) fulls line stopped (has_contains fulls line has);
      }

  -- a record of the journal's lines is told by the history
  pub report_is_told : All (λ (line : FullLine). is_stopped line.note.holder stops ≡ true) fulls → (report : LifeRecord Reply) → IsRecordOf place locals journal reads stops fulls report → length locals ≡ life.clients →
      ((client : ℕ) (l : Local) → slice_get locals client ≡ Some l → l.limit ≡ limit_in client life.cuts) → IsTold encoding life place history locals report
  report_is_told stopped report is callers limits = record {
    clients = is.clients;
    callers = callers;
    limits = limits;
    from = is.from;
    of_callers = merged.of_callers;
    long = ap length is.journal_is ∙ long_journal;
    tickets = rw is.journal_is tickets_are;
    entries = rw (is.journal_is, is.stops_are) line_at;
    reads = λ client l at. rw (is.reads_are, is.stops_are) ((m.each client l at).read_lines);
    stops = rw is.stops_are (all_each (IsToldStop locals) stops (each_get (IsToldStop locals) stops (λ k line at. stopped_at line k at)));
    fulls = rw (is.fulls_are, is.stops_are) (all_each (IsToldFull locals stops) fulls (each_get (IsToldFull locals stops) fulls (λ k line at. gave_up_at stopped line k at)));
  }
