-- What clients came to whose lines are those of their callers' lists.
use Rattle.std.proofs.Common.{◌≡◌, ◌+◌, ◌-◌, ◌^◌, ◌<◌, ◌≤◌, ℕ, suc, true, false, List, [], length, map, filter, slice_get, Option, None, Some, sym, ap, subst, ◌∙◌, refl, inl, inr, ◌⊎◌, arith, add-one}
use Rattle.std.specs.Prelude.{All, IsSome}
use Rattle.std.specs.List.{AllZip}
use Rattle.std.specs.List.Sorted.{IsStrictlyIncreasing}
use Rattle.std.proofs.lemmas.Bool.{eq-eqb, ne_eqb}
use Rattle.std.proofs.lemmas.List.Elements.{All-contains}
use Rattle.std.proofs.lemmas.Option.{slice_get_cases}
use Rattle.cx_core.specs.declared.entry.Entry.{Entry}
use Rattle.cx_core.specs.declared.local.Local.{Local}
use Rattle.cx_core.proofs.ListLemmas.{item_below}
use Rattle.life_records.specs.Records.{Encoding, FullLine, JournalLine, Life, LifeRecord, ReadLine, StopLine}
use Rattle.life_records.specs.Lives.{HasEnded, Interleaves, IsEndedEntry, IsLegalFull, IsLegalStop, Names, has_full, has_stop}
use Rattle.life_records.specs.Scripts.{limit_in, named_op, own_ops}
use Rattle.life_records.specs.Ended.{IsEnded}
use Rattle.life_records.specs.Told.{IsTold, IsToldFull}
use Rattle.life_records.specs.Works.{AreWorks, IsDoneEntry, IsEnd, IsFullOf, IsLineOf, IsStopOf, IsWork, by_entry, by_read, full_of, stop_of}
use Rattle.life_records.proofs.Counting.{answers_counted}
use Rattle.life_records.proofs.Lists.{Has, all_each, each_get, filter_no, has_contains, has_filter, has_get, strictly_from, zip_back}
use Rattle.life_records.proofs.Cells.{enough, least}
use Rattle.life_records.proofs.Firsts.{first_found, first_is, has-here}
use Rattle.life_records.proofs.Journals.{full_end, stop_end}

-- a client that gave up was not stopped
full_alone : {Op : Type 0} → (life : Life Op) (client done : ℕ) (l : Local) (stop : Option StopLine) (line : FullLine) → IsEnd life client done l stop (Some line) → (stop ≡ None) × IsFullOf life client done l line
full_alone life client done l None line end = (refl, end)
full_alone life client done l (Some other) line end = absurd end

module _ {Op Reply : Type 0} (encoding : Encoding Op Reply) (life : Life Op) (locals : List Local) (journal : List (JournalLine Reply)) (reads : List (ReadLine Reply)) (stops : List StopLine) (fulls : List FullLine)
    (m : AreWorks encoding life locals journal reads stops fulls) (callers : length locals ≡ life.clients) where
  -- a line stands among its client's
  entry_local : (line : JournalLine Reply) → Has journal line → (l : Local) × (slice_get locals line.client ≡ Some l) × Has (filter (by_entry line.client) journal) line
  entry_local line has =
      let l = item_below locals line.client (All-contains (λ (x : JournalLine Reply). x.client < length locals) journal line m.of_entries (has_contains journal line has)) in
      (l.0, l.1, has_filter (by_entry line.client) journal line has (eq-eqb line.client line.client refl))

  -- the journal interleaves the clients' commands
  named_line : (k : ℕ) (line : JournalLine Reply) → slice_get journal k ≡ Some line → Names life line.client line.command
  named_line k line at =
      let has = has_get journal k line at in
      let c = line.client in
      let below : c < length locals = All-contains (λ (x : JournalLine Reply). x.client < length locals) journal line m.of_entries (has_contains journal line has) in
      let h = entry_local line has in
      let x = zip_back (IsLineOf encoding life c h.0.answered (stop_of c stops)) h.0.own (filter (by_entry c) journal) line (m.each c h.0 h.1).entry_lines h.2 in
      record { takes_part = omega arith; there = subst (λ (o : Option Op). IsSome o) (sym x.2.op.named) refl }

  numbers_rise : (client : ℕ) → IsStrictlyIncreasing (map (λ (x : JournalLine Reply). x.command) (filter (by_entry client) journal))
  numbers_rise client =
      elim (slice_get_cases locals client).1 [
        | inl a ↦ strictly_from (λ (x : JournalLine Reply). x.command) (filter (by_entry client) journal) (m.each client a.0 a.2).entries_in_turn
        | inr b ↦ (
            let past : length locals ≤ client = b.0 in
            let none : filter (by_entry client) journal ≡ [] = filter_no (by_entry client) journal (each_get (λ (x : JournalLine Reply). by_entry client x ≡ false) journal (λ k line at.
            let below : line.client < length locals = All-contains (λ (x : JournalLine Reply). x.client < length locals) journal line m.of_entries (has_contains journal line (has_get journal k line at)) in
            ne_eqb line.client client (λ e. omega arith))) in
            subst (λ (ls : List (JournalLine Reply)). IsStrictlyIncreasing (map (λ (x : JournalLine Reply). x.command) ls)) (sym none) (λ k within. absurd (omega arith)))
      ]

  pub interleaves : Interleaves life journal
  interleaves = record {
    named = all_each (λ (x : JournalLine Reply). Names life x.client x.command) journal (each_get (λ (x : JournalLine Reply). Names life x.client x.command) journal named_line);
    in_order = numbers_rise;
  }

  -- the end of the client of a stop line
  stop_at : (line : StopLine) → Has stops line → (l : Local) × (slice_get locals line.client ≡ Some l) × (done : ℕ) × IsStopOf life line.client done l line
  stop_at line has =
      let l = item_below locals line.client (All-contains (λ (x : StopLine). x.client < length locals) stops line m.of_stops (has_contains stops line has)) in
      let w = m.each line.client l.0 l.1 in
      let is = first_is (λ (x : StopLine). x.client) stops line m.stops_in_order has in
      (l.0, l.1, w.done, stop_end life line.client w.done l.0 line (full_of line.client fulls) (subst (λ (o : Option StopLine). IsEnd life line.client w.done l.0 o (full_of line.client fulls)) is w.ends))

  -- a client is stopped at its limit, in a command that it has
  pub legal_stop : ((client : ℕ) (l : Local) → slice_get locals client ≡ Some l → l.limit ≡ limit_in client life.cuts) →
      (k : ℕ) (line : StopLine) → slice_get stops k ≡ Some line → IsLegalStop life line
  legal_stop limits k line at =
      let has = has_get stops k line at in
      let below : line.client < length locals = All-contains (λ (x : StopLine). x.client < length locals) stops line m.of_stops (has_contains stops line has) in
      let e = stop_at line has in
      let op = item_below (own_ops line.client life.commands) e.2 (e.3.within) in
      let next : line.command ≡ suc e.2 = e.3.command ∙ add-one e.2 in
      let there : named_op life line.client line.command ≡ Some op.0 = ap (named_op life line.client) next ∙ op.1 in
      record {
        named = record { takes_part = omega arith; there = subst (λ (o : Option Op). IsSome o) (sym there) refl };
        steps = e.3.steps ∙ limits line.client e.0 e.1;
        limit = subst (λ (n : ℕ). n < 2 ^ 64 - 1) (sym e.3.steps) e.3.limit;
      }

  -- a client that gave up did so in a command that it has, and another one, which was stopped, keeps its 16 answered entries
  pub legal_full : (report : LifeRecord Reply) → report.journal ≡ journal → All (IsToldFull locals report.stops) report.fulls → (k : ℕ) (line : FullLine) → slice_get fulls k ≡ Some line → report.fulls ≡ fulls → IsLegalFull life report line
  legal_full report js are k line at fs =
      let has = has_get fulls k line at in
      let below : line.client < length locals = All-contains (λ (x : FullLine). x.client < length locals) fulls line m.of_fulls (has_contains fulls line has) in
      let l = item_below locals line.client below in
      let w = m.each line.client l.0 l.1 in
      let none = full_alone life line.client w.done l.0 (stop_of line.client stops) line (subst (λ (o : Option FullLine). IsEnd life line.client w.done l.0 (stop_of line.client stops) o) (first_is (λ (x : FullLine). x.client) fulls line m.fulls_in_order has) w.ends) in
      let full : IsFullOf life line.client w.done l.0 line = none.1 in
      let lines = subst (λ (o : Option StopLine). AllZip (IsLineOf encoding life line.client l.0.answered o) l.0.own (filter (by_entry line.client) journal)) none.0 w.entry_lines in
      let replied : (e : JournalLine Reply) → Has (filter (by_entry line.client) journal) e → IsSome e.reply = λ e h.
      all_replied w.done e (subst (λ (o : Option StopLine). IsDoneEntry w.done o e) none.0 (All-contains (IsDoneEntry w.done (stop_of line.client stops)) (filter (by_entry line.client) journal) e w.entries_done (has_contains (filter (by_entry line.client) journal) e h))) in
      let op = item_below (own_ops line.client life.commands) w.done full.within in
      let next : line.command ≡ suc w.done = full.command ∙ add-one w.done in
      let there : named_op life line.client line.command ≡ Some op.0 = ap (named_op life line.client) next ∙ op.1 in
      let one = least encoding life line.client w.done l.0 l.0.answered journal line full lines replied in
      record {
        named = record { takes_part = omega arith; there = subst (λ (o : Option Op). IsSome o) (sym there) refl };
        other = full.other;
        stopped = (All-contains (IsToldFull locals report.stops) report.fulls line are (rw fs (has_contains fulls line has))).stopped;
        need = full.need;
        cells = rw js (enough encoding life line.client w.done l.0 l.0.answered journal line full lines replied);
        least = one.0;
        there = rw js one.1;
        own = one.2;
        at = one.3;
        answered = one.4;
      }
    where
      all_replied : (done : ℕ) (e : JournalLine Reply) → IsDoneEntry done None e → IsSome e.reply
      all_replied done e (inl answered) = answered.2
      all_replied done e (inr last) = cc

  module _ (client : ℕ) (l : Local) (at : slice_get locals client ≡ Some l) where
    abbrev mine : IsWork encoding life client l (filter (by_entry client) journal) (filter (by_read client) reads) (stop_of client stops) (full_of client fulls)
    mine = m.each client l at

    abbrev done : ℕ
    done = mine.done

    -- where a client has a stop line, it was stopped in the command behind those that it was answered
    stopped_in : (stop : Option StopLine) → stop_of client stops ≡ stop → IsSome stop → has_stop client (done + 1) stops ≡ true
    stopped_in None is some = cc
    stopped_in (Some line) is some =
        let end = stop_end life client done l line (full_of client fulls) (subst (λ (o : Option StopLine). IsEnd life client done l o (full_of client fulls)) is mine.ends) in
        let found = first_found (λ (x : StopLine). x.client) client stops line is in
        has-here (λ (x : StopLine). x.client) (λ (x : StopLine). x.command) client (done + 1) stops line found.0 found.1 end.command

    -- where a client has a full line, it gave up in the command behind those that it was answered
    full_in : (full : Option FullLine) → full_of client fulls ≡ full → IsSome full → has_full client (done + 1) fulls ≡ true
    full_in None is some = cc
    full_in (Some line) is some =
        let end = full_end life client done l (stop_of client stops) line (subst (λ (o : Option FullLine). IsEnd life client done l (stop_of client stops) o) is mine.ends) in
        let found = first_found (λ (x : FullLine). x.client) client fulls line is in
        has-here (λ (x : FullLine). x.client) (λ (x : FullLine). x.command) client (done + 1) fulls line found.0 found.1 end.command

    entry_done : (k : ℕ) (line : JournalLine Reply) → slice_get journal k ≡ Some line → line.client ≡ client → IsDoneEntry done (stop_of client stops) line
    entry_done k line there by =
        All-contains (IsDoneEntry done (stop_of client stops)) (filter (by_entry client) journal) line mine.entries_done
        (has_contains (filter (by_entry client) journal) line (has_filter (by_entry client) journal line (has_get journal k line there) (eq-eqb line.client client by)))

    ended_entry : (line : JournalLine Reply) → IsDoneEntry done (stop_of client stops) line → IsEndedEntry client done stops line
    ended_entry line (inl answered) = inl answered
    ended_entry line (inr last) = inr (last.0, last.1, stopped_in (stop_of client stops) refl last.2)

    read_done : (k : ℕ) (line : ReadLine Reply) → slice_get reads k ≡ Some line → line.client ≡ client → (1 ≤ line.command) × (line.command ≤ done)
    read_done k line there by =
        All-contains (λ (x : ReadLine Reply). (1 ≤ x.command) × (x.command ≤ done)) (filter (by_read client) reads) line mine.reads_done
        (has_contains (filter (by_read client) reads) line (has_filter (by_read client) reads line (has_get reads k line there) (eq-eqb line.client client by)))

    stop_next : (k : ℕ) (line : StopLine) → slice_get stops k ≡ Some line → line.client ≡ client → line.command ≡ done + 1
    stop_next k line there by =
        let is : stop_of client stops ≡ Some line = ap (λ c. stop_of c stops) (sym by) ∙ first_is (λ (x : StopLine). x.client) stops line m.stops_in_order (has_get stops k line there) in
        (stop_end life client done l line (full_of client fulls) (subst (λ (o : Option StopLine). IsEnd life client done l o (full_of client fulls)) is mine.ends)).command

    full_next : (k : ℕ) (line : FullLine) → slice_get fulls k ≡ Some line → line.client ≡ client → line.command ≡ done + 1
    full_next k line there by =
        let is : full_of client fulls ≡ Some line = ap (λ c. full_of c fulls) (sym by) ∙ first_is (λ (x : FullLine). x.client) fulls line m.fulls_in_order (has_get fulls k line there) in
        (full_end life client done l (stop_of client stops) line (subst (λ (o : Option FullLine). IsEnd life client done l (stop_of client stops) o) is mine.ends)).command

    replied : (line : JournalLine Reply) (command : ℕ) → command ≤ done → line.command ≡ command → IsDoneEntry done (stop_of client stops) line → IsSome line.reply
    replied line command low is (inl answered) = answered.2
    replied line command low is (inr last) = let next : line.command ≡ done + 1 = last.0 in absurd (omega arith)

    over_of : (stop : Option StopLine) (full : Option FullLine) → stop_of client stops ≡ stop → full_of client fulls ≡ full →
        (done ≡ length (own_ops client life.commands)) ⊎ ((has_stop client (done + 1) stops ≡ true) ⊎ (has_full client (done + 1) fulls ≡ true))
    over_of None None is none = inl (subst (λ (o : Option StopLine). IsEnd life client done l o None) is (subst (λ (o : Option FullLine). IsEnd life client done l (stop_of client stops) o) none mine.ends))
    over_of None (Some line) is gave_up = inr (inr (full_in (Some line) gave_up refl))
    over_of (Some line) full is any = inr (inl (stopped_in (Some line) is refl))

    -- the client ended: it was answered, or stopped, or gave up
    pub has_ended : (report : LifeRecord Reply) → report.journal ≡ journal → report.reads ≡ reads → report.stops ≡ stops → report.fulls ≡ fulls → HasEnded life report client
    has_ended report js rs ss fs = record {
      answered = done;
      within = mine.within;
      once = λ command one up. rw (js, rs)
          (answers_counted client command journal reads (each_get (λ (x : JournalLine Reply). x.client ≡ client → x.command ≡ command → IsSome x.reply) journal
          (λ k line there by is. replied line command up is (entry_done k line there by)))
          ∙ mine.once command one up);
      entries = rw (js, ss) (all_each (λ (x : JournalLine Reply). x.client ≡ client → IsEndedEntry client done stops x) journal
          (each_get (λ (x : JournalLine Reply). x.client ≡ client → IsEndedEntry client done stops x) journal (λ k line there by. ended_entry line (entry_done k line there by))));
      reads = rw rs (all_each (λ (x : ReadLine Reply). x.client ≡ client → (1 ≤ x.command) × (x.command ≤ done)) reads
          (each_get (λ (x : ReadLine Reply). x.client ≡ client → (1 ≤ x.command) × (x.command ≤ done)) reads read_done));
      stops = rw ss (all_each (λ (x : StopLine). x.client ≡ client → x.command ≡ done + 1) stops
          (each_get (λ (x : StopLine). x.client ≡ client → x.command ≡ done + 1) stops stop_next));
      fulls = rw fs (all_each (λ (x : FullLine). x.client ≡ client → x.command ≡ done + 1) fulls
          (each_get (λ (x : FullLine). x.client ≡ client → x.command ≡ done + 1) fulls full_next));
      over = rw (ss, fs) (over_of (stop_of client stops) (full_of client fulls) refl refl);
    }

-- clients whose lines are told by a history have ended
pub life_ended : {Op Reply : Type 0} → (encoding : Encoding Op Reply) → (life : Life Op) (place : ℕ) (history : List Entry) (locals : List Local) (report : LifeRecord Reply) → AreWorks encoding life locals report.journal report.reads report.stops report.fulls → IsTold encoding life place history locals report → IsEnded life report
life_ended encoding life place history locals report m is = record {
  tickets = λ i line at. is.tickets i line at ∙ ap (λ p. p + i) (sym is.from);
  interleaved = interleaves encoding life locals report.journal report.reads report.stops report.fulls m is.callers;
  reads_in_order = m.reads_in_order;
  stops_in_order = m.stops_in_order;
  fulls_in_order = m.fulls_in_order;
  ended = λ client below.
      let l = item_below locals client (let same = is.callers in omega arith) in
      has_ended encoding life locals report.journal report.reads report.stops report.fulls m is.callers client l.0 l.1 report refl refl refl refl;
  stops = all_each (IsLegalStop life) report.stops (each_get (IsLegalStop life) report.stops (legal_stop encoding life locals report.journal report.reads report.stops report.fulls m is.callers is.limits));
  fulls = all_each (IsLegalFull life report) report.fulls (each_get (IsLegalFull life report) report.fulls (λ k line at. legal_full encoding life locals report.journal report.reads report.stops report.fulls m is.callers report refl is.fulls k line at refl));
}
