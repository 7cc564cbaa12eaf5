-- One command more of a client, and a client's end.
use Rattle.std.proofs.Common.{◌≡◌, ◌≢◌, ℕ, zero, suc, ◌+◌, ◌<◌, ◌≤◌, ◌==◌, false, List, [], ◌∷◌, ◌++◌, length, Option, None, Some, sym, ap, subst, ◌∙◌, refl, inl, inr, ◌⊎◌, arith, length-append}
use Rattle.std.specs.Prelude.{All, AllPairs, Contains, IsSome}
use Rattle.std.specs.List.{AllZip}
use Rattle.std.proofs.lemmas.Bool.{cases_eq, eq-eqb, ne_eqb}
use Rattle.std.proofs.lemmas.List.{append-nil}
use Rattle.std.proofs.lemmas.List.Elements.{All-push, All-weaker, All-nil, All-cons, Contains-push, Contains-append_left}
use Rattle.std.proofs.lemmas.List.Quantifiers.{all_pairs_push}
use Rattle.std.proofs.lemmas.Slice.Zip.{all_zipped_more, AllZip-long}
use Rattle.std.proofs.lemmas.Option.{slice_get_within}
use Rattle.cx_core.proofs.Locals.{slice_get-push}
use Rattle.cx_core.specs.declared.local.Answer.{Answer}
use Rattle.cx_core.specs.declared.local.Linked.{Linked}
use Rattle.cx_core.specs.declared.local.Local.{Local}
use Rattle.cx_core.specs.declared.local.SeenRead.{SeenRead}
use Rattle.table_invariant.specs.Seats.{IsAtLimit}
use Rattle.cx_attempts.specs.declared.lookup.Seen.{Seen}
use Rattle.cx_attempts.specs.Answering.{with_answer}
use Rattle.life_records.specs.Works.{HasCommandWords, IsDoneEntry, IsEnd, IsEntryBefore, IsFullOf, IsLineOf, IsLineReply, IsReadLine, IsReplyAt, IsSeenBefore, IsStopOf, IsStoppedRead, IsUnderWay, IsWork, StandsBetween, client_lines, stops_in}
use Rattle.life_records.specs.Scripts.{limit_in, named_op, own_ops}
use Rattle.life_records.specs.Records.{FullLine, JournalLine, Life, Meaning, ReadLine, StopLine}
use Rattle.cx_lives.specs.Calls.{LinksEntryAt, one_read}
use Rattle.cx_lives.specs.Serving.{HasServed, IsAnsweredEntry, IsAnsweredLine}
use Rattle.cx_lives.proofs.Lists.{all_at, count_no, count_none, count_yes, zip_also, zip_with}

-- a reply stays where it is while more is answered
reply_stays : {Op Reply Store : Type 0} → (m : Meaning Op Reply Store) → (answered more : List Answer) (ticket : ℕ) (reply : Option Reply) → IsSome reply → IsReplyAt m.encoding answered ticket reply → IsReplyAt m.encoding (answered ++ more) ticket reply
reply_stays m answered more ticket None has there = cc
reply_stays m answered more ticket (Some reply) has there = Contains-append_left answered more (record { ticket = ticket; reply = m.encoding.reply_words reply }) there

-- nothing was asked yet
module _ {Op Reply Store : Type 0} where
  pub serves_none : (m : Meaning Op Reply Store) → (life : Life Op) (l : Local) (es : List (JournalLine Reply)) (rs : List (ReadLine Reply)) → l.own ≡ [] → l.answered ≡ [] → l.seen_reads ≡ [] → l.limit ≡ limit_in l.number life.cuts → es ≡ [] → rs ≡ [] → HasServed m life l.number 0 l es rs
  serves_none m life l es rs own answered reads limit no_es no_rs = record {
    by = refl;
    limit = limit;
    entry_lines = rw (own, no_es) tt;
    read_lines = rw (reads, no_rs) tt;
    between = rw (reads, no_rs) tt;
    before = rw reads (All-nil (λ (x : SeenRead). x.before ≤ length es));
    entries_in_turn = rw no_es (λ i j d up within. absurd (omega arith));
    reads_in_turn = rw no_rs (λ i j d up within. absurd (omega arith));
    once = λ k one up. absurd (omega arith);
    entries_done = rw no_es (All-nil (IsAnsweredEntry 0));
    reads_done = rw no_rs (All-nil (λ (line : ReadLine Reply). (1 ≤ line.command) × (line.command ≤ 0)));
    count = rw (no_es, no_rs) (omega arith);
  }

module _ {Op Reply Store : Type 0} (m : Meaning Op Reply Store) (life : Life Op) (client n : ℕ) (l : Local) (es : List (JournalLine Reply)) (rs : List (ReadLine Reply)) (s : HasServed m life client n l es rs) where
  -- no line is of a later command
  none_later : (k : ℕ) → n < k → client_lines k es rs ≡ 0
  none_later k later =
      let a = count_none (λ (e : JournalLine Reply). e.command == k) es (All-weaker (IsAnsweredEntry n) (λ (e : JournalLine Reply). (e.command == k) ≡ false) (λ e h. ne_eqb e.command k (λ same. omega (arith, h.1))) es s.entries_done) in
      let b = count_none (λ (e : ReadLine Reply). e.command == k) rs (All-weaker (λ (e : ReadLine Reply). (1 ≤ e.command) × (e.command ≤ n)) (λ (e : ReadLine Reply). (e.command == k) ≡ false) (λ e h. ne_eqb e.command k (λ same. omega (arith, h.1))) rs s.reads_done) in
      omega (arith, a, b)

  -- as many entries as lines
  long : length es ≡ length l.own
  long = AllZip-long (IsAnsweredLine m life client l.answered) l.own es s.entry_lines

  -- where each entry is answered, the caller's answers and reads are as many as the commands that the client was answered
  answers_count : length l.own ≡ length l.answered → length l.answered + length l.seen_reads ≡ n
  answers_count even = omega (arith, even, long, AllZip-long (IsReadLine m.encoding life client) l.seen_reads rs s.read_lines, s.count)

  module _ (number : ℕ) (next : number ≡ n + 1) where
    -- one entry's line more
    module _ (line : JournalLine Reply) (is : line.command ≡ number) where
      once_entry : (k : ℕ) → 1 ≤ k → k ≤ number → client_lines k (es ++ line ∷ []) rs ≡ 1
      once_entry k one up =
          elim (cases_eq line.command k) [
            | inl same ↦ omega (arith, count_yes (λ (e : JournalLine Reply). e.command == k) es line (eq-eqb line.command k same), none_later k (omega arith))
            | inr ne ↦ omega (arith, count_no (λ (e : JournalLine Reply). e.command == k) es line (ne_eqb line.command k ne), s.once k one (omega arith))
          ]

      once_still : (k : ℕ) → 1 ≤ k → k ≤ n → client_lines k (es ++ line ∷ []) rs ≡ 1
      once_still k one up = omega (arith, count_no (λ (e : JournalLine Reply). e.command == k) es line (ne_eqb line.command k (λ same. omega arith)), s.once k one up)

      between_entry : (x : SeenRead) (r : ReadLine Reply) → StandsBetween es x r → x.before ≤ length es → (1 ≤ r.command) × (r.command ≤ n) → StandsBetween (es ++ line ∷ []) x r
      between_entry x r b most done = (
        λ i e at less. elim (slice_get-push es line i e at) [
          | inl there ↦ b.0 i e there less
          | inr new ↦ absurd (omega (arith, new.0))
        ],
        λ i e at more. elim (slice_get-push es line i e at) [
          | inl there ↦ b.1 i e there more
          | inr new ↦ (let c : line.command ≡ e.command = ap (λ (w : JournalLine Reply). w.command) new.1 in omega (arith, done.1))
        ],
      )

      between_all : AllZip (StandsBetween (es ++ line ∷ [])) l.seen_reads rs
      between_all =
          zip_also (StandsBetween es) (StandsBetween (es ++ line ∷ [])) (λ (x : SeenRead). x.before ≤ length es) (λ (r : ReadLine Reply). (1 ≤ r.command) × (r.command ≤ n)) between_entry l.seen_reads rs s.between s.before s.reads_done

      in_turn : AllPairs IsEntryBefore (es ++ line ∷ [])
      in_turn = all_pairs_push IsEntryBefore es line s.entries_in_turn (λ k d within. omega (arith, (s.entries_done k d within).1))

    reads_later : All (λ (r : ReadLine Reply). (1 ≤ r.command) × (r.command ≤ number)) rs
    reads_later = All-weaker (λ (r : ReadLine Reply). (1 ≤ r.command) × (r.command ≤ n)) (λ (r : ReadLine Reply). (1 ≤ r.command) × (r.command ≤ number)) (λ r h. (h.0, omega (arith, h.1))) rs s.reads_done

    entries_later : All (IsAnsweredEntry number) es
    entries_later = All-weaker (IsAnsweredEntry n) (IsAnsweredEntry number) (λ e h. (h.0, omega (arith, h.1), h.2)) es s.entries_done

    module _ (op : Op) (ws : List ℕ) (are : ws ≡ m.encoding.op_words op) (named : named_op life client number ≡ Some op) where
      has_words : (words : List ℕ) → words ≡ ws → HasCommandWords m.encoding life client number words
      has_words words same = record { op = op; named = named; words_are = sym (same ∙ are) }

      -- an entry that was answered
      pub serves_entry : (l' : Local) (es' : List (JournalLine Reply)) (rs' : List (ReadLine Reply)) (answer : Answer) (reply : Reply) → LinksEntryAt ws answer.ticket l l' → l'.answered ≡ with_answer answer.ticket answer.reply l.answered
          → m.encoding.reply_words reply ≡ answer.reply → es' ≡ es ++ record { ticket = answer.ticket; client = client; command = number; reply = Some reply } ∷ [] → rs' ≡ rs → HasServed m life client number l' es' rs'
      serves_entry l' es' rs' answer reply links answered words entries reads =
          let line : JournalLine Reply = record { ticket = answer.ticket; client = client; command = number; reply = Some reply } in
          let added : Answer = record { ticket = answer.ticket; reply = answer.reply } in
          let all : List Answer = l.answered ++ added ∷ [] in
          let is_added : record { ticket = answer.ticket; reply = m.encoding.reply_words reply } ≡ added = ap (λ (r : List ℕ). (let a : Answer = record { ticket = answer.ticket; reply = r } in a)) words in
          let has : IsReplyAt m.encoding all answer.ticket (Some reply) = subst (Contains all) (sym is_added) (Contains-push l.answered added) in
          let new : IsAnsweredLine m life client all links.entry line = (
            record { ticket = sym links.at; by = links.by ∙ s.by; client_is = refl; op = has_words links.entry.entry.op links.op_is; reply = has },
            refl,
          ) in
          let still : (x : Linked) (e : JournalLine Reply) → IsAnsweredLine m life client l.answered x e → IsAnsweredEntry n e → IsAnsweredLine m life client all x e =
          λ x e h done. (record { ticket = h.0.ticket; by = h.0.by; client_is = h.0.client_is; op = h.0.op; reply = reply_stays m l.answered (added ∷ []) e.ticket e.reply h.1 h.0.reply }, h.1) in
          let zip : AllZip (IsAnsweredLine m life client all) (l.own ++ links.entry ∷ []) (es ++ line ∷ []) =
          all_zipped_more (IsAnsweredLine m life client all) l.own es links.entry line (zip_with (IsAnsweredLine m life client l.answered) (IsAnsweredLine m life client all) (IsAnsweredEntry n) still l.own es s.entry_lines s.entries_done) new in
          record {
            by = links.number ∙ s.by;
            limit = links.limit ∙ s.limit;
            entry_lines = rw (answered, links.own, entries) zip;
            read_lines = rw (links.reads, reads) s.read_lines;
            between = rw (links.reads, entries, reads) (between_all line refl);
            before = rw (links.reads, entries) (All-weaker (λ (x : SeenRead). x.before ≤ length es) (λ (x : SeenRead). x.before ≤ length (es ++ line ∷ [])) (λ x h. omega (arith, h, length-append es (line ∷ []))) l.seen_reads s.before);
            entries_in_turn = rw entries (in_turn line refl);
            reads_in_turn = rw reads s.reads_in_turn;
            once = rw (entries, reads) (once_entry line refl);
            entries_done = rw entries (All-push (IsAnsweredEntry number) es line entries_later (omega arith, omega arith, refl));
            reads_done = rw reads reads_later;
            count = rw (entries, reads) (omega (arith, s.count, length-append es (line ∷ [])));
          }

      -- a read that was answered beside the queue, where each entry is answered
      module _ (even : length l.own ≡ length l.answered) (seen : Seen) (reply : Reply) (words : m.encoding.reply_words reply ≡ seen.reply) where
        abbrev pub read_line : ReadLine Reply
        read_line = record { client = client; command = number; place = seen.place; reply = reply }

        abbrev pub seen_read : SeenRead
        seen_read = record { place = seen.place; op = ws; reply = seen.reply; before = length l.answered }

        once_read : (k : ℕ) → 1 ≤ k → k ≤ number → client_lines k es (rs ++ read_line ∷ []) ≡ 1
        once_read k one up =
            elim (cases_eq number k) [
              | inl same ↦ omega (arith, count_yes (λ (e : ReadLine Reply). e.command == k) rs read_line (eq-eqb number k same), none_later k (omega arith))
              | inr ne ↦ omega (arith, count_no (λ (e : ReadLine Reply). e.command == k) rs read_line (ne_eqb number k ne), s.once k one (omega arith))
            ]

        between_read : StandsBetween es seen_read read_line
        between_read = (
          λ i e at less. (let done = all_at (IsAnsweredEntry n) es i e s.entries_done at in omega (arith, done.1)),
          λ i e at more. (let within = slice_get_within es i e at in absurd (omega (arith, long, even))),
        )

        pub serves_read : (l' : Local) (es' : List (JournalLine Reply)) (rs' : List (ReadLine Reply)) → l'.number ≡ l.number → l'.limit ≡ l.limit → l'.own ≡ l.own → l'.answered ≡ l.answered → l'.seen_reads ≡ one_read ws seen l → es' ≡ es → rs' ≡ rs ++ read_line ∷ []
            → HasServed m life client number l' es' rs'
        serves_read l' es' rs' same_number limit own answered reads entries lines =
            let new : IsReadLine m.encoding life client seen_read read_line = record { place = refl; client_is = refl; op = has_words ws refl; reply = words } in
            record {
              by = same_number ∙ s.by;
              limit = limit ∙ s.limit;
              entry_lines = rw (answered, own, entries) s.entry_lines;
              read_lines = rw (reads, lines) (all_zipped_more (IsReadLine m.encoding life client) l.seen_reads rs seen_read read_line s.read_lines new);
              between = rw (reads, entries, lines) (all_zipped_more (StandsBetween es) l.seen_reads rs seen_read read_line s.between between_read);
              before = rw (reads, entries) (All-push (λ (x : SeenRead). x.before ≤ length es) l.seen_reads seen_read s.before (omega (arith, long, even)));
              entries_in_turn = rw entries s.entries_in_turn;
              reads_in_turn = rw lines (all_pairs_push IsSeenBefore rs read_line s.reads_in_turn (λ k d within. omega (arith, (s.reads_done k d within).1)));
              once = rw (entries, lines) once_read;
              entries_done = rw entries entries_later;
              reads_done = rw lines (All-push (λ (r : ReadLine Reply). (1 ≤ r.command) × (r.command ≤ number)) rs read_line reads_later (omega arith, omega arith));
              count = rw (entries, lines) (omega (arith, s.count, length-append rs (read_line ∷ [])));
            }

      -- a client that is stopped in its next command
      module _ (within : number ≤ length (own_ops client life.commands)) (even : length l.own ≡ length l.answered) (l' : Local) (limit : l'.limit ≡ l.limit) (at_limit : IsAtLimit l') where
        abbrev pub stop : StopLine
        stop = record { client = client; command = number; steps = l'.limit; kept = false }

        is_stop : IsUnderWay l' number → IsStopOf life client n l' stop
        is_stop under_way = record {
          client_is = refl;
          command = next;
          within = omega arith;
          steps = refl;
          reached = at_limit.0;
          limit = at_limit.1;
          under_way = under_way;
          kept = refl;
        }

        -- nothing more was answered
        not_answered : l'.answered ≡ l.answered → l'.seen_reads ≡ l.seen_reads → IsUnderWay l' number
        not_answered answered reads = inl (omega (arith, answers_count even, ap length answered, ap length reads))

        not_in : (command : ℕ) → command ≤ n → stops_in (Some stop) command ≡ false
        not_in command up = ne_eqb number command (λ same. omega arith)

        line_stays : (more : List Answer) (x : Linked) (e : JournalLine Reply) → IsAnsweredLine m life client l.answered x e → IsAnsweredEntry n e → IsLineOf m.encoding life client (l.answered ++ more) (Some stop) x e
        line_stays more x e h done = record {
          ticket = h.0.ticket;
          by = h.0.by;
          client_is = h.0.client_is;
          op = h.0.op;
          reply = subst (λ b. IsLineReply m.encoding b (l.answered ++ more) e.ticket e.reply) (sym (not_in e.command done.1)) (reply_stays m l.answered more e.ticket e.reply h.1 h.0.reply);
        }

        lines_stay : (more : List Answer) → AllZip (IsLineOf m.encoding life client (l.answered ++ more) (Some stop)) l.own es
        lines_stay more = zip_with (IsAnsweredLine m life client l.answered) (IsLineOf m.encoding life client (l.answered ++ more) (Some stop)) (IsAnsweredEntry n) (line_stays more) l.own es s.entry_lines s.entries_done

        done_entries : All (IsDoneEntry n (Some stop)) es
        done_entries = All-weaker (IsAnsweredEntry n) (IsDoneEntry n (Some stop)) (λ e h. inl h) es s.entries_done

        -- a client that is stopped before an entry of its command was linked
        pub stops_beside : (es' : List (JournalLine Reply)) (rs' : List (ReadLine Reply)) → l'.number ≡ l.number → l'.own ≡ l.own → l'.answered ≡ l.answered
            → (l'.seen_reads ≡ l.seen_reads) ⊎ ((seen : Seen) × (l'.seen_reads ≡ one_read ws seen l) × (l'.shared ≢ None)) → es' ≡ es → rs' ≡ rs → IsWork m.encoding life client l' es' rs' (Some stop) None
        stops_beside es' rs' same_number own answered reads entries lines =
            let left : (xs : List SeenRead) × (l'.seen_reads ≡ l.seen_reads ++ xs) × (length xs ≤ 1) × All (IsStoppedRead m.encoding life client (Some stop)) xs =
            elim reads [
              | inl none ↦ ([], none ∙ sym (append-nil l.seen_reads), omega arith, All-nil (IsStoppedRead m.encoding life client (Some stop)))
              | inr one ↦ (
                record { place = one.0.place; op = ws; reply = one.0.reply; before = length l.answered } ∷ [],
                one.1,
                omega arith,
                All-cons (IsStoppedRead m.encoding life client (Some stop)) (record { place = one.0.place; op = ws; reply = one.0.reply; before = length l.answered }) [] (record { line = stop; is = refl; op = has_words ws refl }) (All-nil (IsStoppedRead m.encoding life client (Some stop))),
              )
            ] in
            record {
              by = same_number ∙ s.by;
              entry_lines = rw (answered ∙ sym (append-nil l.answered), own, entries) (lines_stay []);
              read_lines = record { reported = l.seen_reads; left = left.0; are = left.1; lines_are = rw lines s.read_lines; few = left.2; stopped = left.3 };
              between = rw (entries, lines) s.between;
              entries_in_turn = rw entries s.entries_in_turn;
              reads_in_turn = rw lines s.reads_in_turn;
              done = n;
              within = omega arith;
              once = rw (entries, lines) s.once;
              entries_done = rw entries done_entries;
              reads_done = rw lines s.reads_done;
              ends = is_stop (elim reads [
                | inl none ↦ not_answered answered none
                | inr one ↦ inr (inr one.2)
              ]);
            }

        -- a client that is stopped after an entry of its command was linked
        pub stops_linked : (ticket : ℕ) (more : List Answer) (es' : List (JournalLine Reply)) (rs' : List (ReadLine Reply)) → LinksEntryAt ws ticket l l' → l'.answered ≡ l.answered ++ more → (more ≡ []) ⊎ (l'.won ≢ None)
            → es' ≡ es ++ record { ticket = ticket; client = client; command = number; reply = None } ∷ [] → rs' ≡ rs → IsWork m.encoding life client l' es' rs' (Some stop) None
        stops_linked ticket more es' rs' links answered won entries lines =
            let line : JournalLine Reply = record { ticket = ticket; client = client; command = number; reply = None } in
            let new : IsLineOf m.encoding life client (l.answered ++ more) (Some stop) links.entry line = record {
              ticket = sym links.at;
              by = links.by ∙ s.by;
              client_is = refl;
              op = has_words links.entry.entry.op links.op_is;
              reply = subst (λ b. IsLineReply m.encoding b (l.answered ++ more) ticket None) (sym (eq-eqb number number refl)) refl;
            } in
            record {
              by = links.number ∙ s.by;
              entry_lines = rw (answered, links.own, entries) (all_zipped_more (IsLineOf m.encoding life client (l.answered ++ more) (Some stop)) l.own es links.entry line (lines_stay more) new);
              read_lines = record { reported = l.seen_reads; left = []; are = links.reads ∙ sym (append-nil l.seen_reads); lines_are = rw lines s.read_lines; few = omega arith; stopped = All-nil (IsStoppedRead m.encoding life client (Some stop)) };
              between = rw (entries, lines) (between_all line refl);
              entries_in_turn = rw entries (in_turn line refl);
              reads_in_turn = rw lines s.reads_in_turn;
              done = n;
              within = omega arith;
              once = rw (entries, lines) (once_still line refl);
              entries_done = rw entries (All-push (IsDoneEntry n (Some stop)) es line done_entries (inr (next, refl, refl)));
              reads_done = rw lines s.reads_done;
              ends = is_stop (elim won [
                | inl none ↦ not_answered (answered ∙ ap (λ (xs : List Answer). l.answered ++ xs) none ∙ append-nil l.answered) links.reads
                | inr won ↦ inr (inl won)
              ]);
            }

  -- a client all of whose entries are answered, as it ended
  ended_answered : (full : Option FullLine) → n ≤ length (own_ops client life.commands) → IsEnd life client n l None full → IsWork m.encoding life client l es rs None full
  ended_answered full within end = record {
    by = s.by;
    entry_lines = zip_with (IsAnsweredLine m life client l.answered) (IsLineOf m.encoding life client l.answered None) (IsAnsweredEntry n) (λ x e h done. h.0) l.own es s.entry_lines s.entries_done;
    read_lines = record { reported = l.seen_reads; left = []; are = sym (append-nil l.seen_reads); lines_are = s.read_lines; few = omega arith; stopped = All-nil (IsStoppedRead m.encoding life client None) };
    between = s.between;
    entries_in_turn = s.entries_in_turn;
    reads_in_turn = s.reads_in_turn;
    done = n;
    within = within;
    once = s.once;
    entries_done = All-weaker (IsAnsweredEntry n) (IsDoneEntry n None) (λ e h. inl h) es s.entries_done;
    reads_done = s.reads_done;
    ends = end;
  }

  -- a client that was answered all its commands
  pub is_whole : n ≡ length (own_ops client life.commands) → IsWork m.encoding life client l es rs None None
  is_whole all = ended_answered None (omega arith) all

  -- a client that gave up
  pub is_given_up : (line : FullLine) → IsFullOf life client n l line → IsWork m.encoding life client l es rs None (Some line)
  is_given_up line full = ended_answered (Some line) (let less = full.within in omega arith) full

  -- the same lines stand for the lists of a caller with the same lists
  pub serves_still : (l' : Local) → l'.number ≡ l.number → l'.limit ≡ l.limit → l'.own ≡ l.own → l'.answered ≡ l.answered → l'.seen_reads ≡ l.seen_reads → HasServed m life client n l' es rs
  serves_still l' number limit own answered reads = record {
    by = number ∙ s.by;
    limit = limit ∙ s.limit;
    entry_lines = rw (answered, own) s.entry_lines;
    read_lines = rw reads s.read_lines;
    between = rw reads s.between;
    before = rw reads s.before;
    entries_in_turn = s.entries_in_turn;
    reads_in_turn = s.reads_in_turn;
    once = s.once;
    entries_done = s.entries_done;
    reads_done = s.reads_done;
    count = s.count;
  }

  -- a caller has at most as many entries as its client was answered commands
  pub few_own : length l.own ≤ n
  few_own = omega (arith, long, s.count)

-- the client has the command that is named
pub named_within : {Op : Type 0} → (life : Life Op) (client number : ℕ) (op : Op) → named_op life client number ≡ Some op → number ≤ length (own_ops client life.commands)
named_within life client zero op named = cc
named_within life client (suc n) op named = (let within = slice_get_within (own_ops client life.commands) n op named in omega arith)
