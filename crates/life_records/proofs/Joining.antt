-- The lines of clients, one client after another.
use Rattle.std.proofs.Common.{◌≡◌, ◌≢◌, ◌+◌, ◌<◌, ℕ, List, [], ◌∷◌, ◌++◌, length, get_or, filter, Option, None, Some, sym, subst, ◌∙◌, refl, inl, inr, arith, length-append}
use Rattle.std.specs.Prelude.{All, AllPairs}
use Rattle.std.specs.Option.{option_to_list}
use Rattle.std.proofs.lemmas.List.Elements.{All-append, All-weaker}
use Rattle.std.proofs.lemmas.Option.{none-some, slice_get_within}
use Rattle.std.proofs.lemmas.Slice.Zip.{AllZip-long}
use Rattle.cx_core.specs.declared.local.Local.{Local}
use Rattle.cx_core.specs.Merge.{all_own}
use Rattle.cx_core.proofs.Locals.{slice_get-push}
use Rattle.life_records.specs.Records.{Encoding, FullLine, JournalLine, Life, ReadLine, StopLine}
use Rattle.life_records.specs.Lives.{IsReadBefore}
use Rattle.life_records.specs.Works.{AreWorks, IsEnd, IsLineOf, IsReadLine, IsWork, by_entry, by_read, first_of, full_of, stop_of}
use Rattle.life_records.proofs.Lists.{Each, all_each, each_all, each_get, each_has, filter_mine, filter_other, has_get, pairs_append, zip_all}
use Rattle.life_records.proofs.Firsts.{first_later, first_of-option, first_other}

-- no client yet
pub works_none : {Op Reply : Type 0} → (encoding : Encoding Op Reply) → (life : Life Op) → AreWorks encoding life [] [] [] [] []
works_none encoding life = record {
  each = λ i l at. absurd (none-some l at);
  of_entries = λ k d within. absurd (omega arith);
  of_reads = λ k d within. absurd (omega arith);
  of_stops = λ k d within. absurd (omega arith);
  of_fulls = λ k d within. absurd (omega arith);
  long = refl;
  reads_in_order = λ i j d up within. absurd (omega arith);
  stops_in_order = λ i j d up within. absurd (omega arith);
  fulls_in_order = λ i j d up within. absurd (omega arith);
}

own_append : (ls : List Local) (l : Local) → length (all_own (ls ++ l ∷ [])) ≡ length (all_own ls) + length l.own
own_append [] l = length-append l.own [] ∙ omega arith
own_append (k ∷ ls) l =
    let rest = own_append ls l in
    omega (arith, length-append k.own (all_own (ls ++ l ∷ [])), length-append k.own (all_own ls))

-- a stop line is its client's, and so is a full line
stop_by : {Op : Type 0} → (life : Life Op) (n done : ℕ) (l : Local) (stop : Option StopLine) (full : Option FullLine) → IsEnd life n done l stop full → Each (λ (s : StopLine). s.client ≡ n) (option_to_list stop)
stop_by life n done l None full end = tt
stop_by life n done l (Some line) None end = (end.client_is, tt)
stop_by life n done l (Some line) (Some other) end = absurd end

full_by : {Op : Type 0} → (life : Life Op) (n done : ℕ) (l : Local) (stop : Option StopLine) (full : Option FullLine) → IsEnd life n done l stop full → Each (λ (s : FullLine). s.client ≡ n) (option_to_list full)
full_by life n done l stop None end = tt
full_by life n done l None (Some line) end = (end.client_is, tt)
full_by life n done l (Some other) (Some line) end = absurd end

-- an Option has one item at the most, so all pairs of its items are in order
one_item : {X : Type 0} (R : X → X → Type 0) (o : Option X) → AllPairs R (option_to_list o)
one_item R None i j d up within = absurd (omega arith)
one_item R (Some line) i j d up within = absurd (omega arith)

module _ {Op Reply : Type 0} (encoding : Encoding Op Reply) (life : Life Op) (locals : List Local) (l : Local) (entries es : List (JournalLine Reply)) (reads rs : List (ReadLine Reply)) (stops : List StopLine) (stop : Option StopLine) (fulls : List FullLine) (full : Option FullLine)
    (m : AreWorks encoding life locals entries reads stops fulls) (w : IsWork encoding life (length locals) l es rs stop full) where
  abbrev n : ℕ
  n = length locals

  es_by : Each (λ (x : JournalLine Reply). x.client ≡ n) es
  es_by = zip_all (IsLineOf encoding life n l.answered stop) (λ (x : JournalLine Reply). x.client ≡ n) (λ a b r. r.client_is) l.own es w.entry_lines

  rs_by : Each (λ (x : ReadLine Reply). x.client ≡ n) rs
  rs_by = zip_all (IsReadLine encoding life n) (λ (x : ReadLine Reply). x.client ≡ n) (λ a b r. r.client_is) w.read_lines.reported rs w.read_lines.lines_are

  ss_by : Each (λ (x : StopLine). x.client ≡ n) (option_to_list stop)
  ss_by = stop_by life n w.done l stop full w.ends

  fs_by : Each (λ (x : FullLine). x.client ≡ n) (option_to_list full)
  fs_by = full_by life n w.done l stop full w.ends

  longer : length (locals ++ l ∷ []) ≡ n + 1
  longer = length-append locals (l ∷ []) ∙ omega arith

  -- what holds of clients before the next, and of the next, holds of all
  below : {X : Type 0} (client : X → ℕ) (xs mine : List X) → All (λ x. client x < n) xs → Each (λ x. client x ≡ n) mine → All (λ x. client x < n + 1) (xs ++ mine)
  below client xs mine before own =
      All-append (λ x. client x < n + 1) xs mine
      (All-weaker (λ x. client x < n) (λ x. client x < n + 1) (λ x b. omega arith) xs before)
      (All-weaker (λ x. client x ≡ n) (λ x. client x < n + 1) (λ x b. omega arith) mine (all_each (λ x. client x ≡ n) mine own))

  -- of an earlier client the line stays, and the next one has its own
  line_before : {X : Type 0} (of : X → ℕ) (xs : List X) (o : Option X) → Each (λ x. of x ≡ n) (option_to_list o) → (i : ℕ) → i < n → first_of of i (xs ++ option_to_list o) ≡ first_of of i xs
  line_before of xs o by i less =
      first_other of i xs (option_to_list o) (each_get (λ x. of x ≢ i) (option_to_list o) (λ k z at e.
      let own : of z ≡ n = each_has (λ x. of x ≡ n) (option_to_list o) z by (has_get (option_to_list o) k z at) in
      omega arith))

  line_mine : {X : Type 0} (of : X → ℕ) (xs : List X) (o : Option X) → All (λ x. of x < n) xs → Each (λ x. of x ≡ n) (option_to_list o) → first_of of n (xs ++ option_to_list o) ≡ o
  line_mine of xs o below by =
      first_later of n xs (option_to_list o) (each_get (λ x. of x ≢ n) xs (λ k z at e.
      let less : of z < n = each_has (λ x. of x < n) xs z (each_all (λ x. of x < n) xs below) (has_get xs k z at) in
      omega arith))
      ∙ first_of-option of n o by

  stop_before : (i : ℕ) → i < n → stop_of i (stops ++ option_to_list stop) ≡ stop_of i stops
  stop_before = line_before (λ (s : StopLine). s.client) stops stop ss_by

  stop_mine : stop_of n (stops ++ option_to_list stop) ≡ stop
  stop_mine = line_mine (λ (s : StopLine). s.client) stops stop m.of_stops ss_by

  full_before : (i : ℕ) → i < n → full_of i (fulls ++ option_to_list full) ≡ full_of i fulls
  full_before = line_before (λ (s : FullLine). s.client) fulls full fs_by

  full_mine : full_of n (fulls ++ option_to_list full) ≡ full
  full_mine = line_mine (λ (s : FullLine). s.client) fulls full m.of_fulls fs_by

  -- lines that stand by client still do with the next client's line behind them
  in_order : {X : Type 0} (of : X → ℕ) (xs : List X) (o : Option X) → AllPairs (λ a b. of a < of b) xs → All (λ x. of x < n) xs → Each (λ x. of x ≡ n) (option_to_list o) → AllPairs (λ a b. of a < of b) (xs ++ option_to_list o)
  in_order of xs o order below by =
      pairs_append (λ a b. of a < of b) xs (option_to_list o) order (one_item (λ a b. of a < of b) o)
      (λ x y a b.
      let low : of x < n = each_has (λ z. of z < n) xs x (each_all (λ z. of z < n) xs below) a in
      let same : of y ≡ n = each_has (λ z. of z ≡ n) (option_to_list o) y by b in
      omega arith)

  -- one client more
  pub works_more : AreWorks encoding life (locals ++ l ∷ []) (entries ++ es) (reads ++ rs) (stops ++ option_to_list stop) (fulls ++ option_to_list full)
  works_more = record {
    each = λ i g at.
        elim (slice_get-push locals l i g at) [
          | inl old ↦ (
              let less : i < n = slice_get_within locals i g old in
              rw (filter_other (λ (x : JournalLine Reply). x.client) n i entries es m.of_entries es_by less, filter_other (λ (x : ReadLine Reply). x.client) n i reads rs m.of_reads rs_by less, stop_before i less, full_before i less) (m.each i g old))
          | inr new ↦
              subst (λ (k : ℕ). IsWork encoding life k g (filter (by_entry k) (entries ++ es)) (filter (by_read k) (reads ++ rs)) (stop_of k (stops ++ option_to_list stop)) (full_of k (fulls ++ option_to_list full))) (sym new.0)
              (rw (filter_mine (λ (x : JournalLine Reply). x.client) n entries es m.of_entries es_by, filter_mine (λ (x : ReadLine Reply). x.client) n reads rs m.of_reads rs_by, stop_mine, full_mine)
              (subst (λ (x : Local). IsWork encoding life n x es rs stop full) new.1 w))
        ];
    of_entries = rw longer (below (λ (x : JournalLine Reply). x.client) entries es m.of_entries es_by);
    of_reads = rw longer (below (λ (x : ReadLine Reply). x.client) reads rs m.of_reads rs_by);
    of_stops = rw longer (below (λ (x : StopLine). x.client) stops (option_to_list stop) m.of_stops ss_by);
    of_fulls = rw longer (below (λ (x : FullLine). x.client) fulls (option_to_list full) m.of_fulls fs_by);
    long = omega (arith, length-append entries es, m.long, own_append locals l, AllZip-long (IsLineOf encoding life n l.answered stop) l.own es w.entry_lines);
    reads_in_order = pairs_append IsReadBefore reads rs m.reads_in_order
        (λ i j d up within. inr (
          (let a : (get_or rs i d).client ≡ n = all_each (λ (x : ReadLine Reply). x.client ≡ n) rs rs_by i d (omega arith) in
              let b : (get_or rs j d).client ≡ n = all_each (λ (x : ReadLine Reply). x.client ≡ n) rs rs_by j d within in
              a ∙ sym b),
          w.reads_in_turn i j d up within,
        ))
        (λ x y a b. inl (
        let low : x.client < n = each_has (λ (x : ReadLine Reply). x.client < n) reads x (each_all (λ (x : ReadLine Reply). x.client < n) reads m.of_reads) a in
        let same : y.client ≡ n = each_has (λ (x : ReadLine Reply). x.client ≡ n) rs y rs_by b in
        omega arith));
    stops_in_order = in_order (λ (x : StopLine). x.client) stops stop m.stops_in_order m.of_stops ss_by;
    fulls_in_order = in_order (λ (x : FullLine). x.client) fulls full m.fulls_in_order m.of_fulls fs_by;
  }
