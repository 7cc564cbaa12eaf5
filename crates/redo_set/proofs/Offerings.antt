-- Writing a set beside the cell of an own entry, word after word, and offering it.
use Rattle.std.proofs.Common.{◌≡◌, ◌≢◌, ◌+◌, ◌*◌, ◌++◌, ◌<◌, ◌≤◌, inl, inr, ℕ, List, [], length, get_or, set, slice_index, sym, ap, subst, ◌∙◌, arith, append-nil, Some, None}
use Rattle.std.proofs.Math.Logic.{∥∥₁_map}
use Rattle.std.proofs.lemmas.Bool.{cases_eq}
use Rattle.std.proofs.lemmas.List.{get_or-set_other, get_or-set_same, length-set, set-get_or, set-set}
use Rattle.std.proofs.lemmas.Option.{get_or_from_slice_get, same_Some}
use Rattle.cx_base.specs.Noted.{Note}
use Rattle.cx_core.specs.declared.entry.Base.{Base}
use Rattle.cx_core.specs.declared.entry.Entry.{Entry}
use Rattle.cx_core.specs.declared.kinds.Kind.TheVariants.{Offer, WriteSet}
use Rattle.cx_core.specs.declared.local.Cell.{Cell}
use Rattle.cx_core.specs.declared.local.Linked.{Linked}
use Rattle.cx_core.specs.QueueEvents.{cell_of}
use Rattle.cx_core.specs.SetEvents.{CanWriteSet, IsUnoffered, offer_of}
use Rattle.cx_core.specs.State.{Instance, one_more}
use Rattle.cx_core.specs.WriteSet.{stored}
use Rattle.cx_core.proofs.ListLemmas.{slice_get-set_other}
use Rattle.core_queue.proofs.SetKinds.{unoffered_parts}
use Rattle.table_invariant.specs.declared.rule.Known.{Known}
use Rattle.table_invariant.specs.declared.rule.Noted.{Noted}
use Rattle.table_invariant.specs.Fitting.{Chain, FitsOn, HasEntry, entries_of, has_of, start, with_entry, with_set as by_set}
use Rattle.table_invariant.specs.Offers.{TellsOffer, TellsSet}
use Rattle.table_invariant.specs.Seats.{HasCells, Seated, stepped}
use Rattle.redo_set.specs.Offering.{HasStill, OffersSet, WritesSet, seat_with_set}
use Rattle.redo_set.proofs.SetLaws.{stored_same}

abbrev pub no_cell : Cell
no_cell = record { words = []; ticket = None; set = []; offer = 0 }

-- ---- what a seat has

-- what leads on by fewer entries and sets does so by more
chain_still : {step : List ℕ → List ℕ → List ℕ × List ℕ} {e e' : ℕ → Entry → Type 0} {s s' : ℕ → List ℕ → Type 0} → ((t : ℕ) (x : Entry) → e t x → e' t x) → ((t : ℕ) (x : List ℕ) → s t x → s' t x) → (first : List ℕ) (place : ℕ) (now : List ℕ) →
    Chain step e s first place now → Chain step e' s' first place now
chain_still more_e more_s first place now (start _ _ at is) = start place now at is
chain_still more_e more_s first place now (with_entry _ _ t before x at is had rest) = with_entry place now t before x at is (more_e t x had) (chain_still more_e more_s first t before rest)
chain_still more_e more_s first place now (by_set _ _ t before x at is had rest) = by_set place now t before x at is (more_s t x had) (chain_still more_e more_s first t before rest)

module _ (lines : ℕ) (lawful : List ℕ → Type 0) (base : Base) (step : List ℕ → List ℕ → List ℕ × List ℕ) (k k' : Known) (still : HasStill k k') where
  -- what fits where a seat has more fits where it has less
  pub fits_still : (accesses : List Note) (first now : List ℕ) → FitsOn lines lawful base step (has_of k') accesses first now → FitsOn lines lawful base step (has_of k) accesses first now
  fits_still accesses first now f = record { fits = f.fits; stays = λ place mid chain. f.stays place mid (chain_still still.entry still.set first place mid chain) }

  -- Where what a seat knows tells a write set of a ticket, a seat with the same accesses that has at least as much tells the set too, and each list
  -- with the same pairs.
  pub tells_still : k'.accesses ≡ k.accesses → (ticket : ℕ) (pairs set : List ℕ) → ((i : ℕ) → i < 2 * slice_index pairs 0 + 1 → slice_index set i ≡ slice_index pairs i) → TellsSet lines lawful base step k ticket pairs →
      TellsSet lines lawful base step k' ticket set
  tells_still accesses ticket pairs set same tells =
      let count : slice_index set 0 ≡ slice_index pairs 0 = same 0 (omega arith) in
      record {
        few = subst (λ n. n ≤ 256) (sym count) tells.few;
        within = λ m below. (let less : m < slice_index pairs 0 = omega (arith, below, count) in subst (λ n. n < length base.words) (sym (same (2 * m + 1) (omega (arith, less)))) (tells.within m less));
        leads = λ first now fits.
            ∥∥₁_map (tells.leads first now (subst (λ (ns : List Note). FitsOn lines lawful base step (has_of k) ns first now) accesses (fits_still k'.accesses first now fits))) (λ x. record {
              before = x.before;
              from = chain_still still.entry still.set first ticket x.before x.from;
              to = chain_still still.entry still.set first (ticket + 1) now x.to;
              leads = ap (λ n. stored n set x.before) count ∙ stored_same (slice_index pairs 0) pairs set x.before (λ i some below. same i below) ∙ x.leads;
            });
      }

-- ---- the set of a cell

-- i words of the set were written
pub record HasWritten (j : ℕ) (pairs : List ℕ) (i : ℕ) (s t : Seated) : Type 0 where
  pub words : List ℕ
  pub long : length words ≡ 513
  pub same : (n : ℕ) → n < i → slice_index words n ≡ slice_index pairs n
  pub is : t ≡ seat_with_set j words (cell_of s.known.local j).offer t.known.local.steps s

module _ (s : Seated) (j : ℕ) (can : CanWriteSet s.known.local j) (cells : HasCells s.known.local) where
  abbrev old : Cell
  old = cell_of s.known.local j

  abbrev put : List ℕ → ℕ → Cell
  put words offer = record old { set = words; offer = offer }

  there : j < length s.known.local.cells
  there = (let small = can.0 in omega (arith, cells.count))

  -- the cell that was put
  pub put_cell : (words : List ℕ) (offer steps : ℕ) (t : Seated) → t ≡ seat_with_set j words offer steps s → cell_of t.known.local j ≡ put words offer
  put_cell words offer steps t is = ap (λ (x : Seated). cell_of x.known.local j) is ∙ get_or-set_same s.known.local.cells j (put words offer) no_cell there

  -- what the seat had it has, since the cell was not offered
  pub put_still : (words : List ℕ) (offer steps : ℕ) (t : Seated) → t ≡ seat_with_set j words offer steps s → HasStill s.known t.known
  put_still words offer steps t is = record {
    entry = λ ticket e had. subst (λ (x : Seated). HasEntry (entries_of x.known) ticket e) (sym is) had;
    set = λ ticket x had. subst (λ (y : Seated). (has_of y.known).set ticket x) (sym is) (elim had [
      | inl read ↦ inl read
      | inr mine ↦ inr (elim mine [
        | inl own ↦ inl (elim (cases_eq own.j j) [
          | inl e ↦ (
              let same : old ≡ own.cell = ap (λ i. get_or s.known.local.cells i no_cell) (sym e) ∙ get_or_from_slice_get s.known.local.cells own.j own.cell no_cell own.at in
              let un = unoffered_parts s.known.local.own old.ticket old.offer can.1 in
              let named : un.t ≡ ticket = same_Some un.t ticket (sym un.is ∙ ap (λ (c : Cell). c.ticket) same ∙ own.named) in
              absurd (un.ne (ap (λ (c : Cell). c.offer) same ∙ own.offered ∙ ap (λ n. n + 1) (sym named))))
          | inr ne ↦ record { j = own.j; cell = own.cell; at = slice_get-set_other s.known.local.cells j own.j (put words offer) ne ∙ own.at; named = own.named; offered = own.offered; is = own.is }
        ])
        | inr kept ↦ inr kept
      ])
    ]);
  }

  -- the set may still be written
  pub put_can : (words : List ℕ) (steps : ℕ) (t : Seated) → t ≡ seat_with_set j words old.offer steps s → CanWriteSet t.known.local j
  put_can words steps t is =
      let cell = put_cell words old.offer steps t is in
      let own : t.known.local.own ≡ s.known.local.own = ap (λ (x : Seated). x.known.local.own) is in
      (can.0, subst (λ (xs : List Linked). IsUnoffered xs (cell_of t.known.local j).ticket (cell_of t.known.local j).offer) (sym own) (subst (λ (c : Cell). IsUnoffered s.known.local.own c.ticket c.offer) (sym cell) can.1))

  -- a seat with these cells
  abbrev celled : List Cell → ℕ → List Noted → Seated
  celled cs steps noted = record s { known = record s.known { local = record s.known.local { cells = cs; steps = steps }; noted = noted } }

  none_put : s ≡ seat_with_set j old.set old.offer s.known.local.steps s
  none_put = ap (λ (cs : List Cell). celled cs s.known.local.steps s.known.noted) (sym (set-get_or s.known.local.cells j no_cell))

  pub written_none : (pairs : List ℕ) → length old.set ≡ 513 → HasWritten j pairs 0 s s
  written_none pairs long = record { words = old.set; long = long; same = λ n below. absurd (omega arith); is = none_put }

  -- where the words of a set are written below `i`, and word `i` is there already, they are written below `i + 1`
  pub written_kept : (pairs : List ℕ) (i v : ℕ) (t u : Seated) → v ≡ slice_index pairs i → HasWritten j pairs i s t → slice_index (cell_of t.known.local j).set i ≡ v → u ≡ t → HasWritten j pairs (i + 1) s u
  written_kept pairs i v t u value was here same_seat = record {
    words = was.words;
    long = was.long;
    same = λ n below. elim (cases_eq n i) [
      | inl e ↦ ap (slice_index was.words) e ∙ sym (ap (λ (c : Cell). slice_index c.set i) (put_cell was.words old.offer t.known.local.steps t was.is)) ∙ here ∙ value ∙ ap (slice_index pairs) (sym e)
      | inr ne ↦ was.same n (let apart : n ≢ i = ne in omega (arith, below, apart))
    ];
    is = same_seat ∙ was.is ∙ (λ k. seat_with_set j was.words old.offer (sym same_seat k).known.local.steps s);
  }

  -- where the words of a set are written below `i`, and then word `i` is written, they are written below `i + 1`
  pub written_more : (instance : Instance) (pairs : List ℕ) (i v : ℕ) (t u : Seated) → i < 513 → v ≡ slice_index pairs i → HasWritten j pairs i s t → u ≡ stepped instance (WriteSet j i v) t 0 → HasWritten j pairs (i + 1) s u
  written_more instance pairs i v t u below value was step =
      let new = set was.words i v in
      let cell = put_cell was.words old.offer t.known.local.steps t was.is in
      let cells_are : set t.known.local.cells j (record (cell_of t.known.local j) { set = set (cell_of t.known.local j).set i v }) ≡ set s.known.local.cells j (put new old.offer) =
      ap (λ (c : Cell). set t.known.local.cells j (record c { set = set c.set i v })) cell
      ∙ ap (λ (x : Seated). set x.known.local.cells j (put new old.offer)) was.is
      ∙ set-set s.known.local.cells j (put was.words old.offer) (put new old.offer) in
      let is : u ≡ seat_with_set j new old.offer (one_more t.known.local.steps) s =
      step
      ∙ ap (λ (cs : List Cell). record t { known = record t.known { local = record t.known.local { cells = cs; steps = one_more t.known.local.steps }; noted = t.known.noted ++ [] } }) cells_are
      ∙ ap (λ (x : Seated). record x { known = record x.known { local = record x.known.local { cells = set s.known.local.cells j (put new old.offer); steps = one_more t.known.local.steps }; noted = x.known.noted ++ [] } }) was.is
      ∙ ap (celled (set s.known.local.cells j (put new old.offer)) (one_more t.known.local.steps)) (append-nil s.known.noted) in
      record {
        words = new;
        long = length-set was.words i v ∙ was.long;
        same = λ n less. elim (cases_eq n i) [
          | inl e ↦ ap (slice_index new) e ∙ get_or-set_same was.words i v 0 (omega (arith, was.long)) ∙ value ∙ ap (slice_index pairs) (sym e)
          | inr ne ↦ get_or-set_other was.words i n v 0 ne ∙ was.same n (let apart : n ≢ i = ne in omega (arith, less, apart))
        ];
        is = is ∙ (λ k. seat_with_set j new old.offer (sym (ap (λ (x : Seated). x.known.local.steps) is) k) s);
      }

  -- the set was offered
  pub offered_now : (instance : Instance) (ticket : ℕ) (pairs : List ℕ) (t u : Seated) → old.ticket ≡ Some ticket → HasWritten j pairs (2 * slice_index pairs 0 + 1) s t → u ≡ stepped instance (Offer j) t 0 → OffersSet j ticket pairs s u
  offered_now instance ticket pairs t u named was step =
      let cell = put_cell was.words old.offer t.known.local.steps t was.is in
      let word : offer_of old.ticket old.offer ≡ ticket + 1 = ap (λ o. offer_of o old.offer) named in
      let cells_are : set t.known.local.cells j (record (cell_of t.known.local j) { offer = offer_of (cell_of t.known.local j).ticket (cell_of t.known.local j).offer }) ≡ set s.known.local.cells j (put was.words (ticket + 1)) =
      ap (λ (c : Cell). set t.known.local.cells j (record c { offer = offer_of c.ticket c.offer })) cell
      ∙ ap (λ n. set t.known.local.cells j (put was.words n)) word
      ∙ ap (λ (x : Seated). set x.known.local.cells j (put was.words (ticket + 1))) was.is
      ∙ set-set s.known.local.cells j (put was.words old.offer) (put was.words (ticket + 1)) in
      let is : u ≡ seat_with_set j was.words (ticket + 1) (one_more t.known.local.steps) s =
      step
      ∙ ap (λ (cs : List Cell). record t { known = record t.known { local = record t.known.local { cells = cs; steps = one_more t.known.local.steps }; noted = t.known.noted ++ [] } }) cells_are
      ∙ ap (λ (x : Seated). record x { known = record x.known { local = record x.known.local { cells = set s.known.local.cells j (put was.words (ticket + 1)); steps = one_more t.known.local.steps }; noted = x.known.noted ++ [] } }) was.is
      ∙ ap (celled (set s.known.local.cells j (put was.words (ticket + 1))) (one_more t.known.local.steps)) (append-nil s.known.noted) in
      record {
        set = was.words;
        same = was.same;
        seat = is ∙ (λ k. seat_with_set j was.words (ticket + 1) (sym (ap (λ (x : Seated). x.known.local.steps) is) k) s);
      }

  -- what was written may be offered
  pub tells_written : (lines : ℕ) (lawful : List ℕ → Type 0) (base : Base) (step : List ℕ → List ℕ → List ℕ × List ℕ) (ticket : ℕ) (pairs : List ℕ) (t : Seated) → old.ticket ≡ Some ticket → HasWritten j pairs (2 * slice_index pairs 0 + 1) s t →
      TellsSet lines lawful base step s.known ticket pairs → TellsOffer lines lawful base step t.known j
  tells_written lines lawful base step ticket pairs t named was tells other other_is =
      let cell = put_cell was.words old.offer t.known.local.steps t was.is in
      let same : ticket ≡ other = same_Some ticket other (sym named ∙ sym (ap (λ (c : Cell). c.ticket) cell) ∙ other_is) in
      let tells_words = tells_still lines lawful base step s.known t.known (put_still was.words old.offer t.known.local.steps t was.is) (ap (λ (x : Seated). x.known.accesses) was.is) ticket pairs was.words was.same tells in
      subst (λ n. TellsSet lines lawful base step t.known n (cell_of t.known.local j).set) same (subst (TellsSet lines lawful base step t.known ticket) (sym (ap (λ (c : Cell). c.set) cell)) tells_words)

  -- a step that the limit did not allow changes nothing more
  pub writes_of : (pairs : List ℕ) (i : ℕ) (t u : Seated) → HasWritten j pairs i s t → u ≡ t → WritesSet j s u
  writes_of pairs i t u was same = record { set = was.words; seat = same ∙ was.is ∙ (λ k. seat_with_set j was.words old.offer (sym same k).known.local.steps s) }

  pub writes_still : (u : Seated) → WritesSet j s u → HasStill s.known u.known
  writes_still u w = put_still w.set old.offer u.known.local.steps u w.seat

  pub offers_still : (ticket : ℕ) (pairs : List ℕ) (u : Seated) → OffersSet j ticket pairs s u → HasStill s.known u.known
  offers_still ticket pairs u offered = put_still offered.set (ticket + 1) u.known.local.steps u offered.seat
