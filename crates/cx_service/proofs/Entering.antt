-- A caller announces an operation in an idle cell, and tries to link it.
use Rattle.std.proofs.Common.{◌≡◌, ◌≢◌, ◌+◌, ◌<◌, ◌≤◌, ℕ, zero, suc, min, false, List, [], ◌∷◌, ◌++◌, length, get_or, slice_index, slice_range, take_all, refl, sym, ap, subst, ◌∙◌, inl, inr, arith, Some, None, length-append}
use Rattle.std.specs.List.{slice_get}
use Rattle.std.specs.Option.{option_map}
use Rattle.std.proofs.Math.ListN.{get_or-eq_default}
use Rattle.std.proofs.lemmas.Bool.{cases_eq, cases_lt}
use Rattle.std.proofs.lemmas.List.{get_or-set_other, get_or-set_same}
use Rattle.std.proofs.lemmas.Option.{none-some, slice_get_past}
use Rattle.cx_base.specs.Codes.{root_place_of}
use Rattle.cx_core.specs.declared.local.Cell.{Cell}
use Rattle.cx_core.specs.declared.local.Linked.{Linked}
use Rattle.cx_core.specs.Layout.{max_word}
use Rattle.cx_core.specs.QueueEvents.{IsIdle, IsIdleAt, cell_of, entry_in, next_number}
use Rattle.cx_core.specs.Region.{slot_number}
use Rattle.cx_core.proofs.Locals.{slice_get-last}
use Rattle.table_invariant.specs.Running.{IsSeatOf, Running}
use Rattle.table_invariant.specs.Seats.{IsAtLimit, Seated, images_of, unanswered_ticket}
use Rattle.mutation_queue.specs.declared.links.LinkTried.{LinkTried}
use Rattle.mutation_queue.specs.declared.links.LinkTried.TheVariants.{Again, Linked as LinkedAt, Worn}
use Rattle.mutation_queue.specs.Cells.{writes}
use Rattle.cx_attempts.specs.Attempts.{StepsOn}
use Rattle.mutation_queue.specs.Links.{EndsBy, LinksAgain, LinksAt, LinksNone, LosesTries, LosesTry, MakesTries, IsWorn, Tried, WinsTry}
use Rattle.cx_service.specs.Callers.{HasOwnCells, IsBetweenCalls, IsCallerOf, IsLinkedOf, unlinked}
use Rattle.cx_service.specs.Submits.{EntersIn, LooksForNothing, SubmitAgain, SubmitHalted, SubmitKeeps, SubmitLinked, SubmitWorn, TriesOf, next_entry}
use Rattle.cx_service.proofs.Cells.{default, own_kept, own_more}

-- what no step of a submit changes: the seat but for its entries, cells, steps and scans, its front, the slot last looked at, what was
-- found of FREE and of the callers' needs, and what was loaded from CUR
abbrev pub unchanged_by_submit : Seated → Seated
unchanged_by_submit s = record s { known = record s.known { local = record s.known.local { own = []; cells = []; front = 0; seen_slot = None; seen_free = 0; seen_need = None; seen_cur = 0; fresh = false; scan = None; steps = 0; scans = 0 }; times = record s.known.times { linked = []; loaded = 0; seen = false } } }

-- a seat as if what was loaded from CUR were not fresh
abbrev pub stale : Seated → Seated
stale s = record s { known = record s.known { local = record s.known.local { fresh = false } } }

module _ {O : Type 0} (r : Running O) (s v : Seated) (kept : unchanged_by_submit v ≡ unchanged_by_submit s) where
  number_kept : v.known.local.number ≡ s.known.local.number
  number_kept = ap (λ (x : Seated). x.known.local.number) kept

  pub keeps : (most : ℕ) → s.known.local.front ≤ v.known.local.front → s.known.local.seen_cur ≤ v.known.local.seen_cur → v.known.local.steps ≤ s.known.local.steps + most → ((j : ℕ) → j < 16 → IsIdle s.known.local j → LooksForNothing s v) → SubmitKeeps most s v
  keeps most front cur steps idle = record {
    number = number_kept;
    limit = ap (λ (x : Seated). x.known.local.limit) kept;
    answered = ap (λ (x : Seated). x.known.local.answered) kept;
    reads = ap (λ (x : Seated). x.known.local.seen_reads) kept;
    met = ap (λ (x : Seated). x.known.local.met) kept;
    sets = ap (λ (x : Seated). x.known.sets) kept;
    front = front;
    cur = cur;
    steps = steps;
    idle = idle;
    times = record { answered = ap (λ (x : Seated). x.known.times.answered) kept; reads = ap (λ (x : Seated). x.known.times.reads) kept };
    images = ap (λ (x : Seated). images_of x.known) kept;
  }

  -- where only what a submit changes differs at `v` from `s`, `v` is a seat of the table as `s` is
  pub of_kept : IsSeatOf r s → IsSeatOf r v
  of_kept of = record {
    table = ap (λ (x : Seated). x.table) kept ∙ of.table;
    caller = subst (λ n. n < r.callers) (sym number_kept) of.caller;
    before = ap (λ (x : Seated). x.before) kept ∙ of.before ∙ ap (λ n. slot_number n r.base.words) (sym number_kept);
    region = ap (λ (x : Seated). x.region) kept ∙ of.region;
  }

  -- a caller that is in no call at `s` is in none at `v`, with `unanswered` own entries that are not answered
  pub between : (unanswered : ℕ) → IsCallerOf r s → v.known.local.fresh ≡ false → v.known.local.scan ≡ None → length v.known.local.own ≡ length s.known.local.own + unanswered → s.known.local.front ≤ v.known.local.front →
      HasOwnCells v.known.local → IsBetweenCalls unanswered r v
  between unanswered caller fresh scan count front cells = record {
    of = of_kept caller.of;
    rest = record {
      exclusive = ap (λ (x : Seated). x.known.local.exclusive) kept ∙ caller.rest.exclusive;
      shared = ap (λ (x : Seated). x.known.local.shared) kept ∙ caller.rest.shared;
      passer = ap (λ (x : Seated). x.known.local.passer) kept ∙ caller.rest.passer;
      downgraded = ap (λ (x : Seated). x.known.local.downgraded) kept ∙ caller.rest.downgraded;
      won = ap (λ (x : Seated). x.known.local.won) kept ∙ caller.rest.won;
      protection = ap (λ (x : Seated). x.known.local.protection) kept ∙ caller.rest.protection;
      scan = scan;
      refused = ap (λ (x : Seated). x.known.local.refused) kept ∙ caller.rest.refused;
      fresh = fresh;
    };
    count = (let long = ap (λ (x : Seated). length x.known.local.answered) kept in omega (arith, count, long, caller.count));
    front = omega (arith, caller.front, front);
    cells = cells;
  }

  -- a caller whose entries are all answered has none that is not
  none_unanswered : (xs : List Linked) (n : ℕ) → length xs ≤ n → option_map (λ (x : Linked). x.ticket) (slice_get xs n) ≡ None
  none_unanswered xs n past = ap (option_map (λ (x : Linked). x.ticket)) (slice_get_past xs n past)

  pub halts : (most : ℕ) → IsCallerOf r s → v.known.local.own ≡ s.known.local.own → v.known.times.linked ≡ s.known.times.linked → s.known.local.front ≤ v.known.local.front → s.known.local.seen_cur ≤ v.known.local.seen_cur → v.known.local.steps ≤ s.known.local.steps + most → ((j : ℕ) → j < 16 → IsIdle s.known.local j → LooksForNothing s v) →
      IsAtLimit v.known.local → StepsOn s v → SubmitHalted r most s (unlinked v)
  halts most caller own linked front cur steps idle limit since = record {
    caller = record { of = of_kept caller.of; limit = limit };
    linked = refl;
    keeps = keeps most front cur steps idle;
    own = own;
    times = linked;
    since = since;
    none = none_unanswered v.known.local.own (length v.known.local.answered)
        (let long = ap (λ (x : Seated). length x.known.local.answered) kept in let same = ap (λ (xs : List Linked). length xs) own in omega (arith, long, same, caller.count));
  }

-- after an operation was announced each entry is answered, as before
pub answered_still : (s t : Seated) → t ≡ record s { known = record s.known { local = record s.known.local { cells = t.known.local.cells; fresh = false; steps = t.known.local.steps } } } → length s.known.local.own ≡ length s.known.local.answered + 0 →
    length t.known.local.answered ≡ length t.known.local.own
answered_still s t rest count =
    let answered : length t.known.local.answered ≡ length s.known.local.answered = ap (λ (x : Seated). length x.known.local.answered) rest in
    let own : length t.known.local.own ≡ length s.known.local.own = ap (λ (x : Seated). length x.known.local.own) rest in
    omega (arith, answered, own, count)

-- a try that was lost, so many of them, and tries of which the last was won, take no step back
lost_one_on : (callers : ℕ) (s v : Seated) → LosesTry callers s v → StepsOn s v
lost_one_on callers s v (inl finds) = (let one = ap (λ (x : Seated). x.known.local.steps) finds.seat in omega (arith, one))
lost_one_on callers s v (inr (mid, open_, finds)) =
    let one = ap (λ (x : Seated). x.known.local.steps) open_.seat in
    let two = ap (λ (x : Seated). x.known.local.steps) finds.seat in
    omega (arith, one, two)

lost_on : (callers n : ℕ) (s v : Seated) → LosesTries callers n s v → StepsOn s v
lost_on callers zero s v same = (let none = ap (λ (x : Seated). x.known.local.steps) same in omega (arith, none))
lost_on callers (suc n) s v (mid, lost, last) = (let first = lost_on callers n s mid lost in let one = lost_one_on callers mid v last in omega (arith, first, one))

won_on : (callers cell tries : ℕ) (s v : Seated) → EndsBy callers tries (WinsTry callers cell) s v → StepsOn s v
won_on callers cell tries s v ends =
    let lost = lost_on callers ends.count s ends.mid ends.lost in
    let one = ap (λ (x : Seated). x.known.local.steps) ends.last.finds.seat in
    let two = ap (λ (x : Seated). x.known.local.steps) ends.last.seat in
    omega (arith, lost, one, two)

-- an operation was announced in a cell
module _ {O : Type 0} (r : Running O) (j : ℕ) (op : List ℕ) (s t : Seated) (caller : IsCallerOf r s) (room : j < 16) (long : length op ≡ 144)
    (cell : cell_of t.known.local j ≡ record (cell_of s.known.local j) { words = next_number r.base s.known.local ∷ op; ticket = None })
    (others : (k : ℕ) → k ≢ j → cell_of t.known.local k ≡ cell_of s.known.local k)
    (rest : t ≡ record s { known = record s.known { local = record s.known.local { cells = t.known.local.cells; fresh = false; steps = t.known.local.steps } } }) where
  announced_kept : unchanged_by_submit t ≡ unchanged_by_submit s
  announced_kept = ap unchanged_by_submit rest

  -- the cell that was written has no ticket
  no_ticket : (cell_of t.known.local j).ticket ≡ None
  no_ticket = ap (λ (x : Cell). x.ticket) cell

  -- each other cell has the ticket that it had
  same_tickets : (k : ℕ) → k ≢ j → (cell_of t.known.local k).ticket ≡ (cell_of s.known.local k).ticket
  same_tickets k ne = ap (λ (x : Cell). x.ticket) (others k ne)

  no_more_tickets : (k n : ℕ) → (cell_of t.known.local k).ticket ≡ Some n → (cell_of s.known.local k).ticket ≡ Some n
  no_more_tickets k n at =
      elim (cases_eq k j) [
        | inl e ↦ absurd (none-some n (sym no_ticket ∙ ap (λ i. (cell_of t.known.local i).ticket) (sym e) ∙ at))
        | inr ne ↦ sym (same_tickets k ne) ∙ at
      ]

  same_own : t.known.local.own ≡ s.known.local.own
  same_own = ap (λ (x : Seated). x.known.local.own) rest

  same_linked : t.known.times.linked ≡ s.known.times.linked
  same_linked = ap (λ (x : Seated). x.known.times.linked) rest

  same_front : t.known.local.front ≡ s.known.local.front
  same_front = ap (λ (x : Seated). x.known.local.front) rest

  same_fresh : t.known.local.fresh ≡ false
  same_fresh = ap (λ (x : Seated). x.known.local.fresh) rest

  no_scan : t.known.local.scan ≡ None
  no_scan = ap (λ (x : Seated). x.known.local.scan) rest ∙ caller.rest.scan

  same_scans : t.known.local.scans ≡ s.known.local.scans
  same_scans = ap (λ (x : Seated). x.known.local.scans) rest

  -- where a cell is idle, nothing is looked for
  not_looked : (v : Seated) → v.known.local.seen_free ≡ t.known.local.seen_free → v.known.local.scans ≡ t.known.local.scans → (k : ℕ) → k < 16 → IsIdle s.known.local k → LooksForNothing s v
  not_looked v free scans k within idle = record { free = free ∙ ap (λ (x : Seated). x.known.local.seen_free) rest; scans = scans ∙ same_scans }

  -- nothing was linked
  module _ (v : Seated) (none : LinksNone t v) where
    none_kept : unchanged_by_submit v ≡ unchanged_by_submit s
    none_kept = ap unchanged_by_submit none.same ∙ announced_kept

    none_own : v.known.local.own ≡ s.known.local.own
    none_own = ap (λ (x : Seated). x.known.local.own) none.same ∙ same_own

    none_linked : v.known.times.linked ≡ s.known.times.linked
    none_linked = ap (λ (x : Seated). x.known.times.linked) none.same ∙ same_linked

    none_caller : IsCallerOf r v
    none_caller =
        between r s v none_kept 0 caller (ap (λ (x : Seated). x.known.local.fresh) none.same ∙ same_fresh) (ap (λ (x : Seated). x.known.local.scan) none.same ∙ no_scan)
        (let e = ap (λ (xs : List Linked). length xs) none_own in omega (arith, e))
        (omega (arith, none.front, same_front))
        (own_kept s.known.local v.known.local caller.cells none_own (omega (arith, none.front, same_front))
        (λ k n at. no_more_tickets k n (ap (λ (x : Seated). (cell_of x.known.local k).ticket) (sym none.same) ∙ at)))

    none_cur : s.known.local.seen_cur ≤ v.known.local.seen_cur
    none_cur = (let e = ap (λ (x : Seated). x.known.local.seen_cur) none.same in let f = ap (λ (x : Seated). x.known.local.seen_cur) rest in omega (arith, e, f))

    none_scans : s.known.local.scans ≤ v.known.local.scans
    none_scans = (let e = ap (λ (x : Seated). x.known.local.scans) none.same in omega (arith, e, same_scans))

    none_looked : (k : ℕ) → k < 16 → IsIdle s.known.local k → LooksForNothing s v
    none_looked = not_looked v (ap (λ (x : Seated). x.known.local.seen_free) none.same) (ap (λ (x : Seated). x.known.local.scans) none.same)

    pub halts_linking : (most : ℕ) → v.known.local.steps ≤ s.known.local.steps + most → IsAtLimit v.known.local → StepsOn s t → SubmitHalted r most s (unlinked v)
    halts_linking most steps limit since = halts r s v none_kept most caller none_own none_linked (omega (arith, none.front, same_front)) none_cur steps none_looked limit (omega (arith, none.since, since))

  -- tries were made then
  pub tries_of : (come_to : Seated → Seated → Type 0) (v : Seated) → min (s.known.local.steps + writes s.known.local j (next_number r.base s.known.local ∷ op)) max_word ≤ t.known.local.steps → come_to t v → TriesOf r 0 come_to s v
  tries_of come_to v since made =
      let words : (cell_of t.known.local j).words ≡ next_number r.base s.known.local ∷ op = ap (λ (x : Cell). x.words) cell in record {
        cell = j;
        from = t;
        number = ap (λ ws. slice_index ws 0) words;
        since = (let from = subst (λ ws. min (s.known.local.steps + writes s.known.local j ws) max_word ≤ t.known.local.steps) (sym words) since in omega (arith, from));
        made = made;
      }

  pub again : (tries most : ℕ) (v : Seated) → LinksAgain r.callers tries t v → ¬ IsAtLimit s.known.local → v.known.local.steps ≤ s.known.local.steps + most → StepsOn s t → SubmitAgain r tries most s v
  again tries most v links allowed steps since = record {
    caller = none_caller v links.none;
    keeps = keeps r s v (none_kept v links.none) most (omega (arith, links.none.front, same_front)) (none_cur v links.none) steps (none_looked v links.none);
    allowed = allowed;
    scans = none_scans v links.none;
    own = none_own v links.none;
    front = omega (arith, links.front, same_front);
    cur = (let e = ap (λ (x : Seated). root_place_of r.callers x.known.local.seen_cur) links.none.same in omega (arith, e, links.cur));
    left = links.left;
    linked = none_linked v links.none;
    since = omega (arith, links.none.since, since);
  }

  pub worn : (most : ℕ) (v : Seated) → IsWorn t v → ¬ IsAtLimit s.known.local → v.known.local.steps ≤ s.known.local.steps + most → min (s.known.local.steps + 1) max_word ≤ t.known.local.steps → SubmitWorn r 1 most s v
  worn most v links allowed steps since = record {
    caller = none_caller v links.none;
    keeps = keeps r s v (none_kept v links.none) most (omega (arith, links.none.front, same_front)) (none_cur v links.none) steps (none_looked v links.none);
    allowed = allowed;
    scans = none_scans v links.none;
    own = none_own v links.none;
    front = links.front;
    steps = omega (arith, links.none.since, since);
    idle = (j, room, subst (IsIdleAt v.known.local.seen_free) (sym (ap (λ (x : Seated). (cell_of x.known.local j).ticket) links.none.same ∙ no_ticket)) tt);
    linked = none_linked v links.none;
  }

  -- the entry was linked
  module _ (ticket : ℕ) (v : Seated) (at : LinksAt j ticket t v) where
    at_kept : unchanged_by_submit v ≡ unchanged_by_submit s
    at_kept = ap unchanged_by_submit at.same ∙ announced_kept

    entry_is : entry_in t.known.local j ≡ (next_entry r s.known.local op ticket).entry
    entry_is =
        let words : (cell_of t.known.local j).words ≡ next_number r.base s.known.local ∷ op = ap (λ (x : Cell). x.words) cell in
        let e = λ (c n : ℕ) (o : List ℕ). (let x : Linked = record { ticket = ticket; entry = record { caller = c; number = n; op = o } } in x.entry) in
        ap (λ c. e c (slice_index (cell_of t.known.local j).words 0) (slice_range (cell_of t.known.local j).words 1 145)) (ap (λ (x : Seated). x.known.local.number) rest)
        ∙ ap (λ ws. e s.known.local.number (slice_index ws 0) (slice_range ws 1 145)) words
        ∙ ap (λ o. e s.known.local.number (next_number r.base s.known.local) o) (take_all 144 op (omega (arith, long)))

    at_own : v.known.local.own ≡ s.known.local.own ++ next_entry r s.known.local op ticket ∷ []
    at_own =
        at.own
        ∙ ap (λ (xs : List Linked). xs ++ record { ticket = ticket; entry = entry_in t.known.local j } ∷ []) same_own
        ∙ ap (λ x. s.known.local.own ++ (let y : Linked = record { ticket = ticket; entry = x } in y) ∷ []) entry_is

    -- the cell is there, since it has words
    there : j < length t.known.local.cells
    there =
        elim (cases_lt j (length t.known.local.cells)) [
          | inl within ↦ within
          | inr past ↦ (
              let no : cell_of t.known.local j ≡ default = get_or-eq_default t.known.local.cells default past in
              let words : [] ≡ next_number r.base s.known.local ∷ op = ap (λ (x : Cell). x.words) (sym no ∙ cell) in
              let e = ap (λ (xs : List ℕ). length xs) words in
              absurd (omega (arith, e)))
        ]

    at_here : (cell_of v.known.local j).ticket ≡ Some ticket
    at_here =
        ap (λ cells. (get_or cells j default).ticket) at.cells
        ∙ ap (λ (x : Cell). x.ticket) (get_or-set_same t.known.local.cells j (record (cell_of t.known.local j) { ticket = Some ticket }) default there)

    at_others : (k : ℕ) → k ≢ j → (cell_of v.known.local k).ticket ≡ (cell_of s.known.local k).ticket
    at_others k ne =
        ap (λ cells. (get_or cells k default).ticket) at.cells
        ∙ ap (λ (x : Cell). x.ticket) (get_or-set_other t.known.local.cells j k (record (cell_of t.known.local j) { ticket = Some ticket }) default ne)
        ∙ same_tickets k ne

    at_cells : HasOwnCells v.known.local
    at_cells =
        own_more s.known.local v.known.local (next_entry r s.known.local op ticket) j caller.cells at_own (omega (arith, at.from, same_front)) at.front
        (λ k n ne there. sym (at_others k ne) ∙ there)
        at_here

    at_caller : IsLinkedOf r v
    at_caller =
        between r s v at_kept 1 caller (ap (λ (x : Seated). x.known.local.fresh) at.same ∙ same_fresh) (ap (λ (x : Seated). x.known.local.scan) at.same ∙ no_scan)
        (ap (λ (xs : List Linked). length xs) at_own ∙ length-append s.known.local.own (next_entry r s.known.local op ticket ∷ []))
        (omega (arith, at.from, at.front, same_front))
        at_cells

    at_lends : unanswered_ticket v.known.local ≡ Some ticket
    at_lends =
        let e : length v.known.local.answered ≡ length s.known.local.own = (let same = ap (λ (x : Seated). length x.known.local.answered) at_kept in omega (arith, same, caller.count)) in
        ap (λ n. option_map (λ (x : Linked). x.ticket) (slice_get v.known.local.own n)) e
        ∙ ap (λ (xs : List Linked). option_map (λ (x : Linked). x.ticket) (slice_get xs (length s.known.local.own))) at_own
        ∙ ap (option_map (λ (x : Linked). x.ticket)) (slice_get-last s.known.local.own (next_entry r s.known.local op ticket))

  pub linked_at : (ticket most : ℕ) (v : Seated) → LinksAt j ticket t v → StepsOn t v → ¬ IsAtLimit s.known.local → v.known.local.steps ≤ s.known.local.steps + most → StepsOn s t → SubmitLinked r op most s v
  linked_at ticket most v at on allowed steps since = record {
    caller = at_caller ticket v at;
    keeps = keeps r s v (at_kept ticket v at) most (omega (arith, at.from, at.front, same_front)) (let e = ap (λ (x : Seated). x.known.local.seen_cur) at.same in let f = ap (λ (x : Seated). x.known.local.seen_cur) rest in omega (arith, e, f)) steps (not_looked v (ap (λ (x : Seated). x.known.local.seen_free) at.same) (ap (λ (x : Seated). x.known.local.scans) at.same));
    allowed = allowed;
    scans = (let e = ap (λ (x : Seated). x.known.local.scans) at.same in omega (arith, e, same_scans));
    ticket = ticket;
    lends = at_lends ticket v at;
    own = at_own ticket v at;
    from = omega (arith, at.from, same_front);
    front = at.front;
    begun = record { at = at.linked.at; from = omega (arith, at.linked.from, since); is = at.linked.is ∙ ap (λ ts. ts ++ at.linked.at ∷ []) same_linked };
    since = omega (arith, on, since);
  }

  -- whatever they came to, no write sets were read
  pub no_sets_read : (callers tries : ℕ) (v : Seated) (tried : LinkTried) → Tried callers j tries t v tried → v.known.sets ≡ s.known.sets
  no_sets_read callers tries v (LinkedAt ticket) links = ap (λ (x : Seated). x.known.sets) links.same ∙ ap (λ (x : Seated). x.known.sets) rest
  no_sets_read callers tries v Again links = ap (λ (x : Seated). x.known.sets) links.none.same ∙ ap (λ (x : Seated). x.known.sets) rest
  no_sets_read callers tries v Worn links = ap (λ (x : Seated). x.known.sets) links.none.same ∙ ap (λ (x : Seated). x.known.sets) rest

  -- what tries to link it come to
  pub entered : (tries most : ℕ) (v : Seated) (tried : LinkTried) → Tried r.callers j tries t v tried × MakesTries r.callers j tries t v tried → ¬ IsAtLimit s.known.local → v.known.local.steps ≤ s.known.local.steps + most →
      min (s.known.local.steps + writes s.known.local j (next_number r.base s.known.local ∷ op)) max_word ≤ t.known.local.steps → EntersIn 0 most r op tries s v tried
  entered tries most v (LinkedAt ticket) (links, made) allowed steps since = linked_at ticket most v links (won_on r.callers j tries t v made) allowed steps (omega (arith, since))
  entered tries most v Again (links, made) allowed steps since = (again tries most v links allowed steps (omega (arith, since)), tries_of (LosesTries r.callers tries) v since links.lost)
  entered tries most v Worn (links, made) allowed steps since = worn most v links allowed steps (omega (arith, since))
