-- A cell is looked for before an operation is announced.
use Rattle.std.proofs.Common.{◌≡◌, ◌+◌, ◌<◌, ◌≤◌, ◌⊎◌, ◌^◌, inl, inr, ℕ, min, false, List, [], ◌∷◌, ◌++◌, length, refl, sym, ap, subst, ◌∙◌, arith, slice_index, slice_get, Option, Some, None, Result, Ok, Err}
use Rattle.std.proofs.lemmas.List.{append-nil}
use Rattle.std.proofs.lemmas.Option.{same_Some}
use Rattle.cx_base.specs.Codes.{root_place_of}
use Rattle.cx_core.specs.declared.kinds.Kind.TheVariants.{LoadCur, LoadFree}
use Rattle.cx_core.specs.declared.local.Cell.{Cell}
use Rattle.cx_core.specs.declared.local.Linked.{Linked}
use Rattle.cx_core.specs.Layout.{max_word}
use Rattle.cx_core.specs.Region.{slot_number}
use Rattle.cx_core.specs.RingEvents.{need_word}
use Rattle.cx_core.specs.State.{Instance, one_more}
use Rattle.table_invariant.specs.declared.rule.Noted.{Noted}
use Rattle.cx_attempts.specs.Attempts.{StepsOn}
use Rattle.mutation_queue.specs.Cells.{IsInUse, IsInUseAt, writes}
use Rattle.mutation_queue.specs.Links.{EndsBy, HaltsTry, LosesTries}
use Rattle.mutation_queue.specs.Collecting.{Collects, HaltsCollecting, except_collected}
use Rattle.mutation_queue.specs.declared.reclamation.Collected.{Collected}
use Rattle.mutation_queue.specs.declared.links.LinkTried.{LinkTried}
use Rattle.mutation_queue.specs.declared.links.LinkTried.TheVariants.{Again as TriedAgain, Linked as TriedLinked, Worn as TriedWorn}
use Rattle.cx_core.specs.QueueEvents.{IsIdle, IsIdleAt, cell_of, next_number}
use Rattle.table_invariant.specs.Rule.{IsLawfulLocal}
use Rattle.table_invariant.specs.Running.{Running}
use Rattle.table_invariant.specs.Seats.{IsAtLimit, Seated, images_of, stepped}
use Rattle.cx_core.specs.declared.local.FullNote.{FullNote}
use Rattle.cx_service.specs.declared.submit.Submitted.{Submitted}
use Rattle.cx_service.specs.declared.submit.Submitted.TheVariants.{Linked as LinkedIs, Again, Full, Worn, Halted}
use Rattle.cx_service.specs.Callers.{IsCallerOf, StoppedSeat, unlinked}
use Rattle.cx_service.specs.Submits.{AreInUse, AreTickets, EndsLooking, EntersOperation, EntersIn, FindsAgain, FindsCell, FindsIdle, FindsNone, HaltsEntering, HaltsLooking, IsLooking, IsWriting, LooksBy, LooksForCell, LooksForNothing, NamesHolder, SubmitAgain, SubmitFull, SubmitHalted, SubmitKeeps, SubmitLinked, SubmitWorn, SubmitsIn, TriesOf, next_entry}
use Rattle.cx_service.proofs.Cells.{answered_below, many_own, own_kept, used_ticket}
use Rattle.cx_service.proofs.Entering.{unchanged_by_submit, between, halts, keeps, stale}

-- what comes before an operation is announced: at most so many steps, which the limit allowed, that change no entry and no cell
pub record Precedes (more : ℕ) (s t : Seated) : Type 0 where
  pub kept : unchanged_by_submit t ≡ unchanged_by_submit s
  pub own : t.known.local.own ≡ s.known.local.own
  pub cells : t.known.local.cells ≡ s.known.local.cells
  pub front : s.known.local.front ≤ t.known.local.front
  pub cur : s.known.local.seen_cur ≤ t.known.local.seen_cur
  pub scans : s.known.local.scans ≤ t.known.local.scans
  pub steps : t.known.local.steps ≤ s.known.local.steps + more
  pub since : StepsOn s t
  pub linked : t.known.times.linked ≡ s.known.times.linked
  pub idle : (j : ℕ) → j < 16 → IsIdle s.known.local j → LooksForNothing s t
  pub stood : IsAtLimit s.known.local → t ≡ s

-- a cell is not idle and in use
not_both : (free : ℕ) (o : Option ℕ) → IsIdleAt free o → IsInUseAt free o → ⊥
not_both free None idle used = used
not_both free (Some t) idle used = omega (arith, idle, used)

-- where one is idle nothing was looked for
looked_idle : (s t : Seated) → AreInUse s.known.local ⊎ (t ≡ s) → (j : ℕ) → j < 16 → IsIdle s.known.local j → LooksForNothing s t
looked_idle s t (inl used) j within idle = absurd (not_both s.known.local.seen_free (cell_of s.known.local j).ticket idle (used j within))
looked_idle s t (inr same) j within idle = record { free = ap (λ (x : Seated). x.known.local.seen_free) same; scans = ap (λ (x : Seated). x.known.local.scans) same }

-- what looking for a cell leaves
module _ (most : ℕ) (s t : Seated) (looked : LooksForCell most s t) where
  -- looking for a cell leaves what a submit leaves
  pub looked_kept : unchanged_by_submit t ≡ unchanged_by_submit s
  looked_kept = ap unchanged_by_submit looked.same

  -- looking for a cell leaves the caller's own entries
  pub looked_own : t.known.local.own ≡ s.known.local.own
  looked_own = ap (λ (x : Seated). x.known.local.own) looked.same

  -- looking for a cell leaves the caller's cells
  pub looked_cells : t.known.local.cells ≡ s.known.local.cells
  looked_cells = ap (λ (x : Seated). x.known.local.cells) looked.same

  -- looking for a cell leaves the caller's front
  pub looked_front : t.known.local.front ≡ s.known.local.front
  looked_front = ap (λ (x : Seated). x.known.local.front) looked.same

  -- looking for a cell does not take back what was seen of CUR
  pub looked_cur : s.known.local.seen_cur ≤ t.known.local.seen_cur
  looked_cur = (let e = ap (λ (x : Seated). x.known.local.seen_cur) looked.same in omega (arith, e))

  pub looked_first : EndsLooking s t → AreInUse s.known.local ⊎ (t ≡ s) → (IsAtLimit s.known.local → t ≡ s) → Precedes most s t
  looked_first ends used stood = record { kept = looked_kept; own = looked_own; cells = looked_cells; front = omega (arith, looked_front); cur = looked_cur; scans = ends.scans; steps = looked.steps; since = ends.since; linked = ap (λ (x : Seated). x.known.times.linked) looked.same; idle = looked_idle s t used; stood = stood }

-- a cell was looked for by so many steps, and no scan came after
looks_on : (callers n : ℕ) (s t v : Seated) → v.known.local.scans ≡ t.known.local.scans → LooksBy callers n s t → LooksBy callers n s v
looks_on callers n s t v same looked = elim looked [
  | inl idle ↦ inl idle
  | inr used ↦ elim used [ inl one ↦ inr (inl (one.0, one.1, same ∙ one.2)) | inr scan ↦ inr (inr (scan.0, scan.1, same ∙ scan.2)) ]
]

module _ {O : Type 0} (r : Running O) (more : ℕ) (s t : Seated) (first : Precedes more s t) where
  -- a caller that was in no call before it looked for a cell is in none after
  pub caller_then : IsCallerOf r s → t.known.local.fresh ≡ false → t.known.local.scan ≡ None → IsCallerOf r t
  caller_then caller fresh scan =
      between r s t first.kept 0 caller fresh scan
      (let e = ap (λ (xs : List Linked). length xs) first.own in omega (arith, e))
      (omega (arith, first.front))
      (own_kept s.known.local t.known.local caller.cells first.own (omega (arith, first.front)) (λ j n at. same_tickets j ∙ at))
    where
      same_tickets : (j : ℕ) → (cell_of s.known.local j).ticket ≡ (cell_of t.known.local j).ticket
      same_tickets j = ap (λ (cells : List Cell). (cell_of (record s.known.local { cells = cells }) j).ticket) (sym first.cells)

  allowed : ¬ IsAtLimit t.known.local → ¬ IsAtLimit s.known.local
  allowed free at = free (subst (λ (x : Seated). IsAtLimit x.known.local) (sym (first.stood at)) at)

  -- what a submit from `t` leaves as it was, one from `s` leaves so too, in at most `more` steps more
  keeps_then : (m n : ℕ) (v : Seated) → m + more ≤ n → SubmitKeeps m t v → SubmitKeeps n s v
  keeps_then m n v most after = record {
    number = after.number ∙ ap (λ (x : Seated). x.known.local.number) first.kept;
    limit = after.limit ∙ ap (λ (x : Seated). x.known.local.limit) first.kept;
    answered = after.answered ∙ ap (λ (x : Seated). x.known.local.answered) first.kept;
    reads = after.reads ∙ ap (λ (x : Seated). x.known.local.seen_reads) first.kept;
    met = after.met ∙ ap (λ (x : Seated). x.known.local.met) first.kept;
    sets = after.sets ∙ ap (λ (x : Seated). x.known.sets) first.kept;
    front = omega (arith, after.front, first.front);
    cur = omega (arith, after.cur, first.cur);
    steps = omega (arith, after.steps, first.steps, most);
    idle = λ j within idle. (
        let none = first.idle j within idle in
        let still : IsIdle t.known.local j = subst (λ (cells : List Cell). IsIdleAt t.known.local.seen_free (cell_of (record s.known.local { cells = cells }) j).ticket) (sym first.cells) (subst (λ n. IsIdleAt n (cell_of s.known.local j).ticket) (sym none.free) idle) in
        let last = after.idle j within still in
        record { free = last.free ∙ none.free; scans = last.scans ∙ none.scans });
    times = record { answered = after.times.answered ∙ ap (λ (x : Seated). x.known.times.answered) first.kept; reads = after.times.reads ∙ ap (λ (x : Seated). x.known.times.reads) first.kept };
    images = after.images ∙ ap (λ (x : Seated). images_of x.known) first.kept;
  }

  same_entry : (op : List ℕ) (ticket : ℕ) → next_entry r t.known.local op ticket ≡ next_entry r s.known.local op ticket
  same_entry op ticket =
      ap (λ c. next_entry r (record t.known.local { number = c }) op ticket) (ap (λ (x : Seated). x.known.local.number) first.kept)
      ∙ ap (λ own. next_entry r (record s.known.local { own = own }) op ticket) first.own

  -- tries from there are of the submit from the beginning
  pub tries_then : (n took : ℕ) (come_to : Seated → Seated → Type 0) (v : Seated) → min (s.known.local.steps + took) max_word ≤ t.known.local.steps → TriesOf r n come_to t v → TriesOf r (took + n) come_to s v
  tries_then n took come_to v least tried =
      let words = (cell_of tried.from.known.local tried.cell).words in
      let same : writes s.known.local tried.cell words ≡ writes t.known.local tried.cell words = ap (λ (cells : List Cell). writes (record s.known.local { cells = cells }) tried.cell words) (sym first.cells) in record {
        cell = tried.cell;
        from = tried.from;
        number = tried.number
            ∙ ap (λ (n : ℕ). slot_number n r.base.words + length t.known.local.own + 1) (ap (λ (x : Seated). x.known.local.number) first.kept)
            ∙ ap (λ (own : List Linked). slot_number s.known.local.number r.base.words + length own + 1) first.own;
        since = omega (arith, tried.since, least, same);
        made = tried.made;
      }

  -- an entry that was being written from there
  pub writing_then : (op : List ℕ) (n took : ℕ) (v : Seated) → t.known.local.steps ≤ s.known.local.steps + took → IsWriting r op n t v → IsWriting r op (took + n) s v
  writing_then op n took v steps w =
      let words = next_number r.base s.known.local ∷ op in
      let number : next_number r.base t.known.local ≡ next_number r.base s.known.local = (
      ap (λ (k : ℕ). slot_number k r.base.words + length t.known.local.own + 1) (ap (λ (x : Seated). x.known.local.number) first.kept)
      ∙ ap (λ (own : List Linked). slot_number s.known.local.number r.base.words + length own + 1) first.own) in
      let same : writes t.known.local w.cell (next_number r.base t.known.local ∷ op) ≡ writes s.known.local w.cell words = (
      ap (λ k. writes t.known.local w.cell (k ∷ op)) number
      ∙ ap (λ (cells : List Cell). writes (record s.known.local { cells = cells }) w.cell words) first.cells) in
      let short = w.short in record {
        cell = w.cell;
        within = w.within;
        idle = w.idle;
        short = omega (arith, short, steps, same);
        others = λ k ne. w.others k ne ∙ ap (λ (cells : List Cell). cell_of (record s.known.local { cells = cells }) k) first.cells;
      }

  -- what an entry from there comes to is what a submit from the beginning does
  linked_then : (op : List ℕ) (m n : ℕ) (v : Seated) → m + more ≤ n → SubmitLinked r op m t v → SubmitLinked r op n s v
  linked_then op m n v most after = record {
    caller = after.caller;
    keeps = keeps_then m n v most after.keeps;
    allowed = allowed after.allowed;
    scans = omega (arith, first.scans, after.scans);
    ticket = after.ticket;
    lends = after.lends;
    own = after.own ∙ ap (λ (xs : List Linked). xs ++ next_entry r t.known.local op after.ticket ∷ []) first.own ∙ ap (λ x. s.known.local.own ++ x ∷ []) (same_entry op after.ticket);
    from = omega (arith, after.from, first.front);
    front = after.front;
    begun = record { at = after.begun.at; from = omega (arith, after.begun.from, first.since); is = after.begun.is ∙ ap (λ ts. ts ++ after.begun.at ∷ []) first.linked };
    since = omega (arith, after.since, first.since);
  }

  -- a submit from `t` that lost all its tries is one from `s` that did, in at most `more` steps more
  again_then : (tries m n : ℕ) (v : Seated) → m + more ≤ n → SubmitAgain r tries m t v → SubmitAgain r tries n s v
  again_then tries m n v most after = record {
    caller = after.caller;
    keeps = keeps_then m n v most after.keeps;
    allowed = allowed after.allowed;
    scans = omega (arith, first.scans, after.scans);
    own = after.own ∙ first.own;
    front = omega (arith, after.front, first.front);
    cur = after.cur;
    left = after.left;
    linked = after.linked ∙ first.linked;
    since = omega (arith, after.since, first.since);
  }

  -- a submit from `t` that found no ticket left is one from `s`, with the `took` steps from `s` to `t` counted in
  worn_then : (took k least m n : ℕ) (v : Seated) → m + more ≤ n → least ≤ took + k → min (s.known.local.steps + took) max_word ≤ t.known.local.steps → SubmitWorn r k m t v → SubmitWorn r least n s v
  worn_then took k least m n v most all from after = record {
    caller = after.caller;
    keeps = keeps_then m n v most after.keeps;
    allowed = allowed after.allowed;
    scans = omega (arith, first.scans, after.scans);
    own = after.own ∙ first.own;
    front = after.front;
    steps = (let rest = after.steps in omega (arith, rest, from, all));
    idle = after.idle;
    linked = after.linked ∙ first.linked;
  }

  -- a submit that halts at the limit from `t` on has halted from `s` on, with nothing linked, in at most `more` steps more
  pub halted_then : (m n : ℕ) (v : StoppedSeat) → m + more ≤ n → SubmitHalted r m t v → SubmitHalted r n s v
  halted_then m n v most halted = record {
    caller = halted.caller;
    linked = halted.linked;
    keeps = keeps_then m n v.seat most halted.keeps;
    own = halted.own ∙ first.own;
    none = halted.none;
    times = halted.times ∙ first.linked;
    since = omega (arith, halted.since, first.since);
  }

  -- whatever the tries to link from `t` on end with, a link, a loss of all or no ticket left, those from `s` on end with it, `took` steps later
  pub enters_then : (op : List ℕ) (k took tries m n : ℕ) (v : Seated) (tried : LinkTried) → m + more ≤ n → min (s.known.local.steps + took) max_word ≤ t.known.local.steps → EntersIn k m r op tries t v tried → EntersIn (took + k) n r op tries s v tried
  enters_then op k took tries m n v (TriedLinked ticket) most least after = linked_then op m n v most after
  enters_then op k took tries m n v TriedAgain most least after = (again_then tries m n v most after.0, tries_then k took (LosesTries r.callers tries) v least after.1)
  enters_then op k took tries m n v TriedWorn most least after = worn_then took (k + 1) (took + k + 1) m n v most (omega arith) least after

  -- whatever a submit in the idle cell found at `t` ends with, one from `s` on ends with it, the steps from `s` to `t` counted in
  pub submits_then : (op : List ℕ) (tries m n : ℕ) (result : Submitted) → m + more ≤ n → (cell : ℕ) → FindsIdle r.callers s t cell → EntersOperation m r op tries t result → SubmitsIn n r op tries s result
  submits_then op tries m n (LinkedIs v) most cell finds after = linked_then op m n v most after
  submits_then op tries m n (Again v) most cell finds after = (
    again_then tries m n v most after.0,
    finds.took,
    looks_on r.callers finds.took s t v (after.0.keeps.idle cell finds.within finds.idle).scans finds.looked,
    tries_then 1 finds.took (LosesTries r.callers tries) v finds.least after.1,
  )
  submits_then op tries m n (Full v note) most cell finds after = absurd after
  submits_then op tries m n (Worn v) most cell finds after = worn_then 0 2 2 m n v most (omega arith) (omega (arith, first.since)) after
  submits_then op tries m n (Halted v) most cell finds after = (
    halted_then m n v most after.0,
    inr (
      finds.took,
      looks_on r.callers finds.took s t v.seat (after.0.keeps.idle cell finds.within finds.idle).scans finds.looked,
      elim after.1 [
        | inl writing ↦ inl (writing_then op 1 finds.took v.seat finds.most writing)
        | inr tried ↦ inr (tries_then 1 finds.took (EndsBy r.callers tries (HaltsTry r.callers)) v.seat finds.least tried)
      ],
    ),
  )

-- CUR was loaded
pub cur_loaded : (instance : Instance) (s t : Seated) (found : ℕ) → t ≡ stepped instance LoadCur s found → s.known.local.seen_cur ≤ found → ¬ IsAtLimit s.known.local → Precedes 1 s (stale t)
cur_loaded instance s t found made rises allowed =
    let b = unchanged_by_submit s in
    let front = ap (λ (x : Seated). x.known.local.front) made in
    let steps = ap (λ (x : Seated). x.known.local.steps) made in record {
      kept = ap unchanged_by_submit made ∙ ap (λ (ns : List Noted). record b { known = record b.known { noted = ns } }) (append-nil s.known.noted);
      own = ap (λ (x : Seated). x.known.local.own) made;
      cells = ap (λ (x : Seated). x.known.local.cells) made;
      front = omega (arith, front);
      cur = (let e = ap (λ (x : Seated). x.known.local.seen_cur) made in omega (arith, e, rises));
      scans = (let e = ap (λ (x : Seated). x.known.local.scans) made in omega (arith, e));
      steps = omega (arith, steps);
      since = omega (arith, steps);
      linked = ap (λ (x : Seated). x.known.times.linked) made;
      idle = λ j within idle. record { free = ap (λ (x : Seated). x.known.local.seen_free) made; scans = ap (λ (x : Seated). x.known.local.scans) made };
      stood = λ at. absurd (allowed at);
    }

-- a caller that was in no call before CUR was loaded is in none after, where what was loaded is not kept as fresh
pub cur_caller : {O : Type 0} (r : Running O) (instance : Instance) (s t : Seated) (found : ℕ) → t ≡ stepped instance LoadCur s found → s.known.local.seen_cur ≤ found → ¬ IsAtLimit s.known.local → IsCallerOf r s → IsCallerOf r (stale t)
cur_caller r instance s t found made rises allowed caller = caller_then r 1 s (stale t) (cur_loaded instance s t found made rises allowed) caller refl (ap (λ (x : Seated). x.known.local.scan) made ∙ caller.rest.scan)

-- FREE was loaded
pub free_loaded : (instance : Instance) (s t : Seated) (found : ℕ) → t ≡ stepped instance LoadFree s found → LooksForCell 1 s t
free_loaded instance s t found made =
    let with = λ (ns : List Noted). (let x : Seated = record s { known = record s.known { noted = ns } } in x) in
    let steps = ap (λ (x : Seated). x.known.local.steps) made in record {
      same = ap except_collected made ∙ ap (λ ns. except_collected (with ns)) (append-nil s.known.noted);
      steps = omega (arith, steps);
    }

-- after FREE was loaded no scan is under way, as before
pub free_ends : {O : Type 0} (r : Running O) (instance : Instance) (s t : Seated) (found : ℕ) → t ≡ stepped instance LoadFree s found → IsCallerOf r s → EndsLooking s t
free_ends r instance s t found made caller = record {
  scan = ap (λ (x : Seated). x.known.local.scan) made ∙ caller.rest.scan;
  fresh = ap (λ (x : Seated). x.known.local.fresh) made ∙ caller.rest.fresh;
  scans = (let e = ap (λ (x : Seated). x.known.local.scans) made in omega (arith, e));
  since = (let e = ap (λ (x : Seated). x.known.local.steps) made in omega (arith, e));
}

pub none_ends : {O : Type 0} (r : Running O) (s : Seated) → IsCallerOf r s → EndsLooking s s
none_ends r s caller = record { scan = caller.rest.scan; fresh = caller.rest.fresh; scans = omega arith; since = omega arith }

-- one look after another
pub looked_then : (m n k : ℕ) (s t v : Seated) → m + n ≤ k → LooksForCell m s t → LooksForCell n t v → LooksForCell k s v
looked_then m n k s t v most a b = record { same = b.same ∙ a.same; steps = omega (arith, most, a.steps, b.steps) }

-- where looking for a cell ends at `t` and again at `v`, it has ended from `s` to `v`: no scan is under way, and no step is taken back
pub ends_then : (s t v : Seated) → EndsLooking s t → EndsLooking t v → EndsLooking s v
ends_then s t v a b = record { scan = b.scan; fresh = b.fresh; scans = omega (arith, a.scans, b.scans); since = omega (arith, a.since, b.since) }

-- an idle cell at first
pub finds_at_once : {O : Type 0} (r : Running O) (s : Seated) (cell : ℕ) → IsCallerOf r s → cell < 16 → IsIdle s.known.local cell → FindsIdle r.callers s s cell
finds_at_once r s cell caller within idle = record { ends = none_ends r s caller; stood = inr refl; within = within; idle = idle; took = 0; looked = inl (refl, (cell, within, idle)); least = omega arith; most = omega arith }

-- where all cells of `s` are in use and FREE is loaded in one step to `t`, what a scan from `t` finds is what looking for a cell from `s` finds
pub finds_then : (callers : ℕ) (s t v : Seated) (found : Result ℕ FullNote) → AreInUse s.known.local → ¬ IsAtLimit s.known.local → EndsLooking s t → t.known.local.scans ≡ s.known.local.scans → t.known.local.steps ≡ one_more s.known.local.steps → LooksForCell (callers + 4) s v → FindsAgain callers t v found → FindsCell callers s v found
finds_then callers s t v (Ok cell) used free ends scans one looked finds = record {
  ends = ends_then s t v ends finds.ends;
  stood = inl used;
  within = finds.within;
  idle = finds.idle;
  took = callers + 4;
  looked = inr (inr (refl, used, finds.scans ∙ ap one_more scans));
  least = (let count = finds.count in omega (arith, one, count));
  most = looked.steps;
}
finds_then callers s t v (Err note) used free ends scans one looked finds = record {
  ends = ends_then s t v ends finds.ends;
  used = used;
  scans = finds.scans ∙ ap one_more scans;
  count = (let count = finds.count in omega (arith, one, count));
  allowed = free;
  names = finds.names;
}

-- the limit was come to in looking, behind one step
pub looking_then : (n m : ℕ) (s t v : Seated) → n + 1 ≡ m → t.known.local.scans ≡ s.known.local.scans → t.known.local.steps ≡ one_more s.known.local.steps → IsLooking n t v → IsLooking m s v
looking_then n m s t v more scans one looking = elim looking [
  | inl used ↦ inl (used.0, used.1 ∙ scans)
  | inr ended ↦ (let count = ended.1 in inr (ended.0 ∙ ap one_more scans, omega (arith, more, one, count)))
]

-- the limit was come to while FREE was being raised, by a scan of the callers' needs
pub collect_halts : (callers target : ℕ) (s v : Seated) → AreInUse s.known.local → HaltsCollecting callers target s v → IsLooking (callers + 2) s v
collect_halts callers target s v used halts = elim halts.left [
  | inl some ↦ inl (elim some [
    | inl same ↦ (subst (λ (x : Seated). AreInUse x.known.local) (sym same) used, ap (λ (x : Seated). x.known.local.scans) same)
    | inr scans ↦ (subst (λ (x : Seated). AreInUse x.known.local) (sym scans.2.same) used, ap (λ (x : Seated). x.known.local.scans) scans.2.same)
  ])
  | inr opens ↦ (let count = opens.count in inr (opens.scans, omega (arith, count)))
]

-- raising FREE takes no step back where the limit ends it
pub collect_on : (callers target : ℕ) (s v : Seated) → HaltsCollecting callers target s v → StepsOn s v
collect_on callers target s v halts = elim halts.left [
  | inl some ↦ elim some [
    | inl same ↦ (let none = ap (λ (x : Seated). x.known.local.steps) same in omega (arith, none))
    | inr scans ↦ (let count = scans.2.count in omega (arith, count))
  ]
  | inr opens ↦ (let count = opens.count in omega (arith, count))
]

-- a caller with all cells in use
module _ {O : Type 0} (r : Running O) (s : Seated) (tickets : List ℕ) (caller : IsCallerOf r s) (are : AreTickets s.known.local tickets) where
  -- each of the tickets is that of an own entry
  own_ticket : (i : ℕ) → i < 16 → (k : ℕ) × (x : Linked) × (slice_get s.known.local.own k ≡ Some x) × (x.ticket ≡ slice_index tickets i)
  own_ticket i within = (let at = are.each i within in caller.cells.own at.0 (slice_index tickets i) at.2)

  pub ticket_small : (i : ℕ) → i < 16 → s.known.local.front ≤ 2 ^ 40 → slice_index tickets i < 2 ^ 40
  ticket_small i within small = (let x = own_ticket i within in let below = caller.cells.to x.0 x.1 x.2 in let same = x.3 in omega (arith, below, same, small))

  -- cells up to one of them may be given again
  pub may_collect : (instance : Instance) → IsLawfulLocal instance s.known.local → (i : ℕ) → i < 16 → slice_index tickets i + 1 ≤ root_place_of instance.callers s.known.local.seen_cur
  may_collect instance law i within =
      let x = own_ticket i within in
      let count : length s.known.local.own ≡ length s.known.local.answered = omega (arith, caller.count) in
      let below = answered_below instance s.known.local law count x.0 x.1 x.2 in
      let same = x.3 in
      omega (arith, below, same)

  -- and no cell is idle after it
  module _ (v : Seated) (found : Collected) (instance : Instance) (law : IsLawfulLocal instance s.known.local) (collects : Collects r.callers (slice_index tickets 7 + 1) s v found) (used : (j : ℕ) → j < 16 → IsInUse v.known.local j) where
    same_ticket : (j : ℕ) → (cell_of v.known.local j).ticket ≡ (cell_of s.known.local j).ticket
    same_ticket j = ap (λ (x : Seated). (cell_of x.known.local j).ticket) collects.same

    least_small : slice_index tickets 0 < 2 ^ 40
    least_small = ticket_small 0 (omega arith) law.to

    -- the least ticket is at or above FREE, which rose to the least need
    need_low : found.need ≤ slice_index tickets 0
    need_low =
        let here = are.least.here in
        let low = used_ticket v.known.local here.0 (used here.0 here.1) in
        let is = same_Some low.0 (slice_index tickets 0) (sym low.1 ∙ same_ticket here.0 ∙ here.2) in
        let eighth = are.each 7 (omega arith) in
        let from = are.least.each eighth.0 eighth.1 in
        let at = same_Some from.0 (slice_index tickets 7) (sym from.1 ∙ eighth.2) in
        let above = low.2 in
        let least = from.2 in
        let free = collects.free in
        let rose = collects.opened in
        omega (arith, is, at, above, least, free, rose)

    pub names_holder : NamesHolder r.callers v.known.local (record { holder = found.holder; need = found.need; ticket = slice_index tickets 0 })
    names_holder = record {
      holder = collects.holder;
      other = λ e. (
          let own = collects.own (e ∙ ap (λ (x : Seated). x.known.local.number) collects.same) in
          let most = ap need_word caller.rest.protection in
          let low = need_low in
          let small = least_small in
          absurd (omega (arith, own, most, low, small)));
      seen = collects.seen;
      need = need_low;
      cells = record {
        each = λ j within. (let at = are.least.each j within in (at.0, same_ticket j ∙ at.1, at.2));
        here = (let at = are.least.here in (at.0, at.1, same_ticket at.0 ∙ at.2));
      };
    }

-- a scan that ended
pub collect_ends : (callers target : ℕ) (s v : Seated) (found : Collected) → s.known.local.scans ≤ max_word → Collects callers target s v found → EndsLooking s v
collect_ends callers target s v found small collects = record { scan = collects.scan; fresh = collects.fresh; scans = (let e = collects.scans in omega (arith, small, e)); since = (let e = collects.count in omega (arith, e)) }

-- the limit was come to
pub halts_looking : {O : Type 0} (r : Running O) (most n : ℕ) (s t : Seated) → IsCallerOf r s → LooksForCell n s t → n ≤ most → (op : List ℕ) (tries : ℕ) → HaltsLooking (r.callers + 3) s t → HaltsEntering r op tries most s (unlinked t)
halts_looking r most n s t caller looked few op tries halted =
    let front = looked_front n s t looked in
    (halts r s t (looked_kept n s t looked) most caller (looked_own n s t looked) (ap (λ (x : Seated). x.known.times.linked) looked.same) (omega (arith, front)) (looked_cur n s t looked) (omega (arith, looked.steps, few)) (looked_idle s t (inl halted.used)) halted.limit halted.since, inl halted.looking)

-- no cell is idle
pub full_there : {O : Type 0} (r : Running O) (most n : ℕ) (s t : Seated) (note : FullNote) → LooksForCell n s t → IsCallerOf r s → FindsNone r.callers (r.callers + 4) s t note → n ≤ most → SubmitFull r most s t note
full_there r most n s t note looked caller none few =
    let first = looked_first n s t looked none.ends (inl none.used) (λ at. absurd (none.allowed at)) in
    let now = caller_then r n s t first caller none.ends.fresh none.ends.scan in record {
      caller = now;
      keeps = keeps r s t first.kept most first.front first.cur (omega (arith, first.steps, few)) first.idle;
      allowed = none.allowed;
      own = first.own;
      scans = none.scans;
      steps = none.count;
      full = (
          let many = many_own t.known.local now.cells (λ j within. (let at = none.names.cells.each j within in (at.0, at.1))) in
          let e = ap (λ (xs : List Linked). length xs) first.own in
          omega (arith, many, e));
      names = none.names;
      linked = first.linked;
    }
