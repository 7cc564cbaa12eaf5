-- What a caller does that has seen a place.
use Rattle.std.proofs.Common.{◌≡◌, ◌+◌, ◌<◌, ◌≤◌, inl, inr, true, ℕ, max, Bool, cond, List, [], Option, None, Some, append-nil, length, refl, ap, sym, subst, ◌∙◌, arith}
use Rattle.std.proofs.lemmas.Option.{slice_get_past}
use Rattle.std.specs.List.{slice_get}
use Rattle.std.specs.Option.{option_map}
use Rattle.cx_base.specs.Codes.{root_place_of}
use Rattle.cx_core.specs.declared.local.Answer.{Answer}
use Rattle.cx_core.specs.declared.local.Linked.{Linked}
use Rattle.cx_core.specs.declared.kinds.Kind.TheVariants.{LoadCur}
use Rattle.cx_core.specs.QueueEvents.{cell_of}
use Rattle.cx_core.specs.RootEvents.{unanswered}
use Rattle.cx_core.proofs.HeldLists.{mapped}
use Rattle.cx_core.proofs.Locals.{slice_get-last}
use Rattle.cx_core.proofs.RootCodes.{place_up}
use Rattle.table_invariant.specs.Raises.{AnswersOf, TellsAnswers, known_answered}
use Rattle.table_invariant.specs.Running.{IsSeatOf, Running, instance_at}
use Rattle.table_invariant.specs.Seats.{IsAtLimit, Seated, images_of, stepped}
use Rattle.cx_service.specs.Callers.{IsCallerOf}
use Rattle.cx_base.specs.declared.object.Object.{Ghosts}
use Rattle.cx_service.specs.Checkpoints.{CheckpointTaken}
use Rattle.cx_service.specs.CatchUps.{CatchUpKeeps, CatchUpSees, CatchesUp, HasSeen, ReadSees, SeesCurrent, UpdateSees}
use Rattle.cx_service.specs.declared.catch_up.CaughtUp.{CaughtUp}
use Rattle.cx_service.specs.declared.catch_up.CaughtUp.TheVariants.{Caught, Behind, Halted}
use Rattle.cx_service.specs.declared.update.ReadDone.{ReadDone}
use Rattle.cx_service.specs.declared.update.ReadDone.TheVariants.{Read, Queued, Full as FullRead, Worn as WornRead, Halted as HaltedRead}
use Rattle.cx_service.specs.declared.update.Updated.{Updated}
use Rattle.cx_service.specs.declared.update.Updated.TheVariants.{Done as UpdatedDone, Full as UpdatedFull, Worn as UpdatedWorn, Halted as UpdatedHalted}
use Rattle.cx_service.specs.Drives.{DriveDone, answer_with}
use Rattle.cx_service.specs.Lookups.{ReadAnswered, ReadKeeps, seen_with}
use Rattle.cx_service.specs.Submits.{SubmitKeeps, SubmitLinked, next_entry}
use Rattle.cx_service.specs.Updates.{KeepsLists, ReadQueues, ReadOutcome, UpdateDone, Updates}
use Rattle.cx_service.proofs.Cells.{own_kept}
use Rattle.cx_attempts.specs.declared.lookup.Seen.{Seen}

module _ {O : Type 0} (r : Running O) (op : List ℕ) (before after : Seated) where
  -- an own entry that was answered is below the front
  pub done_front : (answer : Answer) → UpdateDone r op before after answer → answer.ticket < after.known.local.front
  done_front answer done =
      let l = before.known.local in
      let x : Linked = next_entry r l op answer.ticket in
      let at : slice_get after.known.local.own (length l.own) ≡ Some x = ap (λ (xs : List Linked). slice_get xs (length l.own)) done.links.own ∙ slice_get-last l.own x in
      done.caller.cells.to (length l.own) x at

  done_answer : (answer : Answer) → UpdateDone r op before after answer → slice_get after.known.local.answered (length before.known.local.answered) ≡ Some answer
  done_answer answer done = ap (λ (xs : List Answer). slice_get xs (length before.known.local.answered)) done.answered ∙ slice_get-last before.known.local.answered answer

  -- a caller has seen each place up to the one behind the ticket of its answered update
  pub answered_seen : (answer : Answer) → UpdateDone r op before after answer → HasSeen r.callers (answer.ticket + 1) after.known.local
  answered_seen answer done = record {
    front = (let below = done_front answer done in omega (arith, below));
    read = inr (length before.known.local.answered, answer, done_answer answer done, omega arith);
  }

  -- an update is answered at a ticket at or above each place that its caller had seen
  pub update_behind : (place : ℕ) (answer : Answer) → HasSeen r.callers place before.known.local → UpdateDone r op before after answer → (place ≤ answer.ticket) × HasSeen r.callers place after.known.local
  update_behind place answer seen done =
      let front = seen.front in
      let from = done.from in
      let below = done_front answer done in (
        omega (arith, front, from),
        record { front = omega (arith, front, from, below); read = inr (length before.known.local.answered, answer, done_answer answer done, omega (arith, front, from)) },
      )

  -- a read is answered at a place at or above each that its caller had seen
  pub read_behind : (place : ℕ) (seen : Seen) → HasSeen r.callers place before.known.local → ReadAnswered r op before after seen → (place ≤ seen.place) × HasSeen r.callers place after.known.local
  read_behind place seen was read =
      let caller = read.caller.of.caller in
      let rises = place_up r.callers before.known.local.seen_cur after.known.local.seen_cur (omega (arith, caller)) read.keeps.cur in
      let at = read.place in
      let above : place ≤ seen.place = elim was.read [
        | inl cur ↦ omega (arith, cur, rises, at)
        | inr one ↦ (let lower = read.above one.0 one.1 one.2 in let behind = one.3 in omega (arith, lower, behind))
      ] in
      (above, record { front = (let a = was.front in let b = read.keeps.front in omega (arith, a, b)); read = inl (omega (arith, above, at)) })

  -- a caller has seen the place of its answered read
  pub answered_read_seen : (seen : Seen) → ReadAnswered r op before after seen → HasSeen r.callers seen.place after.known.local
  answered_read_seen seen read = record { front = read.reached; read = inl (let at = read.place in omega (arith, at)) }

module _ {O : Type 0} (o : Ghosts O) (r : Running O) (words : List ℕ) (at : ℕ) (before after : Seated) (taken : CheckpointTaken o r words at before after) where
  -- an image is taken at a place at or above each that its caller had seen
  pub image_behind : (place : ℕ) → HasSeen r.callers place before.known.local → (place ≤ at) × HasSeen r.callers place after.known.local
  image_behind place was =
      let caller = taken.caller.of.caller in
      let rises = place_up r.callers before.known.local.seen_cur after.known.local.seen_cur (omega (arith, caller)) taken.keeps.lists.cur in
      let is = taken.current in
      let above : place ≤ at = elim was.read [
        | inl cur ↦ omega (arith, cur, rises, is)
        | inr one ↦ (let lower = taken.above one.0 one.1 one.2 in let behind = one.3 in omega (arith, lower, behind))
      ] in
      (above, record { front = (let a = was.front in let b = taken.keeps.lists.front in omega (arith, a, b)); read = inl (omega (arith, above, is)) })

  pub image_seen : HasSeen r.callers at after.known.local
  image_seen = record { front = taken.reached; read = inl (let is = taken.current in omega (arith, is)) }

-- what was seen has been seen still where neither the front nor the code found in CUR fell and the answers are as they were
still_seen : {O : Type 0} (r : Running O) (place : ℕ) (before after : Seated) → IsCallerOf r before → HasSeen r.callers place before.known.local → before.known.local.front ≤ after.known.local.front →
    before.known.local.seen_cur ≤ after.known.local.seen_cur → after.known.local.answered ≡ before.known.local.answered → HasSeen r.callers place after.known.local
still_seen r place before after caller was front cur answered =
    let number = caller.of.caller in
    let rises = place_up r.callers before.known.local.seen_cur after.known.local.seen_cur (omega (arith, number)) cur in
    record {
      front = (let a = was.front in omega (arith, a, front));
      read = elim was.read [
        | inl seen ↦ inl (omega (arith, seen, rises))
        | inr one ↦ inr (one.0, one.1, ap (λ (xs : List Answer). slice_get xs one.0) answered ∙ one.2, one.3)
      ];
    }

pub submit_linked_behind : {O : Type 0} (r : Running O) (op : List ℕ) (most place : ℕ) (before after : Seated) → HasSeen r.callers place before.known.local → (links : SubmitLinked r op most before after) → place ≤ links.ticket
submit_linked_behind r op most place before after was links = (let front = was.front in let from = links.from in omega (arith, front, from))

pub submit_seen : {O : Type 0} (r : Running O) (most place : ℕ) (before after : Seated) → IsCallerOf r before → HasSeen r.callers place before.known.local → SubmitKeeps most before after → HasSeen r.callers place after.known.local
submit_seen r most place before after caller was keeps = still_seen r place before after caller was keeps.front keeps.cur keeps.answered

pub read_seen : {O : Type 0} (r : Running O) (place : ℕ) (before after : Seated) → IsCallerOf r before → HasSeen r.callers place before.known.local → ReadKeeps before after → HasSeen r.callers place after.known.local
read_seen r place before after caller was keeps = still_seen r place before after caller was keeps.front keeps.cur keeps.answered

-- where nothing was linked or answered
pub lists_seen : {O : Type 0} (r : Running O) (place : ℕ) (before after : Seated) → IsCallerOf r before → HasSeen r.callers place before.known.local → KeepsLists before after → HasSeen r.callers place after.known.local
lists_seen r place before after caller was keeps = still_seen r place before after caller was keeps.front keeps.cur keeps.answered

pub catch_up_seen : {O : Type 0} (r : Running O) (place : ℕ) (before after : Seated) → IsCallerOf r before → HasSeen r.callers place before.known.local → CatchUpKeeps before after → HasSeen r.callers place after.known.local
catch_up_seen r place before after caller was keeps = still_seen r place before after caller was keeps.front keeps.cur keeps.answered

-- unless its limit stopped it, a caller has seen after an update what it had seen before, and an update that is done stands at or above that
pub update_sees : {O : Type 0} (r : Running O) (op reply : List ℕ) (place : ℕ) (before : Seated) (updated : Updated) → IsCallerOf r before → HasSeen r.callers place before.known.local → Updates r op reply before updated →
    UpdateSees r.callers place updated
update_sees r op reply place before (UpdatedDone after ticket) caller was done = update_behind r op before after place (answer_with ticket reply) was done
update_sees r op reply place before (UpdatedFull after note) caller was full = lists_seen r place before after caller was full.keeps
update_sees r op reply place before (UpdatedWorn after) caller was worn = lists_seen r place before after caller was worn.keeps
update_sees r op reply place before (UpdatedHalted after) caller was halted = tt

pub queued_sees : {O : Type 0} (r : Running O) (op reply : List ℕ) (place : ℕ) (before : Seated) (updated : Updated) → IsCallerOf r before → HasSeen r.callers place before.known.local → ReadQueues r op reply before updated →
    UpdateSees r.callers place updated
queued_sees r op reply place before updated caller was queues =
    update_sees r op reply place queues.refused updated queues.pending.caller (still_seen r place before queues.refused caller was queues.pending.keeps.front queues.pending.keeps.cur queues.pending.keeps.answered) queues.entered

-- unless its limit stopped it, a caller has seen after a read what it had seen before, and a read that is answered stands at or above that
pub read_sees : {O : Type 0} (r : Running O) (op reply : List ℕ) (place : ℕ) (before : Seated) (done : ReadDone) → IsCallerOf r before → HasSeen r.callers place before.known.local → ReadOutcome r op reply before done →
    ReadSees r.callers place done
read_sees r op reply place before (Read after at) caller was read = read_behind r op before after place (seen_with at reply) was read.0
read_sees r op reply place before (Queued after ticket) caller was queues = queued_sees r op reply place before (UpdatedDone after ticket) caller was queues
read_sees r op reply place before (FullRead after note) caller was queues = queued_sees r op reply place before (UpdatedFull after note) caller was queues
read_sees r op reply place before (WornRead after) caller was queues = queued_sees r op reply place before (UpdatedWorn after) caller was queues
read_sees r op reply place before (HaltedRead after) caller was stops = tt

-- unless its limit stopped it, a caller has seen after it caught up what it had seen before
pub catch_up_sees : {O : Type 0} (r : Running O) (other place : ℕ) (before : Seated) (caught : CaughtUp) → IsCallerOf r before → HasSeen r.callers place before.known.local → CatchesUp r other before caught →
    CatchUpSees r.callers place caught
catch_up_sees r other place before (Caught after) caller was caught = catch_up_seen r place before after caller was caught.keeps
catch_up_sees r other place before (Behind after found) caller was behind = catch_up_seen r place before after caller was behind.keeps
catch_up_sees r other place before (Halted after) caller was halted = tt

-- an unanswered entry is an own one
own_unanswered : (own : List Linked) (n ticket : ℕ) → option_map (λ (x : Linked). x.ticket) (slice_get own n) ≡ Some ticket → (x : Linked) × (slice_get own n ≡ Some x) × (x.ticket ≡ ticket)
own_unanswered own n ticket is = (let m = mapped (λ (x : Linked). x.ticket) (slice_get own n) ticket is in (m.0, m.1, m.2))

-- the ticket of an entry that was driven to its answer is below the front
pub driven_front : {O : Type 0} (r : Running O) (before after : Seated) (answer : Answer) → DriveDone r before after answer → answer.ticket < after.known.local.front
driven_front r before after answer done =
    let x = own_unanswered before.known.local.own (length before.known.local.answered) answer.ticket done.ticket in
    let below = done.caller.cells.to (length before.known.local.answered) x.0 (ap (λ (xs : List Linked). slice_get xs (length before.known.local.answered)) done.keeps.own ∙ x.1) in
    let same = x.2 in
    omega (arith, below, same)

pub driven_seen : {O : Type 0} (r : Running O) (place : ℕ) (before after : Seated) (answer : Answer) → place ≤ answer.ticket + 1 → DriveDone r before after answer → HasSeen r.callers place after.known.local
driven_seen r place before after answer low done =
    let x = own_unanswered before.known.local.own (length before.known.local.answered) answer.ticket done.ticket in
    let below = done.caller.cells.to (length before.known.local.answered) x.0 (ap (λ (xs : List Linked). slice_get xs (length before.known.local.answered)) done.keeps.own ∙ x.1) in
    let same = x.2 in
    record {
      front = omega (arith, low, below, same);
      read = inr (length before.known.local.answered, answer, ap (λ (xs : List Answer). slice_get xs (length before.known.local.answered)) done.answered ∙ slice_get-last before.known.local.answered answer, low);
    }

-- A caller loaded CUR, and raised DUR by the code found, which answered nothing.
module _ {O : Type 0} (r : Running O) (step : O → List ℕ → List ℕ → List ℕ × List ℕ) (reads : O → List ℕ → Bool) (s mid v : Seated) (code : ℕ) (caller : IsCallerOf r s)
    (loaded : mid ≡ stepped (instance_at r step reads) LoadCur s code) where
  mid_own : mid.known.local.own ≡ s.known.local.own
  mid_own = ap (λ (x : Seated). x.known.local.own) loaded

  mid_answered : mid.known.local.answered ≡ s.known.local.answered
  mid_answered = ap (λ (x : Seated). x.known.local.answered) loaded

  -- a raise answers nothing, since each entry of the caller is answered
  pub tells_nothing : (lines : ℕ) (lawful : List ℕ → Type 0) (place : ℕ) → TellsAnswers lines lawful r.base (step r.object) mid.known place []
  tells_nothing lines lawful place =
      let own = ap (λ (xs : List Linked). length xs) mid_own in
      let answered = ap (λ (xs : List Answer). length xs) mid_answered in
      let count = caller.count in
      let none : unanswered mid.known.local ≡ None = slice_get_past mid.known.local.own (length mid.known.local.answered) (omega (arith, own, answered, count)) in
      subst (λ (o : Option Linked). AnswersOf lines lawful r.base (step r.object) mid.known place o []) (sym none) refl

  module _ (most : s.known.local.seen_cur ≤ code) (raised : v ≡ record mid { known = known_answered (instance_at r step reads) code [] None mid.known }) where
    own_still : v.known.local.own ≡ s.known.local.own
    own_still = ap (λ (x : Seated). x.known.local.own) raised ∙ mid_own

    answered_same : v.known.local.answered ≡ s.known.local.answered
    answered_same = ap (λ (x : Seated). x.known.local.answered) raised ∙ append-nil mid.known.local.answered ∙ mid_answered

    cur_is : v.known.local.seen_cur ≡ code
    cur_is = ap (λ (x : Seated). x.known.local.seen_cur) raised ∙ ap (λ (x : Seated). x.known.local.seen_cur) loaded

    front_is : v.known.local.front ≡ max s.known.local.front (root_place_of r.callers code)
    front_is = ap (λ (x : Seated). x.known.local.front) raised ∙ ap (λ (x : Seated). x.known.local.front) loaded

    pub current_keeps : CatchUpKeeps s v
    current_keeps = record {
      number = ap (λ (x : Seated). x.known.local.number) raised ∙ ap (λ (x : Seated). x.known.local.number) loaded;
      limit = ap (λ (x : Seated). x.known.local.limit) raised ∙ ap (λ (x : Seated). x.known.local.limit) loaded;
      own = own_still;
      answered = answered_same;
      reads = ap (λ (x : Seated). x.known.local.seen_reads) raised ∙ append-nil mid.known.local.seen_reads ∙ ap (λ (x : Seated). x.known.local.seen_reads) loaded;
      met = ap (λ (x : Seated). x.known.local.met) raised ∙ ap (λ (x : Seated). x.known.local.met) loaded;
      scans = ap (λ (x : Seated). x.known.local.scans) raised ∙ ap (λ (x : Seated). x.known.local.scans) loaded;
      cur = (let is = cur_is in omega (arith, is, most));
      front = (let is = front_is in omega (arith, is));
      steps = (let second = ap (λ (x : Seated). x.known.local.steps) raised in let first = ap (λ (x : Seated). x.known.local.steps) loaded in omega (arith, first, second));
      times = record {
        linked = ap (λ (x : Seated). x.known.times.linked) raised ∙ ap (λ (x : Seated). x.known.times.linked) loaded;
        answered = ap (λ (x : Seated). x.known.times.answered) raised ∙ append-nil mid.known.times.answered ∙ ap (λ (x : Seated). x.known.times.answered) loaded;
        reads = ap (λ (x : Seated). x.known.times.reads) raised ∙ append-nil mid.known.times.reads ∙ ap (λ (x : Seated). x.known.times.reads) loaded;
      };
      sets = ap (λ (x : Seated). x.known.sets) raised ∙ ap (λ (x : Seated). x.known.sets) loaded;
      images = ap (λ (x : Seated). images_of x.known) raised ∙ ap (λ (x : Seated). images_of x.known) loaded;
    }

    pub current_sets : v.known.sets ≡ s.known.sets
    current_sets = ap (λ (x : Seated). x.known.sets) raised ∙ ap (λ (x : Seated). x.known.sets) loaded

    still_cell : (j : ℕ) → (cell_of v.known.local j).ticket ≡ (cell_of s.known.local j).ticket
    still_cell j = ap (λ (x : Seated). (cell_of x.known.local j).ticket) raised ∙ ap (λ (x : Seated). (cell_of x.known.local j).ticket) loaded

    pub current_seen : (found : ℕ) → IsSeatOf r v → ¬ IsAtLimit s.known.local → found ≡ root_place_of r.callers code → SeesCurrent r s v found
    current_seen found of allowed is =
        let front = front_is in
        let rises : s.known.local.front ≤ v.known.local.front = omega (arith, front) in
        let placed : found ≡ root_place_of r.callers v.known.local.seen_cur = is ∙ ap (root_place_of r.callers) (sym cur_is) in
        record {
          caller = record {
            of = of;
            rest = record {
              exclusive = ap (λ (x : Seated). x.known.local.exclusive) raised ∙ ap (λ (x : Seated). x.known.local.exclusive) loaded ∙ caller.rest.exclusive;
              shared = ap (λ (x : Seated). x.known.local.shared) raised ∙ ap (λ (x : Seated). x.known.local.shared) loaded ∙ caller.rest.shared;
              passer = ap (λ (x : Seated). x.known.local.passer) raised ∙ ap (λ (x : Seated). x.known.local.passer) loaded ∙ caller.rest.passer;
              downgraded = ap (λ (x : Seated). x.known.local.downgraded) raised ∙ ap (λ (x : Seated). x.known.local.downgraded) loaded ∙ caller.rest.downgraded;
              won = ap (λ (x : Seated). x.known.local.won) raised ∙ ap (λ (x : Seated). x.known.local.won) loaded ∙ caller.rest.won;
              protection = ap (λ (x : Seated). x.known.local.protection) raised ∙ ap (λ (x : Seated). x.known.local.protection) loaded ∙ caller.rest.protection;
              scan = ap (λ (x : Seated). x.known.local.scan) raised ∙ ap (λ (x : Seated). x.known.local.scan) loaded ∙ caller.rest.scan;
              refused = ap (λ (x : Seated). x.known.local.refused) raised ∙ ap (λ (x : Seated). x.known.local.refused) loaded ∙ caller.rest.refused;
              fresh = ap (λ (x : Seated). x.known.local.fresh) raised;
            };
            count = (let own = ap (λ (xs : List Linked). length xs) own_still in let answered = ap (λ (xs : List Answer). length xs) answered_same in let count = caller.count in omega (arith, own, answered, count));
            front = (let from = caller.front in omega (arith, from, rises));
            cells = own_kept s.known.local v.known.local caller.cells own_still rises (λ j t at. sym (still_cell j) ∙ at);
          };
          allowed = allowed;
          made = (let second = ap (λ (x : Seated). x.known.local.steps) raised in let first = ap (λ (x : Seated). x.known.local.steps) loaded in omega (arith, first, second));
          finds = record {
            loaded = (
                let second = ap (λ (x : Seated). x.known.times.loaded) raised in
                let first = ap (λ (x : Seated). x.known.times.loaded) loaded ∙ ap (λ (b : Bool). cond b s.known.times.loaded s.known.local.steps) caller.rest.fresh in
                omega (arith, first, second));
            seen = ap (λ (x : Seated). x.known.times.seen) raised ∙ ap (λ (x : Seated). x.known.times.seen) loaded ∙ ap (λ (b : Bool). cond b s.known.times.seen true) caller.rest.fresh;
            raised = (let is_raised = ap (λ (x : Seated). x.known.local.raised) raised in let is = cur_is in omega (arith, is_raised, is));
          };
          is = placed;
          seen = record { front = omega (arith, front, is); read = inl (omega (arith, placed)) };
        }
