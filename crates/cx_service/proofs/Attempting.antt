-- What attempts for an entry, and for a read, leave of their caller, and what turns come to one after another.
use Rattle.std.proofs.Common.{◌≡◌, ◌+◌, ◌<◌, ◌≤◌, ◌⊎◌, inl, inr, ℕ, List, [], ◌∷◌, ◌++◌, length, map, refl, ap, sym, subst, ◌∙◌, arith, Some, None, length-append}
use Rattle.std.proofs.Math.ListN.{get_or-map}
use Rattle.std.proofs.lemmas.Bool.{cases_lt}
use Rattle.std.proofs.lemmas.Option.{slice_get_past}
use Rattle.std.specs.List.{slice_get}
use Rattle.std.specs.Prelude.{slice_index_or}
use Rattle.std.specs.Option.{option_map}
use Rattle.cx_base.specs.Codes.{root_place_of}
use Rattle.cx_core.specs.declared.local.Answer.{Answer}
use Rattle.cx_core.specs.declared.local.Cell.{Cell}
use Rattle.cx_core.specs.declared.local.Linked.{Linked}
use Rattle.cx_core.specs.declared.local.SeenRead.{SeenRead}
use Rattle.cx_core.specs.Layout.{max_word}
use Rattle.cx_core.specs.State.{one_more}
use Rattle.table_invariant.specs.Running.{IsSeatOf, Running}
use Rattle.table_invariant.specs.Seats.{IsAtLimit, Seated, StepsBy, images_of, unanswered_ticket}
use Rattle.cx_service.specs.Callers.{IsBetweenCalls, IsCallerOf, IsLinkedOf, StoppedSeat}
use Rattle.cx_service.specs.Drives.{DriveDone, DriveHalted, DriveKeeps, DriveDue, DrivePending, MeetsAtMost, MeetsFewer, MeetsMore}
use Rattle.cx_service.specs.Lookups.{ReadAnswered, ReadDue, ReadHalted, ReadKeeps, ReadPending}
use Rattle.cx_service.proofs.Cells.{default, own_kept}
use Rattle.cx_attempts.specs.Answering.{AnswersEntry, AnswersRead, HaltsFor, HaltsLookup, unchanged_by_lookup, unchanged_by_update, with_answer, reads_with}
use Rattle.cx_attempts.specs.declared.lookup.Seen.{Seen}
use Rattle.cx_attempts.specs.Bringing.{BringsEntries}
use Rattle.cx_attempts.proofs.Bringing.{brings_around}
use Rattle.cx_attempts.specs.Attempts.{IsAtRest, StepsOn, AttemptRefused}
use Rattle.redo_replay.specs.Own.{except_set}

-- a refusal more, and refusals in turn after attempt
pub meets_one : (s v : Seated) → v.known.local.met ≡ one_more s.known.local.met → MeetsMore 1 s v
meets_one s v is =
    elim (cases_lt (s.known.local.met + 1) max_word) [
      | inl below ↦ inl (omega (arith, is, below))
      | inr above ↦ inr (omega (arith, is, above))
    ]

pub rises_one : (s v : Seated) → s.known.local.met ≤ max_word → v.known.local.met ≡ one_more s.known.local.met → s.known.local.met ≤ v.known.local.met
rises_one s v small is = omega (arith, small, is)

-- at least `n` refusals from `s` to `u`, and `m` from `u` to `v`, are at least `n + m` from `s` to `v`, unless their count is at its end
pub meets_then : (n m : ℕ) (s u v : Seated) → MeetsMore n s u → MeetsMore m u v → MeetsMore (n + m) s v
meets_then n m s u v (inl a) (inl b) = inl (omega (arith, a, b))
meets_then n m s u v (inr a) (inl b) = inr (omega (arith, a, b))
meets_then n m s u v a (inr b) = inr b

pub most_one : (s v : Seated) → v.known.local.met ≡ one_more s.known.local.met → MeetsAtMost 1 s v
most_one s v is = omega (arith, is)

-- cells that differ in their sets and offers alone have the same tickets
same_tickets : (xs ys : List Cell) → map except_set xs ≡ map except_set ys → (j : ℕ) → (slice_index_or xs j default).ticket ≡ (slice_index_or ys j default).ticket
same_tickets xs ys same j =
    ap (λ (c : Cell). c.ticket) (sym (get_or-map except_set xs j default))
    ∙ ap (λ (cs : List Cell). (slice_index_or cs j default).ticket) same
    ∙ ap (λ (c : Cell). c.ticket) (get_or-map except_set ys j default)

-- a caller of which turns left the entries as they were, and the cells but for their sets and offers, and of whose answers there are so many
pub between_after : {O : Type 0} (r : Running O) (n m : ℕ) (s v : Seated) → IsBetweenCalls n r s → v.known.local.own ≡ s.known.local.own → map except_set v.known.local.cells ≡ map except_set s.known.local.cells →
    s.known.local.front ≤ v.known.local.front → IsSeatOf r v → IsAtRest v.known.local → length v.known.local.answered + m ≡ length s.known.local.answered + n → IsBetweenCalls m r v
between_after r n m s v was own cells front of rest answered = record {
  of = of;
  rest = rest;
  count = (let long = ap (λ (xs : List Linked). length xs) own in omega (arith, long, answered, was.count));
  front = omega (arith, was.front, front);
  cells = own_kept s.known.local v.known.local was.cells own front (λ j t at. sym (same_tickets v.known.local.cells s.known.local.cells cells j) ∙ at);
}

module _ {O : Type 0} (r : Running O) (s v : Seated) (linked : IsLinkedOf r s) (rest : unchanged_by_update v ≡ unchanged_by_update s) (front : s.known.local.front ≤ v.known.local.front) (of : IsSeatOf r v) (since : StepsOn s v) where
  drive_keeps : s.known.local.met ≤ v.known.local.met → DriveKeeps s v
  drive_keeps met = record {
    number = ap (λ (x : Seated). x.known.local.number) rest;
    limit = ap (λ (x : Seated). x.known.local.limit) rest;
    own = ap (λ (x : Seated). x.known.local.own) rest;
    reads = ap (λ (x : Seated). x.known.local.seen_reads) rest;
    linked = ap (λ (x : Seated). x.known.times.linked) rest;
    read = ap (λ (x : Seated). x.known.times.reads) rest;
    images = ap (λ (x : Seated). images_of x.known) rest;
    met = met;
    since = since;
  }

  stands : (m : ℕ) → IsAtRest v.known.local → length v.known.local.answered + m ≡ length s.known.local.answered + 1 → IsBetweenCalls m r v
  stands m at answered =
      between_after r 1 m s v linked (ap (λ (x : Seated). x.known.local.own) rest) (ap (λ (x : Seated). x.known.local.cells) rest) front of at answered

  pub attempt_done : (ticket : ℕ) (reply : List ℕ) → unanswered_ticket s.known.local ≡ Some ticket → ¬ IsAtLimit s.known.local → BringsEntries s v → AnswersEntry 1 ticket reply s v → DriveDone r s v (record { ticket = ticket; reply = reply })
  attempt_done ticket reply is allowed brought answers = record {
    caller = stands 0 answers.rest (ap (λ (xs : List Answer). length xs + 0) answers.answered ∙ ap (λ n. n + 0) (length-append s.known.local.answered _) ∙ zero_more (length s.known.local.answered + 1));
    keeps = drive_keeps answers.met;
    allowed = allowed;
    ticket = is;
    answered = answers.answered;
    brought = brought;
    ended = answers.ended;
  }
    where
      zero_more : (n : ℕ) → n + 0 ≡ n
      zero_more n = omega arith

  pub attempt_refused : ¬ IsAtLimit s.known.local → s.known.local.met ≤ max_word → v.known.sets ≡ s.known.sets → AttemptRefused s v → DrivePending r 1 s v
  attempt_refused allowed small sets refused = record {
    caller = stands 1 refused.rest (ap (λ (xs : List Answer). length xs + 1) refused.refusal.answered);
    keeps = drive_keeps (rises_one s v small refused.refusal.met);
    allowed = allowed;
    answered = refused.refusal.answered;
    sets = sets;
    ended = refused.refusal.times.answered;
    met = meets_one s v refused.refusal.met;
    most = most_one s v refused.refusal.met;
  }

  pub attempt_halted : (ticket : ℕ) → unanswered_ticket s.known.local ≡ Some ticket → HaltsFor r.callers ticket s v → (let h : StoppedSeat = record { seat = v; linked = Some ticket } in DriveHalted r s h × DriveDue r 1 s h)
  attempt_halted ticket is halts = (
    record {
      caller = record { of = of; limit = halts.limit };
      keeps = drive_keeps halts.counted;
      ticket = ticket;
      is = is;
      linked = refl;
      answered = elim halts.answered [ inl none ↦ inl none.same | inr one ↦ inr (one.0, one.1.is, one.2) ];
      ended = elim halts.answered [ inl none ↦ inl none.times | inr one ↦ inr one.1.ended ];
    },
    record {
      most = halts.most;
      due = λ none. elim (halts.due none) [ inl same ↦ inl (omega (arith, same)) | inr above ↦ inr (ticket, refl, above) ];
    },
  )

-- attempts after others, in each of which a refusal was met
module _ {O : Type 0} (r : Running O) (n : ℕ) (s u : Seated) (before : DrivePending r n s u) where
  keeps_then : (v : Seated) → DriveKeeps u v → DriveKeeps s v
  keeps_then v k = record { number = k.number ∙ before.keeps.number; limit = k.limit ∙ before.keeps.limit; own = k.own ∙ before.keeps.own; reads = k.reads ∙ before.keeps.reads; linked = k.linked ∙ before.keeps.linked; read = k.read ∙ before.keeps.read; images = k.images ∙ before.keeps.images; met = omega (arith, before.keeps.met, k.met); since = omega (arith, before.keeps.since, k.since) }

  same_ticket : unanswered_ticket s.known.local ≡ unanswered_ticket u.known.local
  same_ticket =
      ap (λ (xs : List Linked). option_map (λ (x : Linked). x.ticket) (slice_get xs (length s.known.local.answered))) (sym before.keeps.own)
      ∙ ap (λ (as_ : List Answer). option_map (λ (x : Linked). x.ticket) (slice_get u.known.local.own (length as_))) (sym before.answered)

  -- `m` refused attempts behind the `n` before leave the entry unanswered from `s` to `v`, with `n + m` refusals met
  pending_then : (m : ℕ) (v : Seated) → DrivePending r m u v → DrivePending r (n + m) s v
  pending_then m v p = record {
    caller = p.caller;
    keeps = keeps_then v p.keeps;
    allowed = before.allowed;
    answered = p.answered ∙ before.answered;
    sets = p.sets ∙ before.sets;
    ended = p.ended ∙ before.ended;
    met = meets_then n m s u v before.met p.met;
    most = omega (arith, before.most, p.most);
  }

  done_then : (v : Seated) (answer : Answer) → DriveDone r u v answer → DriveDone r s v answer
  done_then v answer d = record {
    caller = d.caller;
    keeps = keeps_then v d.keeps;
    allowed = before.allowed;
    ticket = same_ticket ∙ d.ticket;
    answered = d.answered ∙ ap (with_answer answer.ticket answer.reply) before.answered;
    brought = brings_around s u v v before.sets d.brought refl;
    ended = record { at = d.ended.at; to = d.ended.to; is = d.ended.is ∙ ap (λ ts. ts ++ d.ended.at ∷ []) before.ended };
  }

  halted_then : (v : StoppedSeat) → DriveHalted r u v → DriveHalted r s v
  halted_then v h = record {
    caller = h.caller;
    keeps = keeps_then v.seat h.keeps;
    ticket = h.ticket;
    is = same_ticket ∙ h.is;
    linked = h.linked;
    answered = elim h.answered [
      | inl none ↦ inl (none ∙ before.answered)
      | inr one ↦ inr (one.0, one.1 ∙ ap (with_answer h.ticket one.0) before.answered, one.2)
    ];
    ended = elim h.ended [
      | inl none ↦ inl (none ∙ before.ended)
      | inr one ↦ inr (record { at = one.at; to = one.to; is = one.is ∙ ap (λ ts. ts ++ one.at ∷ []) before.ended })
    ];
  }

-- n attempts were made, where n may be 0, and in each a refusal was met
pub record DrivesOn {O : Type 0} (r : Running O) (n : ℕ) (s u : Seated) : Type 0 where
  pub caller : IsLinkedOf r u
  pub attempts : ((n ≡ 0) × (u ≡ s)) ⊎ DrivePending r n s u

module _ {O : Type 0} (r : Running O) (n : ℕ) (s u : Seated) (on : DrivesOn r n s u) where
  -- `m` refused attempts behind `n`, of which there may be none, are `n + m` attempts from the first seat `s` on
  drives_then : (m : ℕ) (v : Seated) → DrivePending r m u v → DrivesOn r (n + m) s v
  drives_then m v p = record {
    caller = p.caller;
    attempts = elim on.attempts [
      | inl none ↦ (let all : m ≡ n + m = (let zero = none.0 in omega (arith, zero)) in inr (subst (λ k. DrivePending r k s v) all (subst (λ x. DrivePending r m x v) none.1 p)))
      | inr some ↦ inr (pending_then r n s u some m v p)
    ];
  }

  -- at most as many refusals
  drives_met : MeetsAtMost n s u
  drives_met = elim on.attempts [ inl none ↦ (let same = ap (λ (x : Seated). x.known.local.met) none.1 in omega (arith, same)) | inr some ↦ some.most ]

  done_on : (v : Seated) (answer : Answer) → DriveDone r u v answer → DriveDone r s v answer
  done_on v answer d = elim on.attempts [ inl none ↦ subst (λ x. DriveDone r x v answer) none.1 d | inr some ↦ done_then r n s u some v answer d ]

  pub drives_done : (tries : ℕ) (v : Seated) (answer : Answer) → n < tries → DriveDone r u v answer × MeetsAtMost 1 u v → DriveDone r s v answer × MeetsAtMost tries s v
  drives_done tries v answer more d = (let few = d.1 in (done_on v answer d.0, omega (arith, drives_met, few, more)))

  halted_on : (v : StoppedSeat) → DriveHalted r u v → DriveHalted r s v
  halted_on v h = elim on.attempts [ inl none ↦ subst (λ x. DriveHalted r x v) none.1 h | inr some ↦ halted_then r n s u some v h ]

  pub drives_halted : (tries : ℕ) (v : StoppedSeat) → n < tries → DriveHalted r u v × DriveDue r 1 u v → DriveHalted r s v × DriveDue r tries s v
  drives_halted tries v more h = (
    halted_on v h.0,
    record {
      most = (let few = h.1.most in omega (arith, drives_met, few, more));
      due = λ none. elim (h.1.due none) [ inl few ↦ inl (omega (arith, drives_met, few, more)) | inr raise ↦ inr raise ];
    },
  )

-- attempts that are begun again
pub record DrivesAgain {O : Type 0} (r : Running O) (s u : Seated) : Type 0 where
  pub attempts : ℕ
  pub on : DrivesOn r attempts s u

-- attempts that are begun again go on to `v` by `m` more, each with a refusal
pub again_more : {O : Type 0} (r : Running O) (m : ℕ) (s u v : Seated) → DrivesAgain r s u → DrivePending r m u v → DrivesAgain r s v
again_more r m s u v again p = record { attempts = again.attempts + m; on = drives_then r again.attempts s u again.on m v p }

-- where attempts that are begun again answer the entry from `u` on, it is answered from the first seat `s` on
pub again_done : {O : Type 0} (r : Running O) (s u v : Seated) (answer : Answer) → DrivesAgain r s u → DriveDone r u v answer → DriveDone r s v answer
again_done r s u v answer again d = done_on r again.attempts s u again.on v answer d

-- where attempts that are begun again halt at the limit from `u` on, the drive has halted from the first seat `s` on
pub again_halted : {O : Type 0} (r : Running O) (s u : Seated) (v : StoppedSeat) → DrivesAgain r s u → DriveHalted r u v → DriveHalted r s v
again_halted r s u v again h = halted_on r again.attempts s u again.on v h

-- what neither an attempt for a read nor one that takes an image changes: what no raise does, but the reads and the images, and when they were taken
abbrev pub unchanged_by_look : Seated → Seated
unchanged_by_look s = (let b = unchanged_by_lookup s in record b { known = record b.known { times = record b.known.times { images = [] }; images = [] } })

-- an attempt that changes only what a read or the taking of an image changes keeps the lists, and its caller may go on
module _ {O : Type 0} (r : Running O) (s v : Seated) (caller : IsCallerOf r s) (rest : unchanged_by_look v ≡ unchanged_by_look s) (front : s.known.local.front ≤ v.known.local.front) (of : IsSeatOf r v) (rises : s.known.local.seen_cur ≤ v.known.local.seen_cur) (since : StepsOn s v) where
  pub look_keeps : s.known.local.met ≤ v.known.local.met → ReadKeeps s v
  look_keeps met = record {
    number = ap (λ (x : Seated). x.known.local.number) rest;
    limit = ap (λ (x : Seated). x.known.local.limit) rest;
    own = ap (λ (x : Seated). x.known.local.own) rest;
    answered = ap (λ (x : Seated). x.known.local.answered) rest;
    scans = ap (λ (x : Seated). x.known.local.scans) rest;
    sets = ap (λ (x : Seated). x.known.sets) rest;
    front = front;
    cur = rises;
    met = met;
    since = since;
    linked = ap (λ (x : Seated). x.known.times.linked) rest;
    ended = ap (λ (x : Seated). x.known.times.answered) rest;
  }

  pub look_rests : IsAtRest v.known.local → IsCallerOf r v
  look_rests at =
      between_after r 0 0 s v caller (ap (λ (x : Seated). x.known.local.own) rest) (ap (λ (x : Seated). map except_set x.known.local.cells) rest) front of at
      (ap (λ (x : Seated). length x.known.local.answered + 0) rest)

-- what attempts for a read leave of a caller, whether they answer the read or not
module _ {O : Type 0} (r : Running O) (op : List ℕ) (s v : Seated) (caller : IsCallerOf r s) (rest : unchanged_by_lookup v ≡ unchanged_by_lookup s) (front : s.known.local.front ≤ v.known.local.front) (of : IsSeatOf r v) (rises : s.known.local.seen_cur ≤ v.known.local.seen_cur) (on : StepsOn s v) where
  look_rest : unchanged_by_look v ≡ unchanged_by_look s
  look_rest = ap (λ (x : Seated). (let y : Seated = record x { known = record x.known { times = record x.known.times { images = [] }; images = [] } } in y)) rest

  read_keeps : s.known.local.met ≤ v.known.local.met → ReadKeeps s v
  read_keeps met = look_keeps r s v caller look_rest front of rises on met

  still : IsAtRest v.known.local → IsCallerOf r v
  still = look_rests r s v caller look_rest front of rises on

  pub read_done : (seen : Seen) → ¬ IsAtLimit s.known.local → AnswersRead s.known.local.steps op seen.place seen.reply s v → seen.place ≡ root_place_of r.callers v.known.local.seen_cur → seen.place ≤ v.known.local.front → ReadAnswered r op s v seen
  read_done seen allowed answers placed reached = record {
    caller = still answers.rest;
    keeps = read_keeps (let same = answers.met in omega (arith, same));
    allowed = allowed;
    reads = answers.reads;
    place = placed;
    reached = reached;
    above = answers.above;
    from = answers.from;
    times = record { begun = s.known.local.steps; ended = answers.times.ended; from = omega arith; to = answers.times.to; is = answers.times.is };
    images = ap (λ (x : Seated). images_of x.known) rest;
  }

  pub read_refused : ¬ IsAtLimit s.known.local → s.known.local.met ≤ max_word → AttemptRefused s v × StepsBy 4 s v × StepsOn s v → ReadPending r 1 s v
  read_refused allowed small (refused, steps, _) = record {
    caller = still refused.rest;
    keeps = read_keeps (rises_one s v small refused.refusal.met);
    allowed = allowed;
    reads = refused.refusal.reads;
    met = meets_one s v refused.refusal.met;
    most = most_one s v refused.refusal.met;
    steps = steps;
    times = refused.refusal.times.reads;
    images = ap (λ (x : Seated). images_of x.known) rest;
  }

  pub read_ended : HaltsLookup s.known.local.steps op s v → ReadHalted r op s (record { seat = v; linked = None }) × ReadDue 1 s v
  read_ended h = (
    record {
      caller = record { of = of; limit = h.halts.limit };
      linked = refl;
      keeps = read_keeps h.halts.counted;
      reads = elim h.reads [ inl none ↦ inl none.same | inr one ↦ inr (one.0, one.1, one.2, one.4) ];
      times = elim h.reads [ inl none ↦ inl none.times | inr one ↦ inr (record { begun = s.known.local.steps; ended = one.3.ended; from = omega arith; to = one.3.to; is = one.3.is }) ];
      images = ap (λ (x : Seated). images_of x.known) rest;
    },
    record { most = h.halts.most; due = λ none. (let same = h.halts.due none in omega (arith, same)) },
  )

-- a caller without an unanswered entry
pub all_answered : {O : Type 0} (r : Running O) (s : Seated) → IsCallerOf r s → unanswered_ticket s.known.local ≡ None
all_answered r s caller = ap (option_map (λ (x : Linked). x.ticket)) (slice_get_past s.known.local.own (length s.known.local.answered) (omega (arith, caller.count)))

module _ {O : Type 0} (r : Running O) (op : List ℕ) (n : ℕ) (s u : Seated) (before : ReadPending r n s u) where
  pub read_keeps_then : (v : Seated) → ReadKeeps u v → ReadKeeps s v
  read_keeps_then v k = record { number = k.number ∙ before.keeps.number; limit = k.limit ∙ before.keeps.limit; own = k.own ∙ before.keeps.own; answered = k.answered ∙ before.keeps.answered; scans = k.scans ∙ before.keeps.scans; sets = k.sets ∙ before.keeps.sets; front = omega (arith, before.keeps.front, k.front); cur = omega (arith, before.keeps.cur, k.cur); met = omega (arith, before.keeps.met, k.met); since = omega (arith, before.keeps.since, k.since); linked = k.linked ∙ before.keeps.linked; ended = k.ended ∙ before.keeps.ended }

  -- reads with one more, in terms of the first seat
  more_reads : (place : ℕ) (reply : List ℕ) → reads_with place op reply (length u.known.local.answered) u.known.local.seen_reads ≡ reads_with place op reply (length s.known.local.answered) s.known.local.seen_reads
  more_reads place reply =
      ap (λ (xs : List Answer). reads_with place op reply (length xs) u.known.local.seen_reads) before.keeps.answered
      ∙ ap (reads_with place op reply (length s.known.local.answered)) before.reads

  read_done_then : (v : Seated) (seen : Seen) → ReadAnswered r op u v seen → ReadAnswered r op s v seen
  read_done_then v seen d = record {
    caller = d.caller;
    keeps = read_keeps_then v d.keeps;
    allowed = before.allowed;
    reads = d.reads ∙ more_reads seen.place seen.reply;
    place = d.place;
    reached = d.reached;
    above = λ i x at. d.above i x (ap (λ (xs : List Answer). slice_get xs i) before.keeps.answered ∙ at);
    from = λ i x at. d.from i x (ap (λ (xs : List SeenRead). slice_get xs i) before.reads ∙ at);
    times = record { begun = d.times.begun; ended = d.times.ended; from = omega (arith, before.keeps.since, d.times.from); to = d.times.to; is = d.times.is ∙ ap (λ ts. ts ++ (d.times.begun, d.times.ended) ∷ []) before.times };
    images = d.images ∙ before.images;
  }

  read_halted_then : (v : StoppedSeat) → ReadHalted r op u v → ReadHalted r op s v
  read_halted_then v h = record {
    caller = h.caller;
    linked = h.linked;
    keeps = read_keeps_then v.seat h.keeps;
    reads = elim h.reads [
      | inl none ↦ inl (none ∙ before.reads)
      | inr one ↦ inr (one.0, one.1, one.2 ∙ more_reads one.0 one.1, one.3)
    ];
    times = elim h.times [
      | inl none ↦ inl (none ∙ before.times)
      | inr one ↦ inr (record { begun = one.begun; ended = one.ended; from = omega (arith, before.keeps.since, one.from); to = one.to; is = one.is ∙ ap (λ ts. ts ++ (one.begun, one.ended) ∷ []) before.times })
    ];
    images = h.images ∙ before.images;
  }

-- n attempts for a read were made, where n may be 0, and in each a refusal was met
pub record LooksOn {O : Type 0} (r : Running O) (n : ℕ) (s u : Seated) : Type 0 where
  pub caller : IsCallerOf r u
  pub attempts : ((n ≡ 0) × (u ≡ s)) ⊎ ReadPending r n s u

module _ {O : Type 0} (r : Running O) (op : List ℕ) (n : ℕ) (s u : Seated) (on : LooksOn r n s u) where
  pub looks_done : (tries : ℕ) (v : Seated) (seen : Seen) → n < tries → ReadAnswered r op u v seen × MeetsFewer 1 u v → ReadAnswered r op s v seen × MeetsFewer tries s v
  looks_done tries v seen more d =
      elim on.attempts [
        | inl none ↦ (let same = ap (λ (x : Seated). x.known.local.met) none.1 in let few = d.1 in (subst (λ x. ReadAnswered r op x v seen) none.1 d.0, omega (arith, same, few, more)))
        | inr some ↦ (let few = d.1 in (read_done_then r op n s u some v seen d.0, omega (arith, some.most, few, more)))
      ]

  -- at most as many refusals
  pub looks_met : MeetsAtMost n s u
  looks_met = elim on.attempts [ inl none ↦ (let same = ap (λ (x : Seated). x.known.local.met) none.1 in omega (arith, same)) | inr some ↦ some.most ]

  pub looks_halted : (tries : ℕ) (v : StoppedSeat) → n < tries → ReadHalted r op u v × ReadDue 1 u v.seat → ReadHalted r op s v × ReadDue tries s v.seat
  looks_halted tries v more h = (
    elim on.attempts [ inl none ↦ subst (λ x. ReadHalted r op x v) none.1 h.0 | inr some ↦ read_halted_then r op n s u some v h.0 ],
    record {
      most = (let few = h.1.most in omega (arith, looks_met, few, more));
      due = λ none. (let few = h.1.due none in omega (arith, looks_met, few, more));
    },
  )
