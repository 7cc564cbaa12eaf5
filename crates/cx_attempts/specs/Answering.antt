-- The result of an attempt that answers its caller's entry, and of one that answers a read.
use Rattle.std.specs.Prelude.{◌≡◌, ◌≢◌, ◌+◌, ◌<◌, ◌≤◌, ◌⊎◌, true, false, ℕ, Bool, List, [], ◌∷◌, ◌++◌, length, slice_get, IfSome, Option, Some, None}
use Rattle.std.specs.Option.{option_map}
use Rattle.cx_base.specs.Codes.{root_place_of}
use Rattle.cx_base.specs.declared.object.Object.{Ghosts}
use Rattle.cx_core.specs.declared.local.Answer.{Answer}
use Rattle.cx_core.specs.declared.local.SeenRead.{SeenRead}
use Rattle.table_invariant.specs.Raises.{TellsReply, known_answered}
use Rattle.table_invariant.specs.Rule.{IsLawfulLocal}
use Rattle.table_invariant.specs.Running.{IsSeatOf, Running, instance_at}
use Rattle.table_invariant.specs.Seats.{IsAtLimit, Seated, StepsBy, unanswered_ticket}
use Rattle.table_invariant.specs.Timing.{EndsIn}
use Rattle.cx_table.specs.Right.{Right}
use Rattle.cx_attempts.specs.declared.lookup.Seen.{Seen}
use Rattle.cx_attempts.specs.Reads.{IsReplyRead}
use Rattle.cx_attempts.specs.Attempts.{HaltsAttempt, IsAtRest, StepsOn, AttemptRefused, unchanged_by_attempt, except_sets}
use Rattle.publish.specs.Publishing.{unchanged_by_publish, place_in}
use Rattle.strong_trylock.specs.Held.{all_rights, no_rights}

-- what no attempt changes: what no step of one does before its raise, but the greatest code that DUR was raised by, and the floor
abbrev pub unchanged_by_raise : Seated → Seated
unchanged_by_raise s = (let b = unchanged_by_attempt s in record b { known = record b.known { local = record b.known.local { raised = 0; floor = 0 } } })

-- what handing a replica over for an entry leaves as it was: all of that but the answered entries
abbrev pub unchanged_by_hand_over : Seated → Seated
unchanged_by_hand_over s = (let b = unchanged_by_raise s in record b { known = record b.known { local = record b.known.local { answered = [] }; times = record b.known.times { answered = [] } } })

-- what an attempt for an entry leaves as it was: all of that but what work with write sets changes
abbrev pub unchanged_by_update : Seated → Seated
unchanged_by_update s = except_sets (unchanged_by_hand_over s)

-- what a raise that answers an entry, and the retiring of a win behind it, leave as it was
abbrev pub unchanged_by_settling : Seated → Seated
unchanged_by_settling s = record s { known = record s.known { local = record s.known.local { answered = []; raised = 0; floor = 0; fresh = false; won = None; steps = 0 }; times = record s.known.times { answered = [] } } }

-- what an attempt for a read leaves as it was: all of it but the answered reads
abbrev pub unchanged_by_lookup : Seated → Seated
unchanged_by_lookup s = (let b = unchanged_by_raise s in record b { known = record b.known { local = record b.known.local { seen_reads = [] }; times = record b.known.times { reads = [] } } })

-- answers with one more, to an entry with a ticket
abbrev pub with_answer : ℕ → List ℕ → List Answer → List Answer
with_answer ticket reply answers = answers ++ record { ticket = ticket; reply = reply } ∷ []

-- The replica that the caller has downgraded may be published for its entry with a ticket: its place is above the ticket, whatever fits what was noted of
-- it tells this reply, and but for it the caller is at rest.
pub record IsReadyFor {O : Type 0} (o : Ghosts O) (r : Running O) (ticket : ℕ) (reply : List ℕ) (seat : Seated) : Type 0 where
  pub rest : IsAtRest (unchanged_by_publish seat).known.local
  pub none : seat.known.local.won ≡ None
  pub above : ticket < place_in seat.known.local.downgraded
  pub tells : TellsReply r.lines (o.lawful r.object) r.base (o.step r.object) seat.known ticket reply
  pub last : unanswered_ticket seat.known.local ≡ Some ticket

-- A code was published, by the caller or by another, at a place above the ticket.
pub record IsPublishedFor {O : Type 0} (o : Ghosts O) (r : Running O) (code ticket : ℕ) (reply : List ℕ) (seat : Seated) : Type 0 where
  pub rest : IsAtRest (unchanged_by_publish seat).known.local
  pub ended : seat.known.local.downgraded ≡ None
  pub seen : code ≡ seat.known.local.seen_cur
  pub above : ticket < root_place_of r.callers code
  pub tells : TellsReply r.lines (o.lawful r.object) r.base (o.step r.object) seat.known ticket reply
  pub last : unanswered_ticket seat.known.local ≡ Some ticket

-- DUR was raised by the code, which answers the entry and nothing else.
pub record AnswersBy {O : Type 0} (o : Ghosts O) (r : Running O) (code ticket : ℕ) (reply : List ℕ) (before after : Seated) : Type 0 where
  pub made : after ≡ record before { known = known_answered (instance_at r o.step o.only_reads) code (record { ticket = ticket; reply = reply } ∷ []) None before.known }
  pub seat : IsSeatOf r after

-- The caller's unanswered entry is answered with this reply, at most this many refusals are met, and the caller is at rest.
pub record AnswersEntry (refusals ticket : ℕ) (reply : List ℕ) (before after : Seated) : Type 0 where
  pub rest : IsAtRest after.known.local
  pub met : before.known.local.met ≤ after.known.local.met
  pub most : after.known.local.met ≤ before.known.local.met + refusals
  pub answered : after.known.local.answered ≡ with_answer ticket reply before.known.local.answered
  pub ended : EndsIn after.known.local.steps before.known.times.answered after.known.times.answered

-- the result of an attempt for an entry with a ticket; one that answers it meets a refusal where its publication was lost once
abbrev pub IsUpdateAttempt : ℕ → List ℕ → Seated → Seated → Bool → Type 0
IsUpdateAttempt ticket reply before after true = AnswersEntry 1 ticket reply before after
IsUpdateAttempt ticket reply before after false = AttemptRefused before after

-- the result of an attempt for an entry with a ticket that did not halt: the limit allowed a step
pub record AttemptsUpdate (ticket : ℕ) (reply : List ℕ) (before after : Seated) (answered : Bool) : Type 0 where
  pub allowed : ¬ IsAtLimit before.known.local
  pub attempted : IsUpdateAttempt ticket reply before after answered

-- no entry is answered
pub record AnswersNone (before after : Seated) : Type 0 where
  pub same : after.known.local.answered ≡ before.known.local.answered
  pub times : after.known.times.answered ≡ before.known.times.answered

-- one is
pub record AnswersOne (ticket : ℕ) (reply : List ℕ) (before after : Seated) : Type 0 where
  pub is : after.known.local.answered ≡ with_answer ticket reply before.known.local.answered
  pub ended : EndsIn after.known.local.steps before.known.times.answered after.known.times.answered

-- The step limit was reached before a won code's win was retired, with no refusal: before the raise nothing is answered, and after it
-- the entry is.
pub record HaltsWon (ticket : ℕ) (before after : Seated) : Type 0 where
  pub limit : IsAtLimit after.known.local
  pub met : after.known.local.met ≡ before.known.local.met
  pub won : after.known.local.won ≡ before.known.local.won
  pub answered : AnswersNone before after ⊎ ((reply : List ℕ) × AnswersOne ticket reply before after)

-- The step limit was reached, and a further step was due: no refusal was met, a right stands, or a code is found in CUR whose place is above
-- the ticket, by which DUR is still to be raised. Before that raise nothing is answered, and behind it the entry is, and the win is still
-- to be retired. At most one refusal was met, and none is taken back.
pub record HaltsFor (callers ticket : ℕ) (before after : Seated) : Type 0 where
  pub limit : IsAtLimit after.known.local
  pub counted : before.known.local.met ≤ after.known.local.met
  pub most : after.known.local.met ≤ before.known.local.met + 1
  pub due : all_rights after ≡ no_rights → (after.known.local.met ≡ before.known.local.met) ⊎ (ticket < root_place_of callers after.known.local.seen_cur)
  pub answered : AnswersNone before after ⊎ ((reply : List ℕ) × AnswersOne ticket reply before after × (after.known.local.won ≢ None))

-- reads with one more, of an operation at a place, where this many entries of its caller are answered
abbrev pub reads_with : ℕ → List ℕ → List ℕ → ℕ → List SeenRead → List SeenRead
reads_with place op reply answered reads = reads ++ record { place = place; op = op; reply = reply; before = answered } ∷ []

-- one read more has times, of which this is the first
pub record ReadsFrom (begun : ℕ) (before after : Seated) : Type 0 where
  pub ended : ℕ
  pub to : ended ≤ after.known.local.steps
  pub is : after.known.times.reads ≡ before.known.times.reads ++ (begun, ended) ∷ []

-- no read is answered
pub record ReadsNone (before after : Seated) : Type 0 where
  pub same : after.known.local.seen_reads ≡ before.known.local.seen_reads
  pub times : after.known.times.reads ≡ before.known.times.reads

-- A read is answered at a place that is not below the floor, which rises to it, and so above each ticket and not below any place
-- that the caller was answered before. It began after this many steps. No refusal is met, and the caller is at rest.
pub record AnswersRead (begun : ℕ) (op : List ℕ) (place : ℕ) (reply : List ℕ) (before after : Seated) : Type 0 where
  pub rest : IsAtRest after.known.local
  pub met : after.known.local.met ≡ before.known.local.met
  pub reads : after.known.local.seen_reads ≡ reads_with place op reply (length before.known.local.answered) before.known.local.seen_reads
  pub times : ReadsFrom begun before after
  pub floor : before.known.local.floor ≤ place
  pub above : (i : ℕ) (x : Answer) → slice_get before.known.local.answered i ≡ Some x → x.ticket < place
  pub from : (i : ℕ) (x : SeenRead) → slice_get before.known.local.seen_reads i ≡ Some x → x.place ≤ place

-- what was found where a reply was made at a place, or not
abbrev pub seen_at : List ℕ → Option ℕ → Option Seen
seen_at reply place = option_map (λ p. record { place = p; reply = reply }) place

-- the result of an attempt for a read; one that is refused makes at most four steps
abbrev pub LooksUp : List ℕ → Seated → Seated → Option Seen → Type 0
LooksUp op before after (Some found) = AnswersRead before.known.local.steps op found.place found.reply before after
LooksUp op before after None = AttemptRefused before after × StepsBy 4 before after × StepsOn before after

-- The result of an attempt for a read, which the limit allowed, by the place that was read. That is the place of the code last found in CUR, and not
-- above the front.
pub record AttemptsRead (callers : ℕ) (op reply : List ℕ) (before after : Seated) (found : Option ℕ) : Type 0 where
  pub allowed : ¬ IsAtLimit before.known.local
  pub attempted : LooksUp op before after (seen_at reply found)
  pub place : IfSome found (λ place. place ≡ root_place_of callers after.known.local.seen_cur)
  pub reached : IfSome found (λ place. place ≤ after.known.local.front)

-- The step limit was reached, and a further step was due. Before the raise no read is answered, and behind it this one is, and the shared
-- right is still to be given back.
pub record HaltsLookup (begun : ℕ) (op : List ℕ) (before after : Seated) : Type 0 where
  pub halts : HaltsAttempt before after
  pub reads : ReadsNone before after
      ⊎ ((place : ℕ) × (reply : List ℕ) × (after.known.local.seen_reads ≡ reads_with place op reply (length before.known.local.answered) before.known.local.seen_reads) × ReadsFrom begun before after × (after.known.local.shared ≢ None))

-- DUR was raised by the code last loaded from CUR, which answers the read and nothing else.
pub record AnswersReadBy {O : Type 0} (o : Ghosts O) (r : Running O) (code : ℕ) (op reply : List ℕ) (before after : Seated) : Type 0 where
  pub made : after ≡ record before { known = known_answered (instance_at r o.step o.only_reads) code [] (Some (op, reply)) before.known }
  pub lawful : IsLawfulLocal (instance_at r o.step o.only_reads) before.known.local
  pub seat : IsSeatOf r after

-- A read was found on the replica that the code last loaded from CUR names, and beside the shared right on it the caller is at rest,
-- with each of its entries answered.
pub record IsLookedUp {O : Type 0} (o : Ghosts O) (r : Running O) (op reply : List ℕ) (seat : Seated) (hold : Right) : Type 0 where
  pub read : IsReplyRead o r op reply seat seat hold
  pub rest : IsAtRest (record seat.known.local { shared = None; fresh = false })
  pub answered : unanswered_ticket seat.known.local ≡ None

-- A caller of this table whose entries are all answered may raise DUR by this code, the one last found in CUR.
pub record MayRaiseCurrent {O : Type 0} (r : Running O) (code : ℕ) (seat : Seated) : Type 0 where
  pub of : IsSeatOf r seat
  pub current : code ≡ seat.known.local.seen_cur
  pub answered : unanswered_ticket seat.known.local ≡ None

-- a caller in no call whose entries are all answered
pub record MayLook {O : Type 0} (r : Running O) (seat : Seated) : Type 0 where
  pub of : IsSeatOf r seat
  pub rest : IsAtRest seat.known.local
  pub answered : unanswered_ticket seat.known.local ≡ None
