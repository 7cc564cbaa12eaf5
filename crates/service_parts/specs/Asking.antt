-- The result of an operation that is asked for until it is answered.
use Rattle.std.specs.Prelude.{◌≡◌, ◌+◌, ◌≤◌, ◌⊎◌, ℕ, List, [], ◌∷◌, ◌++◌, Result, MatchResult, length}
use Rattle.table_invariant.specs.Running.{Running}
use Rattle.table_invariant.specs.Seats.{Seated, StepsOn}
use Rattle.table_invariant.specs.Timing.{BeginsIn, EndsIn, KeepsTimes, ReadsIn}
use Rattle.cx_service.specs.Callers.{FindsCurrent, IsCallerOf, IsStoppedOf, StoppedSeat}
use Rattle.cx_service.specs.CatchUps.{HasSeen}
use Rattle.cx_service.specs.Submits.{next_entry}
use Rattle.cx_service.specs.Updates.{KeepsLists}
use Rattle.cx_attempts.specs.Answering.{with_answer, reads_with}
use Rattle.service_parts.specs.Callers.{IsBack}
use Rattle.service_parts.specs.declared.call.AskOutcome.{AskOutcome}
use Rattle.service_parts.specs.declared.call.AskOutcome.TheVariants.{Told, Worn, Stopped}

-- none of the caller's operations began or was answered since, and no step was taken back
pub record IsIdleSince (before after : Seated) : Type 0 where
  pub times : KeepsTimes before.known.times after.known.times
  pub since : StepsOn before after

-- an entry of this operation was linked at a ticket, and no other, by a step of this call
pub record LinksOne {O : Type 0} (r : Running O) (op : List ℕ) (ticket : ℕ) (before after : Seated) : Type 0 where
  pub number : after.known.local.number ≡ before.known.local.number
  pub limit : after.known.local.limit ≡ before.known.local.limit
  pub own : after.known.local.own ≡ before.known.local.own ++ next_entry r before.known.local op ticket ∷ []
  pub reads : after.known.local.seen_reads ≡ before.known.local.seen_reads
  pub begun : BeginsIn before.known.local.steps before.known.times.linked after.known.times.linked
  pub read : after.known.times.reads ≡ before.known.times.reads

-- The operation is done, and nothing else: the caller has one entry more, and one answer more, which is told. It was linked and answered by steps of this
-- call.
pub record IsOperationAnswered {O : Type 0} (r : Running O) (op : List ℕ) (ticket : ℕ) (reply : List ℕ) (before after : Seated) : Type 0 where
  pub links : LinksOne r op ticket before after
  pub answered : after.known.local.answered ≡ with_answer ticket reply before.known.local.answered
  pub ended : EndsIn after.known.local.steps before.known.times.answered after.known.times.answered

-- the caller is handed back with the entries, answers and reads that it had, and none of its operations began or was answered
pub record IsLeftAlone {O : Type 0} (r : Running O) (before after : Seated) : Type 0 where
  pub caller : IsCallerOf r after
  pub keeps : KeepsLists before after
  pub idle : IsIdleSince before after

-- the caller is stopped at its limit of steps
pub record IsStoppedIn {O : Type 0} (r : Running O) (before : Seated) (after : StoppedSeat) : Type 0 where
  pub caller : IsStoppedOf r after.seat
  pub number : after.seat.known.local.number ≡ before.known.local.number

-- a reading is answered beside the queue: the caller has one read more, of this operation, at this place, which began and was answered by steps of this call
pub record IsReadBeside (op : List ℕ) (place : ℕ) (reply : List ℕ) (before after : Seated) : Type 0 where
  pub own : after.known.local.own ≡ before.known.local.own
  pub answered : after.known.local.answered ≡ before.known.local.answered
  pub reads : after.known.local.seen_reads ≡ reads_with place op reply (length before.known.local.answered) before.known.local.seen_reads
  pub times : ReadsIn before.known.local.steps after.known.local.steps before.known.times.reads after.known.times.reads
  pub linked : after.known.times.linked ≡ before.known.times.linked
  pub ended : after.known.times.answered ≡ before.known.times.answered

-- The result of an operation, which left these words in the caller's buffer. One that is told is answered beside the queue at the place that is told,
-- or as an entry of it, whose ticket is the one below that place; the words are its reply.
abbrev pub IsAsked : {O : Type 0} → Running O → List ℕ → List ℕ → Seated → AskOutcome → Type 0
IsAsked r op reply before (Told after place) = IsBack r before after × (IsReadBeside op place reply before after ⊎ ((ticket : ℕ) × (place ≡ ticket + 1) × IsOperationAnswered r op ticket reply before after))
IsAsked r op reply before (Worn after) = IsLeftAlone r before after
IsAsked r op reply before (Stopped after) = IsStoppedIn r before after

-- What the caller had seen before an operation, it has seen after it, and the answer stands at or above each place that the caller had seen before.
-- Of a stopped caller nothing is said.
abbrev pub KeepsPlaces : ℕ → Seated → AskOutcome → Type 0
KeepsPlaces callers before (Told after place) = (seen : ℕ) → HasSeen callers seen before.known.local → (seen ≤ place) × HasSeen callers seen after.known.local
KeepsPlaces callers before (Worn after) = (seen : ℕ) → HasSeen callers seen before.known.local → HasSeen callers seen after.known.local
KeepsPlaces callers before (Stopped after) = Unit {0}

-- the caller has seen a place, and what it had seen before; nothing is done. CUR was loaded by a step of this call.
pub record HasFollowed {O : Type 0} (r : Running O) (place : ℕ) (before after : Seated) : Type 0 where
  pub caller : IsCallerOf r after
  pub keeps : KeepsLists before after
  pub idle : IsIdleSince before after
  pub finds : FindsCurrent before after
  pub seen : HasSeen r.callers place after.known.local

-- the caller is answered, or stopped at its limit of steps
abbrev pub IsAnsweredOrStopped : {O : Type 0} → Running O → ℕ → Seated → Result Seated StoppedSeat → Type 0
IsAnsweredOrStopped r place before result = MatchResult result (HasFollowed r place before) (IsStoppedIn r before)
