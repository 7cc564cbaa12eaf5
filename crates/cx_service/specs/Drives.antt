-- The result of driving a linked entry.
use Rattle.std.specs.Prelude.{◌≡◌, ◌≢◌, ◌+◌, ◌<◌, ◌≤◌, ◌⊎◌, ℕ, List, Some, None}
use Rattle.cx_base.specs.Codes.{root_place_of}
use Rattle.cx_core.specs.declared.local.Answer.{Answer}
use Rattle.cx_core.specs.Layout.{max_word}
use Rattle.table_invariant.specs.Running.{Running}
use Rattle.table_invariant.specs.Seats.{IsAtLimit, Seated, images_of, unanswered_ticket}
use Rattle.table_invariant.specs.Timing.{EndsIn}
use Rattle.cx_service.specs.declared.drive.Driven.{Driven}
use Rattle.cx_service.specs.declared.drive.Driven.TheVariants.{Done, Pending, Halted}
use Rattle.cx_service.specs.Callers.{IsCallerOf, IsLinkedOf, IsStoppedOf, StoppedSeat}
use Rattle.cx_attempts.specs.Answering.{with_answer}
use Rattle.cx_attempts.specs.Bringing.{BringsEntries}
use Rattle.cx_attempts.specs.Attempts.{StepsOn}
use Rattle.strong_trylock.specs.Held.{all_rights, no_rights}

-- at least this many refusals were met, where the count is not at its end
abbrev pub MeetsMore : ℕ → Seated → Seated → Type 0
MeetsMore tries before after = (before.known.local.met + tries ≤ after.known.local.met) ⊎ (max_word ≤ after.known.local.met)

-- at most this many refusals were met
abbrev pub MeetsAtMost : ℕ → Seated → Seated → Type 0
MeetsAtMost most before after = after.known.local.met ≤ before.known.local.met + most

-- fewer refusals than this were met
abbrev pub MeetsFewer : ℕ → Seated → Seated → Type 0
MeetsFewer tries before after = after.known.local.met < before.known.local.met + tries

-- an entry was answered, or none
abbrev pub EndsOrNot : Seated → Seated → Type 0
EndsOrNot before after = (after.known.times.answered ≡ before.known.times.answered) ⊎ EndsIn after.known.local.steps before.known.times.answered after.known.times.answered

-- what each answer of a drive leaves as it was, and no refusal and no step that is taken back
pub record DriveKeeps (before after : Seated) : Type 0 where
  pub number : after.known.local.number ≡ before.known.local.number
  pub limit : after.known.local.limit ≡ before.known.local.limit
  pub own : after.known.local.own ≡ before.known.local.own
  pub reads : after.known.local.seen_reads ≡ before.known.local.seen_reads
  pub linked : after.known.times.linked ≡ before.known.times.linked
  pub read : after.known.times.reads ≡ before.known.times.reads
  pub images : images_of after.known ≡ images_of before.known
  pub met : before.known.local.met ≤ after.known.local.met
  pub since : StepsOn before after

-- an entry's answer: its ticket, and the reply that stands in the caller's buffer
abbrev pub answer_with : ℕ → List ℕ → Answer
answer_with ticket reply = record { ticket = ticket; reply = reply }

-- The entry is answered, and nothing else: the caller has one answer more, at the entry's ticket. The count of others' sets that were
-- read rises by those of this call. The limit allowed a step.
pub record DriveDone {O : Type 0} (r : Running O) (before after : Seated) (answer : Answer) : Type 0 where
  pub caller : IsCallerOf r after
  pub keeps : DriveKeeps before after
  pub allowed : ¬ IsAtLimit before.known.local
  pub ticket : unanswered_ticket before.known.local ≡ Some answer.ticket
  pub answered : after.known.local.answered ≡ with_answer answer.ticket answer.reply before.known.local.answered
  pub brought : BringsEntries before after
  pub ended : EndsIn after.known.local.steps before.known.times.answered after.known.times.answered

-- In each of the given number of attempts one refusal was met, and no word of a set was read. The entry stands, unanswered. The limit allowed a step.
pub record DrivePending {O : Type 0} (r : Running O) (tries : ℕ) (before after : Seated) : Type 0 where
  pub caller : IsLinkedOf r after
  pub keeps : DriveKeeps before after
  pub allowed : ¬ IsAtLimit before.known.local
  pub answered : after.known.local.answered ≡ before.known.local.answered
  pub met : MeetsMore tries before after
  pub most : MeetsAtMost tries before after
  pub sets : after.known.sets ≡ before.known.sets
  pub ended : after.known.times.answered ≡ before.known.times.answered

-- A further step was to be made and the steps equal the limit. No call answered the entry, whose ticket the caller keeps. Before the
-- raise that answers it the caller has no answer more, and behind that raise it has the entry's, and a win that is still to be retired.
pub record DriveHalted {O : Type 0} (r : Running O) (before : Seated) (after : StoppedSeat) : Type 0 where
  pub caller : IsStoppedOf r after.seat
  pub keeps : DriveKeeps before after.seat
  pub ticket : ℕ
  pub is : unanswered_ticket before.known.local ≡ Some ticket
  pub linked : after.linked ≡ Some ticket
  pub answered : (after.seat.known.local.answered ≡ before.known.local.answered)
      ⊎ ((reply : List ℕ) × (after.seat.known.local.answered ≡ with_answer ticket reply before.known.local.answered) × (after.seat.known.local.won ≢ None))
  pub ended : EndsOrNot before after.seat

-- A further step is due to a drive in this many attempts: fewer refusals were met, a right stands that is still to be released, or a code is
-- found in CUR whose place is above the entry's ticket, by which DUR is still to be raised. No attempt meets more than one refusal.
pub record DriveDue {O : Type 0} (r : Running O) (tries : ℕ) (before : Seated) (after : StoppedSeat) : Type 0 where
  pub most : MeetsAtMost tries before after.seat
  pub due : all_rights after.seat ≡ no_rights → MeetsFewer tries before after.seat ⊎ ((ticket : ℕ) × (after.linked ≡ Some ticket) × (ticket < root_place_of r.callers after.seat.known.local.seen_cur))

-- The result of a drive of a linked entry in this many attempts, which left these words in the caller's buffer. An attempt meets at most one
-- refusal, also the last one where a publication was lost in it.
abbrev pub Drives : {O : Type 0} → Running O → ℕ → List ℕ → Seated → Driven → Type 0
Drives r tries reply before (Done after ticket) = DriveDone r before after (answer_with ticket reply) × MeetsAtMost tries before after
Drives r tries reply before (Pending after) = DrivePending r tries before after
Drives r tries reply before (Halted after) = DriveHalted r before after × DriveDue r tries before after
