-- The result of an update, and of a read that may enter the queue.
use Rattle.std.specs.Prelude.{◌≡◌, ◌≢◌, ◌+◌, ◌^◌, ◌<◌, ◌≤◌, ◌⊎◌, ℕ, List, [], ◌∷◌, ◌++◌, length, Some, None}
use Rattle.cx_core.specs.declared.local.Answer.{Answer}
use Rattle.cx_core.specs.Layout.{max_word}
use Rattle.cx_core.specs.QueueEvents.{IsIdle}
use Rattle.cx_table.specs.Seats.{HasMadeSteps}
use Rattle.table_invariant.specs.Running.{Running}
use Rattle.table_invariant.specs.Seats.{IsAtLimit, Seated, images_of}
use Rattle.table_invariant.specs.Timing.{BeginsIn, EndsIn, KeepsTimes}
use Rattle.cx_core.specs.declared.local.FullNote.{FullNote}
use Rattle.cx_service.specs.declared.submit.Submitted.TheVariants.{Again as SubmitsBack, Halted as SubmitHalts}
use Rattle.cx_service.specs.declared.update.ReadDone.{ReadDone}
use Rattle.cx_service.specs.declared.update.ReadDone.TheVariants.{Read, Queued, Full as FullRead, Worn as WornRead, Halted as HaltedRead}
use Rattle.cx_service.specs.declared.update.Updated.{Updated}
use Rattle.cx_service.specs.declared.update.Updated.TheVariants.{Done, Full, Worn, Halted}
use Rattle.cx_service.specs.Callers.{IsCallerOf, IsStoppedOf, StoppedSeat}
use Rattle.cx_service.specs.Drives.{DriveDone, DriveHalted, EndsOrNot, MeetsFewer, answer_with}
use Rattle.cx_service.specs.Lookups.{ReadAnswered, ReadDue, ReadHalted, ReadPending, seen_with}
use Rattle.cx_service.specs.Submits.{NamesHolder, Submits, next_entry}
use Rattle.cx_attempts.specs.Answering.{with_answer}
use Rattle.cx_attempts.specs.Bringing.{BringsEntries}
use Rattle.cx_attempts.specs.Attempts.{StepsOn}

-- the caller's number, its limit and its lists are as they were, and its front and what it found in CUR do not fall
pub record KeepsLists (before after : Seated) : Type 0 where
  pub number : after.known.local.number ≡ before.known.local.number
  pub limit : after.known.local.limit ≡ before.known.local.limit
  pub own : after.known.local.own ≡ before.known.local.own
  pub answered : after.known.local.answered ≡ before.known.local.answered
  pub reads : after.known.local.seen_reads ≡ before.known.local.seen_reads
  pub front : before.known.local.front ≤ after.known.local.front
  pub cur : before.known.local.seen_cur ≤ after.known.local.seen_cur

-- an entry of this operation was linked at a ticket, and no other, and no step is taken back
pub record LinksEntry {O : Type 0} (r : Running O) (op : List ℕ) (ticket : ℕ) (before after : Seated) : Type 0 where
  pub number : after.known.local.number ≡ before.known.local.number
  pub limit : after.known.local.limit ≡ before.known.local.limit
  pub own : after.known.local.own ≡ before.known.local.own ++ next_entry r before.known.local op ticket ∷ []
  pub reads : after.known.local.seen_reads ≡ before.known.local.seen_reads
  pub begun : BeginsIn before.known.local.steps before.known.times.linked after.known.times.linked
  pub read : after.known.times.reads ≡ before.known.times.reads
  pub since : StepsOn before after

-- The entry is linked and answered, and nothing else: the caller has one entry more and one answer more, at the answer's ticket, which is not
-- below the caller's front. It was linked and answered by steps of this call, and no refusal is taken back. The count of others' sets
-- that were read rises by those of this call.
pub record UpdateDone {O : Type 0} (r : Running O) (op : List ℕ) (before after : Seated) (answer : Answer) : Type 0 where
  pub caller : IsCallerOf r after
  pub allowed : ¬ IsAtLimit before.known.local
  pub met : before.known.local.met ≤ after.known.local.met
  pub from : before.known.local.front ≤ answer.ticket
  pub links : LinksEntry r op answer.ticket before after
  pub answered : after.known.local.answered ≡ with_answer answer.ticket answer.reply before.known.local.answered
  pub brought : BringsEntries before after
  pub ended : EndsIn after.known.local.steps before.known.times.answered after.known.times.answered
  pub images : images_of after.known ≡ images_of before.known

-- No cell is idle after FREE was loaded and a scan made in this call: another caller's need keeps them. The caller linked at least 16
-- entries in this service.
pub record UpdateFull {O : Type 0} (r : Running O) (before after : Seated) (note : FullNote) : Type 0 where
  pub caller : IsCallerOf r after
  pub allowed : ¬ IsAtLimit before.known.local
  pub keeps : KeepsLists before after
  pub met : after.known.local.met ≡ before.known.local.met
  pub full : 16 ≤ length before.known.local.own
  pub scans : (before.known.local.scans < after.known.local.scans) ⊎ (after.known.local.scans ≡ max_word)
  pub steps : HasMadeSteps (before.known.local.steps + (r.callers + 4)) after
  pub names : NamesHolder r.callers after.known.local note
  pub sets : after.known.sets ≡ before.known.sets
  pub times : KeepsTimes before.known.times after.known.times
  pub images : images_of after.known ≡ images_of before.known

-- A cell is idle, and there is no further ticket: CUR was loaded in this call, and the operation written there.
pub record UpdateWorn {O : Type 0} (r : Running O) (before after : Seated) : Type 0 where
  pub caller : IsCallerOf r after
  pub allowed : ¬ IsAtLimit before.known.local
  pub keeps : KeepsLists before after
  pub met : after.known.local.met ≡ before.known.local.met
  pub front : after.known.local.front ≡ 2 ^ 40
  pub steps : HasMadeSteps (before.known.local.steps + 2) after
  pub idle : (j : ℕ) × (j < 16) × IsIdle after.known.local j
  pub sets : after.known.sets ≡ before.known.sets
  pub times : KeepsTimes before.known.times after.known.times
  pub images : images_of after.known ≡ images_of before.known

-- Submits of an operation in 16 tries, none or more, each of which found another's link in every try and handed the caller back.
pub data SubmitsAgain {O : Type 0} (r : Running O) (op : List ℕ) (first : Seated) : Seated → Type 0 where
  not_yet : (now : Seated) → now ≡ first → SubmitsAgain r op first now
  once_more : (mid now : Seated) → SubmitsAgain r op first mid → Submits r op 16 mid (SubmitsBack now) → SubmitsAgain r op first now

-- Nothing was linked before the step limit was reached: it was in the last of such submits, to which a further step was due. No step is
-- taken back.
pub record HaltsUnlinked {O : Type 0} (r : Running O) (op : List ℕ) (before : Seated) (after : StoppedSeat) : Type 0 where
  pub none : after.linked ≡ None
  pub keeps : KeepsLists before after.seat
  pub met : after.seat.known.local.met ≡ before.known.local.met
  pub last : Seated
  pub tried : SubmitsAgain r op before last
  pub due : Submits r op 16 last (SubmitHalts after)
  pub since : StepsOn before after.seat
  pub times : KeepsTimes before.known.times after.seat.known.times

-- The entry was linked before the step limit was reached, and no call answered it. No refusal is taken back. The caller has no answer more, or the
-- entry's, and then a win that is still to be retired.
pub record HaltsLinked {O : Type 0} (r : Running O) (op : List ℕ) (before : Seated) (after : StoppedSeat) : Type 0 where
  pub ticket : ℕ
  pub linked : after.linked ≡ Some ticket
  pub links : LinksEntry r op ticket before after.seat
  pub met : before.known.local.met ≤ after.seat.known.local.met
  pub answered : (after.seat.known.local.answered ≡ before.known.local.answered)
      ⊎ ((reply : List ℕ) × (after.seat.known.local.answered ≡ with_answer ticket reply before.known.local.answered) × (after.seat.known.local.won ≢ None))
  pub ended : EndsOrNot before after.seat

-- A further step was to be made and the steps equal the limit.
pub record UpdateHalted {O : Type 0} (r : Running O) (op : List ℕ) (before : Seated) (after : StoppedSeat) : Type 0 where
  pub caller : IsStoppedOf r after.seat
  pub number : after.seat.known.local.number ≡ before.known.local.number
  pub lists : HaltsUnlinked r op before after ⊎ HaltsLinked r op before after
  pub images : images_of after.seat.known ≡ images_of before.known

-- the result of an update of this operation, which left these words in the caller's buffer
abbrev pub Updates : {O : Type 0} → Running O → List ℕ → List ℕ → Seated → Updated → Type 0
Updates r op reply before (Done after ticket) = UpdateDone r op before after (answer_with ticket reply)
Updates r op reply before (Full after note) = UpdateFull r before after note
Updates r op reply before (Worn after) = UpdateWorn r before after
Updates r op reply before (Halted after) = UpdateHalted r op before after

-- the result of driving a linked entry to its end
abbrev pub FinishOutcome : {O : Type 0} → Running O → List ℕ → Seated → Updated → Type 0
FinishOutcome r reply before (Done after ticket) = DriveDone r before after (answer_with ticket reply)
FinishOutcome r reply before (Full after note) = ⊥
FinishOutcome r reply before (Worn after) = ⊥
FinishOutcome r reply before (Halted after) = DriveHalted r before after

-- A read was refused in each of 8 attempts beside the queue, so that just as many refusals more are met, and then it entered the queue.
pub record ReadQueues {O : Type 0} (r : Running O) (op reply : List ℕ) (before : Seated) (updated : Updated) : Type 0 where
  pub refused : Seated
  pub pending : ReadPending r 8 before refused
  pub entered : Updates r op reply refused updated

-- A further step was to be made and the steps equal the limit: in an attempt beside the queue, or in the update by which the read had entered it,
-- which has no reply.
pub record ReadStops {O : Type 0} (r : Running O) (op : List ℕ) (before : Seated) (after : StoppedSeat) : Type 0 where
  pub caller : IsStoppedOf r after.seat
  pub number : after.seat.known.local.number ≡ before.known.local.number
  pub lists : (ReadHalted r op before after × ReadDue 8 before after.seat) ⊎ ReadQueues r op [] before (Halted after)
  pub images : images_of after.seat.known ≡ images_of before.known

-- the result of a read of this operation, which left these words in the caller's buffer
abbrev pub ReadOutcome : {O : Type 0} → Running O → List ℕ → List ℕ → Seated → ReadDone → Type 0
ReadOutcome r op reply before (Read after place) = ReadAnswered r op before after (seen_with place reply) × MeetsFewer 8 before after
ReadOutcome r op reply before (Queued after ticket) = ReadQueues r op reply before (Done after ticket)
ReadOutcome r op reply before (FullRead after note) = ReadQueues r op reply before (Full after note)
ReadOutcome r op reply before (WornRead after) = ReadQueues r op reply before (Worn after)
ReadOutcome r op reply before (HaltedRead after) = ReadStops r op before after

-- the result of a read that enters the queue
abbrev pub QueuedReadOutcome : {O : Type 0} → Running O → List ℕ → List ℕ → Seated → ReadDone → Type 0
QueuedReadOutcome r op reply before (Read after place) = ⊥
QueuedReadOutcome r op reply before (Queued after ticket) = Updates r op reply before (Done after ticket)
QueuedReadOutcome r op reply before (FullRead after note) = Updates r op reply before (Full after note)
QueuedReadOutcome r op reply before (WornRead after) = Updates r op reply before (Worn after)
QueuedReadOutcome r op reply before (HaltedRead after) = Updates r op reply before (Halted after)
