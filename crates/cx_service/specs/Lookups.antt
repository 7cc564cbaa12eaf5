-- The result of a read beside the queue.
use Rattle.std.specs.Prelude.{◌≡◌, ◌≢◌, ◌*◌, ◌<◌, ◌≤◌, ◌⊎◌, ℕ, List, length, slice_get, Some, None}
use Rattle.cx_base.specs.Codes.{root_place_of}
use Rattle.cx_core.specs.declared.local.Answer.{Answer}
use Rattle.cx_core.specs.declared.local.SeenRead.{SeenRead}
use Rattle.table_invariant.specs.Running.{Running}
use Rattle.table_invariant.specs.Seats.{IsAtLimit, Seated, StepsBy, images_of}
use Rattle.table_invariant.specs.Timing.{ReadsIn}
use Rattle.cx_service.specs.declared.lookup.ReadTried.{ReadTried}
use Rattle.cx_service.specs.declared.lookup.ReadTried.TheVariants.{Read, Pending, Halted}
use Rattle.cx_service.specs.Callers.{IsCallerOf, IsStoppedOf, StoppedSeat}
use Rattle.cx_service.specs.Drives.{MeetsAtMost, MeetsFewer, MeetsMore}
use Rattle.cx_attempts.specs.declared.lookup.Seen.{Seen}
use Rattle.cx_attempts.specs.Answering.{reads_with}
use Rattle.cx_attempts.specs.Attempts.{StepsOn}
use Rattle.strong_trylock.specs.Held.{all_rights, no_rights}

-- what each answer of a read leaves as it was, a front and a code found in CUR that do not fall, and no refusal and no step that is taken back
pub record ReadKeeps (before after : Seated) : Type 0 where
  pub number : after.known.local.number ≡ before.known.local.number
  pub limit : after.known.local.limit ≡ before.known.local.limit
  pub own : after.known.local.own ≡ before.known.local.own
  pub answered : after.known.local.answered ≡ before.known.local.answered
  pub scans : after.known.local.scans ≡ before.known.local.scans
  pub sets : after.known.sets ≡ before.known.sets
  pub front : before.known.local.front ≤ after.known.local.front
  pub cur : before.known.local.seen_cur ≤ after.known.local.seen_cur
  pub met : before.known.local.met ≤ after.known.local.met
  pub since : StepsOn before after
  pub linked : after.known.times.linked ≡ before.known.times.linked
  pub ended : after.known.times.answered ≡ before.known.times.answered

-- what a read found: its place, and the reply that stands in the caller's buffer
abbrev pub seen_with : ℕ → List ℕ → Seen
seen_with place reply = record { place = place; reply = reply }

-- The read is answered, and nothing else: the caller has one read more, of this operation. Its place is that of the code last found in CUR,
-- above each ticket and not below any place that the caller was answered before, and not above the caller's front. The limit allowed a step. It began and was
-- answered by steps of this call.
pub record ReadAnswered {O : Type 0} (r : Running O) (op : List ℕ) (before after : Seated) (seen : Seen) : Type 0 where
  pub caller : IsCallerOf r after
  pub keeps : ReadKeeps before after
  pub allowed : ¬ IsAtLimit before.known.local
  pub reads : after.known.local.seen_reads ≡ reads_with seen.place op seen.reply (length before.known.local.answered) before.known.local.seen_reads
  pub place : seen.place ≡ root_place_of r.callers after.known.local.seen_cur
  pub reached : seen.place ≤ after.known.local.front
  pub above : (i : ℕ) (x : Answer) → slice_get before.known.local.answered i ≡ Some x → x.ticket < seen.place
  pub from : (i : ℕ) (x : SeenRead) → slice_get before.known.local.seen_reads i ≡ Some x → x.place ≤ seen.place
  pub times : ReadsIn before.known.local.steps after.known.local.steps before.known.times.reads after.known.times.reads
  pub images : images_of after.known ≡ images_of before.known

-- In each of the given number of attempts one refusal was met, by at most four steps. The limit allowed a step.
pub record ReadPending {O : Type 0} (r : Running O) (tries : ℕ) (before after : Seated) : Type 0 where
  pub caller : IsCallerOf r after
  pub keeps : ReadKeeps before after
  pub allowed : ¬ IsAtLimit before.known.local
  pub reads : after.known.local.seen_reads ≡ before.known.local.seen_reads
  pub met : MeetsMore tries before after
  pub most : MeetsAtMost tries before after
  pub steps : StepsBy (4 * tries) before after
  pub times : after.known.times.reads ≡ before.known.times.reads
  pub images : images_of after.known ≡ images_of before.known

-- A further step was to be made and the steps equal the limit. No read was answered, or this one was, and its shared right is still to
-- be given back. No entry is linked that no call has answered.
pub record ReadHalted {O : Type 0} (r : Running O) (op : List ℕ) (before : Seated) (after : StoppedSeat) : Type 0 where
  pub caller : IsStoppedOf r after.seat
  pub linked : after.linked ≡ None
  pub keeps : ReadKeeps before after.seat
  pub reads : (after.seat.known.local.seen_reads ≡ before.known.local.seen_reads)
      ⊎ ((place : ℕ) × (reply : List ℕ) × (after.seat.known.local.seen_reads ≡ reads_with place op reply (length before.known.local.answered) before.known.local.seen_reads) × (after.seat.known.local.shared ≢ None))
  pub times : (after.seat.known.times.reads ≡ before.known.times.reads) ⊎ ReadsIn before.known.local.steps after.seat.known.local.steps before.known.times.reads after.seat.known.times.reads
  pub images : images_of after.seat.known ≡ images_of before.known

-- A further step is due to a read in this many attempts: fewer refusals were met, or a right stands that is still to be released. No attempt meets
-- more than one.
pub record ReadDue (tries : ℕ) (before after : Seated) : Type 0 where
  pub most : MeetsAtMost tries before after
  pub due : all_rights after ≡ no_rights → MeetsFewer tries before after

-- The result of a read of this operation in this many attempts, which left these words in the caller's buffer. The attempt that answers it meets
-- no refusal.
abbrev pub Looks : {O : Type 0} → Running O → List ℕ → ℕ → List ℕ → Seated → ReadTried → Type 0
Looks r op tries reply before (Read after place) = ReadAnswered r op before after (seen_with place reply) × MeetsFewer tries before after
Looks r op tries reply before (Pending after) = ReadPending r tries before after
Looks r op tries reply before (Halted after) = ReadHalted r op before after × ReadDue tries before after.seat
