-- The result of having a caller catch up with a place that another one told.
use Rattle.std.specs.Prelude.{◌≡◌, ◌+◌, ◌<◌, ◌≤◌, ◌⊎◌, ℕ, min, slice_get, None, Some}
use Rattle.cx_base.specs.Codes.{root_place_of}
use Rattle.cx_core.specs.declared.local.Answer.{Answer}
use Rattle.cx_core.specs.declared.local.Local.{Local}
use Rattle.cx_core.specs.Layout.{max_word}
use Rattle.table_invariant.specs.Running.{Running}
use Rattle.table_invariant.specs.Seats.{IsAtLimit, Seated, images_of}
use Rattle.table_invariant.specs.Timing.{KeepsTimes}
use Rattle.cx_service.specs.declared.catch_up.CaughtUp.{CaughtUp}
use Rattle.cx_service.specs.declared.catch_up.CaughtUp.TheVariants.{Caught, Behind, Halted}
use Rattle.cx_service.specs.declared.update.ReadDone.{ReadDone}
use Rattle.cx_service.specs.declared.update.ReadDone.TheVariants.{Read, Queued, Full as FullRead, Worn as WornRead, Halted as HaltedRead}
use Rattle.cx_service.specs.declared.update.Updated.{Updated}
use Rattle.cx_service.specs.declared.update.Updated.TheVariants.{Done as UpdatedDone, Full as UpdatedFull, Worn as UpdatedWorn, Halted as UpdatedHalted}
use Rattle.cx_service.specs.Callers.{FindsCurrent, IsCallerOf, IsStoppedOf, StoppedSeat}
use Rattle.cx_attempts.specs.Attempts.{StepsOn}

-- A caller has seen a place: its front is at the place or above it, and so is what it found in CUR or what is behind an entry that it was
-- answered. So it links no entry below the place, and reads nothing below it.
pub record HasSeen (callers place : ℕ) (l : Local) : Type 0 where
  pub front : place ≤ l.front
  pub read : (place ≤ root_place_of callers l.seen_cur) ⊎ ((i : ℕ) × (x : Answer) × (slice_get l.answered i ≡ Some x) × (place ≤ x.ticket + 1))

-- What catching up leaves as it was. What was found in CUR and the front do not fall, and at most two steps are made.
pub record CatchUpKeeps (before after : Seated) : Type 0 where
  pub number : after.known.local.number ≡ before.known.local.number
  pub limit : after.known.local.limit ≡ before.known.local.limit
  pub own : after.known.local.own ≡ before.known.local.own
  pub answered : after.known.local.answered ≡ before.known.local.answered
  pub reads : after.known.local.seen_reads ≡ before.known.local.seen_reads
  pub met : after.known.local.met ≡ before.known.local.met
  pub scans : after.known.local.scans ≡ before.known.local.scans
  pub cur : before.known.local.seen_cur ≤ after.known.local.seen_cur
  pub front : before.known.local.front ≤ after.known.local.front
  pub steps : after.known.local.steps ≤ before.known.local.steps + 2
  pub times : KeepsTimes before.known.times after.known.times
  pub sets : after.known.sets ≡ before.known.sets
  pub images : images_of after.known ≡ images_of before.known

-- two steps were made, where their count is not at its end: the load of CUR, and the raise of DUR
abbrev pub MakesTwoSteps : Seated → Seated → Type 0
MakesTwoSteps before after = after.known.local.steps ≡ min (before.known.local.steps + 2) max_word

-- The code in CUR was loaded, and DUR raised by it. This is its place, which the caller has seen.
pub record SeesCurrent {O : Type 0} (r : Running O) (before after : Seated) (found : ℕ) : Type 0 where
  pub caller : IsCallerOf r after
  pub allowed : ¬ IsAtLimit before.known.local
  pub made : MakesTwoSteps before after
  pub finds : FindsCurrent before after
  pub is : found ≡ root_place_of r.callers after.known.local.seen_cur
  pub seen : HasSeen r.callers found after.known.local

-- The caller has seen the place: CUR was loaded in this call.
pub record CatchUpCaught {O : Type 0} (r : Running O) (place : ℕ) (before after : Seated) : Type 0 where
  pub caller : IsCallerOf r after
  pub keeps : CatchUpKeeps before after
  pub allowed : ¬ IsAtLimit before.known.local
  pub made : MakesTwoSteps before after
  pub finds : FindsCurrent before after
  pub seen : HasSeen r.callers place after.known.local

-- The place found in CUR by this call is below it.
pub record CatchUpBehind {O : Type 0} (r : Running O) (place found : ℕ) (before after : Seated) : Type 0 where
  pub caller : IsCallerOf r after
  pub keeps : CatchUpKeeps before after
  pub allowed : ¬ IsAtLimit before.known.local
  pub made : MakesTwoSteps before after
  pub finds : FindsCurrent before after
  pub is : found ≡ root_place_of r.callers after.known.local.seen_cur
  pub below : found < place

-- A further step is due: at most one of the two was made, and none is taken back.
pub record IsCatchingUp (before after : Seated) : Type 0 where
  pub fewer : after.known.local.steps < before.known.local.steps + 2
  pub since : StepsOn before after

-- A further step was to be made and the steps equal the limit.
pub record CatchUpHalted {O : Type 0} (r : Running O) (before : Seated) (after : StoppedSeat) : Type 0 where
  pub caller : IsStoppedOf r after.seat
  pub linked : after.linked ≡ None
  pub keeps : CatchUpKeeps before after.seat
  pub due : IsCatchingUp before after.seat

-- what catching up with a place leaves: the caller has caught up, the place found in CUR is below it, or the limit came before
abbrev pub CatchesUp : {O : Type 0} → Running O → ℕ → Seated → CaughtUp → Type 0
CatchesUp r place before (Caught after) = CatchUpCaught r place before after
CatchesUp r place before (Behind after found) = CatchUpBehind r place found before after
CatchesUp r place before (Halted after) = CatchUpHalted r before after

-- Catching up leaves its caller with a place seen. A stopped caller makes no further call.
abbrev pub CatchUpSees : ℕ → ℕ → CaughtUp → Type 0
CatchUpSees callers place (Caught after) = HasSeen callers place after.known.local
CatchUpSees callers place (Behind after found) = HasSeen callers place after.known.local
CatchUpSees callers place (Halted after) = Unit {0}

-- An update stands at or above a place and leaves its caller with the place seen, and so does one that is not answered.
abbrev pub UpdateSees : ℕ → ℕ → Updated → Type 0
UpdateSees callers place (UpdatedDone after ticket) = (place ≤ ticket) × HasSeen callers place after.known.local
UpdateSees callers place (UpdatedFull after note) = HasSeen callers place after.known.local
UpdateSees callers place (UpdatedWorn after) = HasSeen callers place after.known.local
UpdateSees callers place (UpdatedHalted after) = Unit {0}

-- A read stands at or above a place and leaves its caller with the place seen, whether it is answered beside the queue or as an entry of it.
abbrev pub ReadSees : ℕ → ℕ → ReadDone → Type 0
ReadSees callers place (Read after read) = (place ≤ read) × HasSeen callers place after.known.local
ReadSees callers place (Queued after ticket) = (place ≤ ticket) × HasSeen callers place after.known.local
ReadSees callers place (FullRead after note) = HasSeen callers place after.known.local
ReadSees callers place (WornRead after) = HasSeen callers place after.known.local
ReadSees callers place (HaltedRead after) = Unit {0}
