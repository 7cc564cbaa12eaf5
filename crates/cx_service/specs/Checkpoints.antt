-- The result of a checkpoint: a caller takes the image of the current replica while others go on.
use Rattle.std.specs.Prelude.{◌≡◌, ◌<◌, ◌≤◌, ℕ, List, [], ◌∷◌, ◌++◌, slice_get, Some, None}
use Rattle.cx_base.specs.Codes.{root_place_of}
use Rattle.cx_base.specs.declared.object.Object.{Ghosts}
use Rattle.cx_core.specs.Base.{LawfulBase}
use Rattle.cx_core.specs.declared.local.Answer.{Answer}
use Rattle.cx_core.specs.declared.local.SeenRead.{SeenRead}
use Rattle.table_invariant.specs.Running.{Running}
use Rattle.table_invariant.specs.Seats.{IsAtLimit, Seated, images_of}
use Rattle.table_invariant.specs.Timing.{ImageIn}
use Rattle.cx_service.specs.declared.checkpoint.Checkpointed.{Checkpointed}
use Rattle.cx_service.specs.declared.checkpoint.Checkpointed.TheVariants.{Taken, Pending, Halted}
use Rattle.cx_service.specs.Callers.{FindsCurrent, IsCallerOf, IsStoppedOf, StoppedSeat}
use Rattle.cx_service.specs.Drives.{MeetsFewer}
use Rattle.cx_service.specs.Lookups.{ReadDue, ReadKeeps, ReadPending}

-- what each answer of a checkpoint leaves as it was
pub record CheckpointKeeps (before after : Seated) : Type 0 where
  pub lists : ReadKeeps before after
  pub reads : after.known.local.seen_reads ≡ before.known.local.seen_reads
  pub times : after.known.times.reads ≡ before.known.times.reads

-- The caller took one image more, these words at this place, and nothing else: they are a lawful base. The place is that of the code last found
-- in CUR, above each ticket and not below any place that the caller was answered before, and not above the caller's front. CUR was loaded in this call,
-- and DUR raised by the code found. The image was begun and taken by steps of this call, and its place was durable then. By these times the closing tells
-- that it holds what anyone was answered before (`KeepsImages`). The limit allowed a step.
pub record CheckpointTaken {O : Type 0} (o : Ghosts O) (r : Running O) (words : List ℕ) (place : ℕ) (before after : Seated) : Type 0 where
  pub caller : IsCallerOf r after
  pub keeps : CheckpointKeeps before after
  pub allowed : ¬ IsAtLimit before.known.local
  pub images : after.known.images ≡ before.known.images ++ words ∷ []
  pub times : ImageIn before.known.local.steps after.known.local.steps place before.known.times.images after.known.times.images
  pub base : LawfulBase r.lines (o.lawful r.object) (record { place = place; words = words })
  pub current : place ≡ root_place_of r.callers after.known.local.seen_cur
  pub finds : FindsCurrent before after
  pub reached : place ≤ after.known.local.front
  pub above : (i : ℕ) (x : Answer) → slice_get before.known.local.answered i ≡ Some x → x.ticket < place
  pub from : (i : ℕ) (x : SeenRead) → slice_get before.known.local.seen_reads i ≡ Some x → x.place ≤ place

-- A further step was to be made and the steps equal the limit. No image was taken. No entry is linked that no call has answered.
pub record CheckpointHalted {O : Type 0} (r : Running O) (before : Seated) (after : StoppedSeat) : Type 0 where
  pub caller : IsStoppedOf r after.seat
  pub linked : after.linked ≡ None
  pub keeps : CheckpointKeeps before after.seat
  pub images : images_of after.seat.known ≡ images_of before.known

-- The result of a checkpoint in this many attempts. The attempt that takes the image meets no refusal; one that is refused is as a read's.
abbrev pub Checkpoints : {O : Type 0} → Ghosts O → Running O → List ℕ → ℕ → Seated → Checkpointed → Type 0
Checkpoints o r words tries before (Taken after place) = CheckpointTaken o r words place before after × MeetsFewer tries before after
Checkpoints o r words tries before (Pending after) = ReadPending r tries before after
Checkpoints o r words tries before (Halted after) = CheckpointHalted r before after × ReadDue tries before after.seat
