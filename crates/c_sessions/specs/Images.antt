-- The result of having the caller of a session take an image of the object while others go on.
use Rattle.std.specs.Prelude.{◌≡◌, ℕ, List}
use Rattle.cx_base.specs.declared.object.Object.{Ghosts}
use Rattle.table_invariant.specs.Running.{Running}
use Rattle.table_invariant.specs.Seats.{Seated}
use Rattle.cx_service.specs.Checkpoints.{Checkpoints}
use Rattle.cx_service.specs.declared.checkpoint.Checkpointed.TheVariants.{Taken as ImageTaken, Pending as ImagePending, Halted as ImageHalted}
use Rattle.cx_service.specs.declared.close.Handed.{Handed}
use Rattle.cx_service.specs.declared.close.Handed.TheVariants.{Idle, Stopped}
use Rattle.c_sessions.specs.declared.checkpoint.SessionCheckpoint.{SessionCheckpoint}
use Rattle.c_sessions.specs.declared.checkpoint.SessionCheckpoint.TheVariants.{At, Again, Stopped as TakenStopped, OutOfTurn}

-- the session's place after it was to take an image: the image's place, and `before` where none was taken
abbrev pub place_taken : SessionCheckpoint → ℕ → ℕ
place_taken (At place) before = place
place_taken taken before = before

-- having a caller with no call under way take an image has this result, with these words where it is taken
abbrev pub TakesTo : {O : Type 0} → Ghosts O → Running O → List ℕ → ℕ → Seated → SessionCheckpoint → Handed → Type 0
TakesTo o r words tries before (At place) (Idle after) = Checkpoints o r words tries before (ImageTaken after place)
TakesTo o r words tries before Again (Idle after) = Checkpoints o r words tries before (ImagePending after)
TakesTo o r words tries before TakenStopped (Stopped after) = Checkpoints o r words tries before (ImageHalted after)
TakesTo o r words tries before taken after = ⊥

-- having a caller in any state take an image: out of turn where an entry is linked or the caller is stopped, and then nothing is changed
abbrev pub TakesFrom : {O : Type 0} → Ghosts O → Running O → List ℕ → ℕ → Handed → SessionCheckpoint → Handed → Type 0
TakesFrom o r words tries (Idle before) taken after = TakesTo o r words tries before taken after
TakesFrom o r words tries before taken after = (taken ≡ OutOfTurn) × (after ≡ before)
