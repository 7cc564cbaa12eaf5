-- An attempt by which its caller takes the image of the current replica.
use Rattle.std.specs.Prelude.{◌≡◌, ◌<◌, ◌≤◌, true, false, ℕ, List, [], ◌∷◌, ◌++◌, slice_get, Option, Some, None}
use Rattle.std.specs.List.{Contains}
use Rattle.cx_base.specs.Codes.{root_place_of}
use Rattle.cx_base.specs.declared.object.Object.{Ghosts}
use Rattle.cx_core.specs.Base.{LawfulBase}
use Rattle.cx_core.specs.declared.local.Answer.{Answer}
use Rattle.cx_core.specs.declared.local.SeenRead.{SeenRead}
use Rattle.table_invariant.specs.Fitting.{TellsWords, loaded_of}
use Rattle.table_invariant.specs.Raises.{known_answered}
use Rattle.table_invariant.specs.Rule.{IsLawfulLocal}
use Rattle.table_invariant.specs.Running.{IsSeatOf, Running, instance_at}
use Rattle.table_invariant.specs.Seats.{IsAtLimit, Seated, StepsBy, images_of, unanswered_ticket}
use Rattle.table_invariant.specs.Timing.{ImageIn}
use Rattle.cx_table.specs.Right.{Right}
use Rattle.cx_attempts.specs.Answering.{unchanged_by_raise}
use Rattle.cx_attempts.specs.Attempts.{HaltsAttempt, IsAtRest, StepsOn, AttemptRefused}
use Rattle.replica.specs.Held.{IsHeldSharedIn, unchanged_by_shared_access}

-- what no such attempt changes: what no step of an attempt does before its raise, but the greatest code that DUR was raised by, the floor, and the
-- images that the caller took, and when
abbrev pub unchanged_by_checkpoint : Seated → Seated
unchanged_by_checkpoint s = (let b = unchanged_by_raise s in record b { known = record b.known { times = record b.known.times { images = [] }; images = [] } })

-- the caller took no image
abbrev pub TakesNone : Seated → Seated → Type 0
TakesNone before after = images_of after.known ≡ images_of before.known

-- The caller took one image more, at a place: it is a lawful base. The place is that of the code last found in CUR, above each ticket and not
-- below any place that the caller was answered before. That code was loaded after this many steps of the caller, and DUR was raised by it. The image's
-- times are noted with it. No refusal is met, and the caller is at rest.
pub record TakesCheckpoint {O : Type 0} (o : Ghosts O) (r : Running O) (begun : ℕ) (image : List ℕ) (place : ℕ) (before after : Seated) : Type 0 where
  pub rest : IsAtRest after.known.local
  pub met : after.known.local.met ≡ before.known.local.met
  pub images : after.known.images ≡ before.known.images ++ image ∷ []
  pub times : ImageIn begun after.known.local.steps place before.known.times.images after.known.times.images
  pub base : LawfulBase r.lines (o.lawful r.object) (record { place = place; words = image })
  pub current : place ≡ root_place_of r.callers after.known.local.seen_cur
  pub loaded : after.known.times.loaded ≡ begun
  pub seen : after.known.times.seen ≡ true
  pub raised : after.known.local.seen_cur ≤ after.known.local.raised
  pub reached : place ≤ after.known.local.front
  pub above : (i : ℕ) (x : Answer) → slice_get before.known.local.answered i ≡ Some x → x.ticket < place
  pub from : (i : ℕ) (x : SeenRead) → slice_get before.known.local.seen_reads i ≡ Some x → x.place ≤ place

-- the result of an attempt that takes an image, for which CUR is loaded by its first step; one that is refused makes at most four steps
abbrev pub IsCheckpointAttempt : {O : Type 0} → Ghosts O → Running O → List ℕ → Seated → Seated → Option ℕ → Type 0
IsCheckpointAttempt o r image before after (Some place) = TakesCheckpoint o r before.known.local.steps image place before after
IsCheckpointAttempt o r image before after None = AttemptRefused before after × StepsBy 4 before after × StepsOn before after × TakesNone before after

-- the result of an attempt that takes an image and did not halt: the limit allowed a step
pub record AttemptsCheckpoint {O : Type 0} (o : Ghosts O) (r : Running O) (image : List ℕ) (before after : Seated) (place : Option ℕ) : Type 0 where
  pub allowed : ¬ IsAtLimit before.known.local
  pub attempted : IsCheckpointAttempt o r image before after place

-- The step limit was reached, and a further step was due. No image was taken.
pub record HaltsImage (before after : Seated) : Type 0 where
  pub halts : HaltsAttempt before after
  pub none : TakesNone before after

-- The current replica is held shared at its place, and beside it the caller is at rest, with each of its entries answered.
pub record IsAtCurrent {O : Type 0} (o : Ghosts O) (r : Running O) (seat : Seated) (hold : Right) : Type 0 where
  pub held : IsHeldSharedIn o r seat hold
  pub place : Contains (loaded_of seat.known.local.shared) (0, root_place_of r.callers seat.known.local.seen_cur)
  pub rest : IsAtRest (record seat.known.local { shared = None; fresh = false })
  pub answered : unanswered_ticket seat.known.local ≡ None

-- DUR was raised by a code, which answers nothing.
pub record RaisesCurrent {O : Type 0} (o : Ghosts O) (r : Running O) (code : ℕ) (before after : Seated) : Type 0 where
  pub made : after ≡ record before { known = known_answered (instance_at r o.step o.only_reads) code [] None before.known }
  pub lawful : IsLawfulLocal (instance_at r o.step o.only_reads) before.known.local
  pub seat : IsSeatOf r after

-- words of the replica held shared were loaded, no step was taken back, and nothing else was done
pub record LoadsSome {O : Type 0} (o : Ghosts O) (r : Running O) (hold : Right) (before after : Seated) : Type 0 where
  pub held : IsHeldSharedIn o r after hold
  pub since : StepsOn before after
  pub rest : unchanged_by_shared_access hold.replica after ≡ unchanged_by_shared_access hold.replica before
  pub kept : (x : ℕ × ℕ) → Contains (loaded_of before.known.local.shared) x → Contains (loaded_of after.known.local.shared) x

-- all of them were
pub record LoadsImage {O : Type 0} (o : Ghosts O) (r : Running O) (hold : Right) (image : List ℕ) (before after : Seated) : Type 0 where
  pub loads : LoadsSome o r hold before after
  pub tells : TellsWords after.known after.region image
