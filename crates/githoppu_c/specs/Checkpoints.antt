-- What C is answered where a session takes an image while others go on.
use Rattle.std.specs.Prelude.{◌≡◌, ◌≢◌, ◌⊎◌, ◌+◌, ℕ, ℤ, pos, List, length}
use Rattle.std.specs.Arc.{arc_value}
use Rattle.cx_base.specs.declared.object.Object.{Ghosts}
use Rattle.cx_core.specs.Region.{region_words}
use Rattle.table_invariant.specs.Running.{Running}
use Rattle.c_images.specs.Taken.{IsWrittenOf}
use Rattle.c_sessions.specs.Sessions.{TakesIn}
use Rattle.c_sessions.specs.declared.session.Session.{Session}
use Rattle.c_sessions.specs.declared.checkpoint.SessionCheckpoint.{SessionCheckpoint}
use Rattle.c_sessions.specs.declared.checkpoint.SessionCheckpoint.TheVariants.{At, Again, Stopped, OutOfTurn}
use Rattle.doc_store.specs.contracts.store.DocStoreObject.TheImpl.{ghosts as store_ghosts}
use Rattle.fifo_object.specs.contracts.fifo.FifoObject.TheImpl.{ghosts as queue_ghosts}
use Rattle.program_object.specs.contracts.object.ProgramObjectObject.TheImpl.{ghosts as program_ghosts}
use Rattle.githoppu_c.specs.Contents.{IsCallable, OfBoth}
use Rattle.githoppu_c.specs.declared.content.AnyHandleState.{AnyHandleState}
use Rattle.githoppu_c.specs.declared.content.HandleState.{HandleState}
use Rattle.githoppu_c.specs.declared.content.HandleState.TheVariants.{Session as ContentSession}

-- the status that C is given for the result of taking an image
abbrev pub taken_code : SessionCheckpoint → ℤ
taken_code (At place) = pos 0
taken_code Again = pos 2
taken_code Stopped = pos 5
taken_code OutOfTurn = pos 6

-- how many words an image of a running service has: a head and one region
abbrev pub checkpoint_words : {O : Type 0} → Running O → ℕ
checkpoint_words r = region_words r.lines + 8

-- where the result is that an image was taken, `words` are an image, with a head that names this kind of object, of the words `region` of the replica
-- that was taken; of another result nothing is said
abbrev pub IsWrittenAs : {O : Type 0} → ℕ → Running O → List ℕ → SessionCheckpoint → List ℕ → Type 0
IsWrittenAs kind r region (At place) words = IsWrittenOf kind r.callers r.lines place region words
IsWrittenAs kind r region taken words = Unit {0}

-- the session `before` was to take an image, in 16 tries, and is `after` then; `code` is the status of the result, and `words` are the image where
-- one was taken
pub record TookImage {O : Type 0} (o : Ghosts O) (kind : ℕ) (before after : Session O) (words : List ℕ) (code : ℤ) : Type 0 where
  pub region : List ℕ
  pub taken : SessionCheckpoint
  pub takes : TakesIn o region 16 before taken after
  pub written : IsWrittenAs kind (arc_value before.service) region taken words
  pub is : code ≡ taken_code taken

-- A session was to take an image into a buffer of the words `words_before`; `needed` is told as the length of such an image. A buffer of this length
-- has `words` then, as the result `code` says. A buffer of another length stays as it is, and so does the session, and the status is 7.
pub record TakesAs {O : Type 0} (o : Ghosts O) (kind : ℕ) (before after : Session O) (words_before words : List ℕ) (needed : ℕ) (code : ℤ) : Type 0 where
  pub needed_is : needed ≡ checkpoint_words (arc_value before.service)
  pub took : ((length words_before ≡ checkpoint_words (arc_value before.service)) × TookImage o kind before after words code)
      ⊎ ((length words_before ≢ checkpoint_words (arc_value before.service)) × (code ≡ pos 7) × (words ≡ words_before) × (after ≡ before))

-- What a handle holds was to take an image. A session does as in `TakesAs`, and stays a session. Of anything else the call is refused as out of turn
-- (6), nothing is changed, and `needed` is 0.
abbrev pub ContentCheckpoints : {O : Type 0} → Ghosts O → ℕ → List ℕ → List ℕ → ℕ → ℤ → HandleState O → HandleState O → Type 0
ContentCheckpoints o kind words_before words needed code (ContentSession before) (ContentSession after) =
    TakesAs o kind before after words_before words needed code
ContentCheckpoints o kind words_before words needed code (ContentSession before) after = ⊥
ContentCheckpoints o kind words_before words needed code before after = (after ≡ before) × (words ≡ words_before) × (needed ≡ 0) × (code ≡ pos 6)

-- what a handle holds, of any kind of object, was to take an image: a session did as in `TakesAs`, and of anything else the call was refused as out
-- of turn
abbrev pub CheckpointsSession : AnyHandleState → AnyHandleState → List ℕ → List ℕ → ℕ → ℤ → Type 0
CheckpointsSession before after words_before words needed code =
    OfBoth (ContentCheckpoints store_ghosts 1 words_before words needed code) (ContentCheckpoints queue_ghosts 2 words_before words needed code)
    (ContentCheckpoints program_ghosts 3 words_before words needed code) before after

-- what C is answered where it has a session take an image: after the call the handle holds `after`, with which a further call may be made
pub record AnswersCheckpoint (before : AnyHandleState) (words_before words : List ℕ) (needed : ℕ) (code : ℤ) : Type 0 where
  pub after : AnyHandleState
  pub callable : IsCallable after
  pub comes_to : CheckpointsSession before after words_before words needed code
