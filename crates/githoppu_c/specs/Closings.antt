-- What C is answered where it closes a session, and where it asks for an image.
use Rattle.std.specs.Prelude.{◌≡◌, ◌≢◌, ◌⊎◌, ◌+◌, ℕ, ℤ, pos, List, length}
use Rattle.std.specs.Arc.{arc_value}
use Rattle.cx_base.specs.declared.object.Object.{Ghosts}
use Rattle.cx_service.specs.Closes.{seats_of}
use Rattle.cx_service.specs.declared.close.Handed.{Handed}
use Rattle.cx_table.specs.declared.remains.Remains.{Remains}
use Rattle.recovery.specs.Images.{image_size}
use Rattle.c_images.specs.Words.{AreRemainsWritten}
use Rattle.table_invariant.specs.Running.{Running}
use Rattle.c_sessions.specs.Closings.{Closes, ClosesTo, IsClosedWith}
use Rattle.c_sessions.specs.Handing.{IsSessionRestOf}
use Rattle.c_sessions.specs.declared.close.Closing.{Closing}
use Rattle.c_sessions.specs.declared.close.Closing.TheVariants.{Again as ClosingAgain, Closed as ClosingClosed, Kept as ClosingKept, Missing, Shared}
use Rattle.doc_store.specs.contracts.store.DocStoreObject.TheImpl.{ghosts as store_ghosts}
use Rattle.fifo_object.specs.contracts.fifo.FifoObject.TheImpl.{ghosts as queue_ghosts}
use Rattle.program_object.specs.contracts.object.ProgramObjectObject.TheImpl.{ghosts as program_ghosts}
use Rattle.githoppu_c.specs.Codes.{closing_code}
use Rattle.githoppu_c.specs.Contents.{OfAny, OfBoth}
use Rattle.githoppu_c.specs.declared.content.AnyHandleState.{AnyHandleState}
use Rattle.githoppu_c.specs.declared.content.HandleState.{HandleState}
use Rattle.githoppu_c.specs.declared.content.HandleState.TheVariants.{Session, Kept, Unclosed, Closed, Gone}

-- what a handle holds after its session was closed with this result
abbrev pub content_left : {O : Type 0} → Closing O → HandleState O
content_left (ClosingAgain session) = Session session
content_left (ClosingClosed remains account) = Closed remains
content_left (ClosingKept kept account) = Kept kept
content_left (Missing rest) = Unclosed rest
content_left (Shared rest) = Unclosed rest
content_left closing = Gone

-- What a handle holds was to be closed, `code` is the status, and `after` is what it holds then. A session is closed, with some result of its
-- closing. A service with all its callers is closed, or memory runs out again and it stays as it is. What the last session found is closed, with some
-- result of that closing. Of what is closed already, or gone, the call is refused as out of turn (6), and nothing is changed.
abbrev pub ContentCloses : {O : Type 0} → Ghosts O → ℤ → HandleState O → HandleState O → Type 0
ContentCloses {O = O} o code (Session session) after =
    (closing : Closing O) × Closes o.line_count o.lawful o.step o.only_reads session closing × (after ≡ content_left closing) × (code ≡ closing_code closing)
ContentCloses o code (Kept kept) after =
    ((remains : Remains) × IsClosedWith o.line_count o.lawful o.step o.only_reads kept.service (seats_of kept.callers.items) remains
    × (after ≡ Closed remains) × (code ≡ pos 0))
    ⊎ ((after ≡ Kept kept) × (code ≡ pos 8))
ContentCloses {O = O} o code (Unclosed rest) after =
    (closing : Closing O) × ((r : Running O) (given : List Handed) → IsSessionRestOf r given rest → ClosesTo o.line_count o.lawful o.step o.only_reads r (arc_value rest.exit.handover) given closing)
    × (after ≡ content_left closing) × (code ≡ closing_code closing)
ContentCloses o code before after = (after ≡ before) × (code ≡ pos 6)

-- what a handle holds, of any kind of object, was to be closed; `code` is the status, and `after` is what the handle holds then
abbrev pub ClosesAs : AnyHandleState → AnyHandleState → ℤ → Type 0
ClosesAs before after code = OfBoth (ContentCloses store_ghosts code) (ContentCloses queue_ghosts code) (ContentCloses program_ghosts code) before after

-- how many words an image has of the closed service that left `r`: a head of 8, and those of its replicas
abbrev pub remains_words : Remains → ℕ
remains_words r = image_size r.callers r.lines + 8

-- An image was to be written, by `choice`, of the closed service that left `r`, into a buffer of the words `before`; `needed` is the length of such
-- an image. A buffer of this length has the image, the words `after`. Another stays as it is, and the status is 7.
pub record WritesRemains (kind : ℕ) (r : Remains) (choice : ℕ) (before after : List ℕ) (needed : ℕ) (code : ℤ) : Type 0 where
  pub needed_is : needed ≡ remains_words r
  pub written : ((length before ≡ remains_words r) × (code ≡ pos 0) × AreRemainsWritten kind r choice after)
      ⊎ ((length before ≢ remains_words r) × (code ≡ pos 7) × (after ≡ before))

-- an image of what a handle holds was to be written: of what a closed service left it is as in `WritesRemains`; of anything else the call is refused
-- as out of turn (6), no word is written, and `needed` is 0
abbrev pub ContentImages : {O : Type 0} → ℕ → ℕ → List ℕ → List ℕ → ℕ → ℤ → HandleState O → Type 0
ContentImages kind choice before after needed code (Closed r) = WritesRemains kind r choice before after needed code
ContentImages kind choice before after needed code content = (after ≡ before) × (needed ≡ 0) × (code ≡ pos 6)

-- an image of what a handle holds, of any kind of object, was to be written: of what a closed service left it is as in `WritesRemains`, and of
-- anything else the call is refused as out of turn
abbrev pub Images : AnyHandleState → ℕ → List ℕ → List ℕ → ℕ → ℤ → Type 0
Images content choice before after needed code =
    OfAny (ContentImages 1 choice before after needed code) (ContentImages 2 choice before after needed code)
    (ContentImages 3 choice before after needed code) content
