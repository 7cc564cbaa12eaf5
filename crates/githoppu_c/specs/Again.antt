-- What becomes of an image that the library wrote.
use Rattle.std.specs.Prelude.{◌≡◌, ◌⊎◌, ◌<◌, ℕ, ℤ, pos, List, Option, Result, true}
use Rattle.std.specs.Prelude.{MatchResult}
use Rattle.std.specs.Arc.{arc_value}
use Rattle.cx_base.specs.declared.object.Object.{Ghosts}
use Rattle.cx_core.specs.Base.{LawfulBase}
use Rattle.cx_core.specs.declared.entry.Base.{Base}
use Rattle.table_invariant.specs.Running.{IsTableWithinLimits, Running}
use Rattle.table_invariant.specs.Seats.{Seated}
use Rattle.cx_table.specs.declared.remains.Remains.{Remains}
use Rattle.recovery.specs.Kept.{IsKeptBy}
use Rattle.recovery.specs.declared.recovered_base.ImageFault.TheVariants.{Memory}
use Rattle.c_images.specs.Replies.{HoldsReplies, IsDocumentReply, IsQueueReply, IsReplyOfKind, RepliesGoOn}
use Rattle.c_images.specs.Taken.{IsWrittenOf, base_at}
use Rattle.c_images.specs.Words.{AreRemainsWritten, IsHeaded, IsTakenUp, IsWordsFault, lines_in, object_kind_in}
use Rattle.c_images.specs.declared.reader.WordsFault.{WordsFault}
use Rattle.c_images.specs.declared.reader.WordsFault.TheVariants.{Image}
use Rattle.c_images.specs.declared.replies.ReplyKind.{ReplyKind}
use Rattle.c_sessions.specs.Closings.{IsClosedOf}
use Rattle.doc_store.specs.contracts.store.DocStoreObject.TheImpl.{ghosts as store_ghosts}
use Rattle.doc_store.specs.declared.store.DocStore.{DocStore}
use Rattle.fifo_object.specs.contracts.fifo.FifoObject.TheImpl.{ghosts as queue_ghosts}
use Rattle.fifo_object.specs.declared.fifo.Fifo.{Fifo}
use Rattle.program_object.specs.Meaning.{is_other}
use Rattle.program_object.specs.contracts.object.ProgramObjectObject.TheImpl.{ghosts as program_ghosts}
use Rattle.program_object.specs.declared.object.ProgramObject.{ProgramObject}
use Rattle.githoppu_c.specs.Codes.{IsOpenCode}
use Rattle.githoppu_c.specs.Contents.{KeepsReplies}
use Rattle.githoppu_c.specs.Objects.{IsProgramFault, IsProgramIn, IsQueueFault, IsQueueIn, IsStoreFault, IsStoreIn, old_in_lines}
use Rattle.githoppu_c.specs.Outcomes.{WritesOutcome}
use Rattle.githoppu_c.specs.Recoveries.{AreFew, Recovers}
use Rattle.githoppu_c.specs.declared.content.AnyHandleState.{AnyHandleState}
use Rattle.githoppu_c.specs.declared.content.AnyHandleState.TheVariants.{Documents, Queue, Program}
use Rattle.githoppu_c.specs.declared.content.HandleState.{HandleState}
use Rattle.githoppu_c.specs.declared.content.HandleState.TheVariants.{Closed, Session}

-- No recovery of `words` fails but for memory or the sessions' new queue, which may not take its first entry: so it is for each number of sessions
-- from 1 to 8. The outcome of each session is told, unless memory runs out. Of each base that is recovered, of which `taken` holds, `kept` holds too.
-- `faulty` says which faults the words may have.
pub record IsTakenUpAgain (kind : ℕ) (taken : Base → Type 0) (faulty : WordsFault → Type 0) (kept : Base → Type 0) (words : List ℕ) : Type 0 where
  pub recovers : (count : ℕ) (code : ℤ) → AreFew count → Recovers kind taken faulty words count code → (code ≡ pos 0) ⊎ IsOpenCode code
  pub tells : (session number_before number : ℕ) (reply_before reply : List ℕ) (code : ℤ) → session < 8 →
      WritesOutcome words session number_before number reply_before reply code → (code ≡ pos 0) ⊎ (code ≡ pos 8)
  pub keeps : (base : Base) → taken base → kept base

-- No recovery of `words` with 1 to 8 sessions fails but for memory or the sessions' new queue, which may not take its first entry; and of each base
-- that is recovered, of which `taken` holds, `kept` holds too. Nothing is said of outcomes.
pub record IsRecoveredAgain (kind : ℕ) (taken : Base → Type 0) (faulty : WordsFault → Type 0) (kept : Base → Type 0) (words : List ℕ) : Type 0 where
  pub recovers : (count : ℕ) (code : ℤ) → AreFew count → Recovers kind taken faulty words count code → (code ≡ pos 0) ⊎ IsOpenCode code
  pub keeps : (base : Base) → taken base → kept base

-- a base is one that a crash of a closed service keeps, by the choice that picks what is lost: it holds each answer that was given, among others
abbrev pub IsKeptOfClosed : {O : Type 0} → Ghosts O → Running O → List Seated → Remains → ℕ → Base → Type 0
IsKeptOfClosed o = IsKeptBy o.line_count o.lawful o.step

-- the image `words`, which a crash leaves by `choice` of a closed service of an object `o`, is recovered as in `IsTakenUpAgain`, and the base is one
-- that this crash keeps. `r` is what the service left.
pub record IsAgain {O : Type 0} (o : Ghosts O) (kind : ℕ) (taken : Running O → Base → Type 0) (faulty : Running O → WordsFault → Type 0)
    (r : Remains) (choice : ℕ) (words : List ℕ) : Type 0 where
  pub table : Running O
  pub closed : IsClosedOf o.line_count o.lawful o.step o.only_reads table r
  pub again : IsTakenUpAgain kind (taken table) (faulty table) (IsKeptOfClosed o table closed.seats r choice) words

-- the image `words`, which a crash leaves by `choice` of a closed service of a document store, is recovered as in `IsTakenUpAgain`, and the base is
-- one that this crash keeps
abbrev pub IsStoreAgain : Remains → ℕ → List ℕ → Type 0
IsStoreAgain r choice words = IsAgain store_ghosts 1 (λ _. IsStoreIn words) (λ _. IsStoreFault words) r choice words

-- the image `words`, which a crash leaves by `choice` of a closed service of a queue, is recovered as in `IsTakenUpAgain`, and the base is one that
-- this crash keeps
abbrev pub IsQueueAgain : Remains → ℕ → List ℕ → Type 0
IsQueueAgain r choice words = IsAgain queue_ghosts 2 (λ _. IsQueueIn words) (λ _. IsQueueFault words) r choice words

-- a base is what recovery takes from `words` for the program of the service `table`, where images of the program with the fingerprint `before` are
-- taken too, or of none
abbrev pub is_program_in : List ℕ → Running ProgramObject → Option ℕ → Base → Type 0
is_program_in words table before = IsProgramIn table.object.version (old_in_lines table.object before) words

-- a fault is why recovery takes no base from `words` for the program of the service `table`, where images of the program with the fingerprint
-- `before` are taken too, or of none
abbrev pub is_program_fault : List ℕ → Running ProgramObject → Option ℕ → WordsFault → Type 0
is_program_fault words table before = IsProgramFault table.object.version (old_in_lines table.object before) words

-- the image `words` is recovered as in `IsRecoveredAgain` for the program of the service `table`, and of the base `kept` holds, whichever other
-- program's images the program takes over, or none
abbrev pub IsAgainWithAny : (Base → Type 0) → List ℕ → Running ProgramObject → Type 0
IsAgainWithAny kept words table =
    (before : Option ℕ) → is_other before table.object.version ≡ true
    → IsRecoveredAgain 3 (is_program_in words table before) (is_program_fault words table before) kept words

-- the image `words`, which a crash leaves by `choice` of a closed service of a program's object, is recovered as in `IsRecoveredAgain`, whichever
-- other program's images the program takes over, and the base is one that this crash keeps
pub record IsProgramAgain (r : Remains) (choice : ℕ) (words : List ℕ) : Type 0 where
  pub table : Running ProgramObject
  pub closed : IsClosedOf program_ghosts.line_count program_ghosts.lawful program_ghosts.step program_ghosts.only_reads table r
  pub again : IsAgainWithAny (IsKeptOfClosed program_ghosts table closed.seats r choice) words table

-- where the status `code` of writing an image is 0, the image `words` of the closed service that the handle holds is recovered, unless memory runs
-- out; of anything else nothing is said
abbrev pub ComesBack : AnyHandleState → ℕ → List ℕ → ℤ → Type 0
ComesBack (Documents (Closed r)) choice words code = code ≡ pos 0 → IsStoreAgain r choice words
ComesBack (Queue (Closed r)) choice words code = code ≡ pos 0 → IsQueueAgain r choice words
ComesBack (Program (Closed r)) choice words code = code ≡ pos 0 → IsProgramAgain r choice words
ComesBack content choice words code = Unit {0}

-- `words` are an image that a session took of the running service `r`: a head, and one region, which is a lawful base at its place
pub record IsRegionIn {O : Type 0} (o : Ghosts O) (kind : ℕ) (r : Running O) (words : List ℕ) : Type 0 where
  pub place : ℕ
  pub region : List ℕ
  pub base : LawfulBase r.lines (o.lawful r.object) (base_at place region)
  pub written : IsWrittenOf kind r.callers r.lines place region words

-- `words` are an image that a session took of the running service `r`. They are recovered as in `IsTakenUpAgain`, as the base that was taken, where
-- each result in it that has a number keeps a reply, of which `is` holds. Recovery looks at these replies too; of a running service they are known
-- only once it is closed.
pub record IsRegionAgain {O : Type 0} (o : Ghosts O) (kind : ℕ) (is : List ℕ → Type 0) (taken : Base → Type 0) (faulty : WordsFault → Type 0)
    (r : Running O) (words : List ℕ) : Type 0 where
  pub has : IsRegionIn o kind r words
  pub again : HoldsReplies is has.region → IsTakenUpAgain kind taken faulty (λ base. base ≡ base_at has.place has.region) words

-- the image `words` that a session took of the running document store `r` is recovered as in `IsTakenUpAgain`, as the base that was taken, where its
-- results keep replies
abbrev pub IsTakenStoreAgain : Running DocStore → List ℕ → Type 0
IsTakenStoreAgain r words = IsRegionAgain store_ghosts 1 IsDocumentReply (IsStoreIn words) (IsStoreFault words) r words

-- the image `words` that a session took of the running queue `r` is recovered as in `IsTakenUpAgain`, as the base that was taken, where its results
-- keep replies
abbrev pub IsTakenQueueAgain : Running Fifo → List ℕ → Type 0
IsTakenQueueAgain r words = IsRegionAgain queue_ghosts 2 IsQueueReply (IsQueueIn words) (IsQueueFault words) r words

-- the image `words` that a session took of a running service of a program's object is recovered as in `IsRecoveredAgain`, as the base that was taken,
-- whichever other program's images the program takes over, or none
pub record IsTakenProgramAgain (r : Running ProgramObject) (words : List ℕ) : Type 0 where
  pub has : IsRegionIn program_ghosts 3 r words
  pub again : IsAgainWithAny (λ base. base ≡ base_at has.place has.region) words r

-- where the status `code` of taking an image is 0, the image `words` of the service of the session that the handle holds is recovered, unless memory
-- runs out; of anything else nothing is said
abbrev pub TakenComesBack : AnyHandleState → List ℕ → ℤ → Type 0
TakenComesBack (Documents (Session session)) words code = code ≡ pos 0 → IsTakenStoreAgain (arc_value session.service) words
TakenComesBack (Queue (Session session)) words code = code ≡ pos 0 → IsTakenQueueAgain (arc_value session.service) words
TakenComesBack (Program (Session session)) words code = code ≡ pos 0 → IsTakenProgramAgain (arc_value session.service) words
TakenComesBack content words code = Unit {0}

-- ---- of any object, in its own words

-- reading a base of `object` from `words` is refused only where memory runs out, and of each base that it gives `kept` holds
abbrev pub IsAnsweredBy : {O : Type 0} → Ghosts O → O → List ℕ → (Base → Type 0) → Type 0
IsAnsweredBy o object words kept =
    (answer : Result Base WordsFault) → MatchResult answer (IsTakenUp (o.version_number object) (o.lawful object) (o.old_format object) words)
    (IsWordsFault (o.version_number object) (o.lawful object) (o.old_format object) words) → MatchResult answer kept (λ fault. fault ≡ Image Memory)

-- `words` begin with a head, which names this kind of object and this many lines
pub record IsOfKind (kind lines : ℕ) (words : List ℕ) : Type 0 where
  pub headed : IsHeaded words
  pub kind_is : object_kind_in words ≡ kind
  pub lines_are : lines_in words ≡ lines

-- `words` are an image that a crash leaves by `choice` of a closed service of an object `o`; `r` is what the service left. Reading a base from them
-- is refused only where memory runs out, and the base is one that this crash keeps. Its results keep replies of the kind `replies`, where each step
-- of the object gives such replies.
pub record IsLeftImage {O : Type 0} (o : Ghosts O) (kind : ℕ) (replies : ReplyKind) (choice : ℕ) (words : List ℕ) (r : Remains) : Type 0 where
  pub table : Running O
  pub closed : IsClosedOf o.line_count o.lawful o.step o.only_reads table r
  pub opened : KeepsReplies replies table
  pub of : IsOfKind kind (o.line_count table.object) words
  pub written : AreRemainsWritten kind r choice words
  pub up : IsAnsweredBy o table.object words (IsKeptOfClosed o table closed.seats r choice)
  pub goes_on : (base : Base) → IsTakenUp (o.version_number table.object) (o.lawful table.object) (o.old_format table.object) words base
      → RepliesGoOn (IsReplyOfKind replies) (o.lawful table.object) (o.step table.object) table.base.words base.words

-- where the status `code` of writing an image is 0, a base is read from the image `words` of the closed service that the handle holds, unless memory
-- runs out; of anything else nothing is said
abbrev pub ContentComesBack : {O : Type 0} → Ghosts O → ℕ → ReplyKind → ℕ → List ℕ → ℤ → HandleState O → Type 0
ContentComesBack o kind replies choice words code (Closed r) = code ≡ pos 0 → IsLeftImage o kind replies choice words r
ContentComesBack o kind replies choice words code content = Unit {0}

-- `words` are an image that a session took of the running service `r`, and reading a base from them gives the base that was taken, unless memory runs
-- out
pub record IsTakenImage {O : Type 0} (o : Ghosts O) (kind : ℕ) (words : List ℕ) (r : Running O) : Type 0 where
  pub running : IsTableWithinLimits o.line_count o.lawful r
  pub has : IsRegionIn o kind r words
  pub of : IsOfKind kind (o.line_count r.object) words
  pub up : IsAnsweredBy o r.object words (λ base. base ≡ base_at has.place has.region)

-- where the status `code` of taking an image is 0, the base that was taken is read from the image `words` of the service of the session that the
-- handle holds, unless memory runs out; of anything else nothing is said
abbrev pub ContentTakenBack : {O : Type 0} → Ghosts O → ℕ → List ℕ → ℤ → HandleState O → Type 0
ContentTakenBack o kind words code (Session session) = code ≡ pos 0 → IsTakenImage o kind words (arc_value session.service)
ContentTakenBack o kind words code content = Unit {0}
