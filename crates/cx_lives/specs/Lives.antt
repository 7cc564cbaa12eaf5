-- The result of one life.
use Rattle.std.specs.Prelude.{◌≡◌, ◌+◌, ◌-◌, ◌%◌, ◌^◌, ◌<◌, ◌≤◌, ℕ, Bool, List, [], ◌∷◌, length, slice_index, All, Option, None, Some}
use Rattle.cx_base.specs.Codes.{root_place_of}
use Rattle.cx_base.specs.OldFormat.{no_old_format}
use Rattle.cx_base.specs.declared.object.Object.{Ghosts}
use Rattle.core_order.specs.CrashedLives.{AllStand, AreCrashedLives, EndsAs, IsCrashedLife, LifeRun, kept_history, next_base}
use Rattle.cx_core.specs.Base.{LawfulBase}
use Rattle.cx_core.specs.declared.entry.Base.{Base}
use Rattle.cx_core.specs.declared.entry.Image.{Image}
use Rattle.table_invariant.specs.Ending.{Ending}
use Rattle.table_invariant.specs.Rule.{opening_limited}
use Rattle.table_invariant.specs.Running.{Running}
use Rattle.table_invariant.specs.Seats.{Seated}
use Rattle.cx_table.specs.declared.remains.Remains.{Remains}
use Rattle.life_records.specs.Ended.{IsFlagged, IsSameButKept}
use Rattle.life_records.specs.Told.{IsTold}
use Rattle.life_records.specs.Begins.{Begun, IsBaseOf, begun_after, nothing_begun}
use Rattle.life_records.specs.Meanings.{object_instance}
use Rattle.life_records.specs.Replies.{HasOpValues, HasReplyValues}
use Rattle.life_records.specs.Limits.{IsLifeInLimits}
use Rattle.life_records.specs.Lives.{AreLivesFrom, IsLegalLife}
use Rattle.life_records.specs.Scripts.{command_count}
use Rattle.life_records.specs.Records.{Life, LifeRecord, Meaning}
use Rattle.recovery.specs.Crashes.{IsLeftOf, AreRemainsWhole}
use Rattle.recovery.specs.Images.{IsReadable}
use Rattle.recovery.specs.Kept.{crash_of}
use Rattle.recovery.specs.Recovery.{IsRecovered}
use Rattle.typed_object.specs.Meaning.{HasMeaning}
use Rattle.cx_service.specs.ClosedOrder.{IsClosedLinearizable}
use Rattle.cx_lives.specs.Crash.{EndsInCrash}
use Rattle.cx_lives.specs.declared.crash.Crashed.{Crashed}
use Rattle.cx_lives.specs.declared.lives.Lived.{Lived}
use Rattle.cx_lives.specs.declared.lives.Ran.{Ran}

-- the table of a trail, whatever its object is
abbrev pub table_of : ℕ → ℕ → Ending → Running (Unit {0})
table_of callers lines trail = record { table = trail.table; callers = callers; lines = lines; base = trail.base; object = tt }

-- The history of a trail is a linearization of what its callers did, who are this many. The table with this trail was closed: its callers ended with the trail's
-- local states, and its steps, which are these, mean what the operations mean. By the order of all the steps that led to this closing it is what a linearizable
-- object leaves.
pub record IsLinearized {Op Reply Store : Type 0} (m : Meaning Op Reply Store) (lines : ℕ) (is_lawful : List ℕ → Type 0) (step : List ℕ → List ℕ → List ℕ × List ℕ) (reads : List ℕ → Bool)
    (callers : ℕ) (trail : Ending) : Type 0 where
  pub opening : List ℕ
  pub means : HasMeaning is_lawful opening step reads m
  pub seats : List Seated
  pub remains : Remains
  pub closed : IsClosedLinearizable (table_of callers lines trail) (object_instance step reads callers trail.base) seats remains
  pub trail_is : remains.trail ≡ trail

-- A record of a life is witnessed by the execution log of its service, whose callers are the clients, and whose history is a linearization of their commands. The life's choice takes
-- the code whose place ends what was kept, from the codes with which the service ended, in rising order.
pub record IsToldBy {Op Reply Store : Type 0} (m : Meaning Op Reply Store) (lines : ℕ) (is_lawful : List ℕ → Type 0) (step : List ℕ → List ℕ → List ℕ × List ℕ) (reads : List ℕ → Bool)
    (life : Life Op) (trail : Ending) (report : LifeRecord Reply) : Type 0 where
  pub is_told : IsTold m.encoding life trail.base.place trail.history trail.locals report
  pub kept : report.kept ≡ root_place_of life.clients (slice_index trail.chain (life.choice % length trail.chain)) - report.from
  pub order : IsLinearized m lines is_lawful step reads life.clients trail

-- a base from which a service of the object may start, that is what a life begins with
pub record BeginsLife {Op Reply Store : Type 0} (m : Meaning Op Reply Store) (lines : ℕ) (is_lawful : List ℕ → Type 0) (begun : Begun Store) (base : Base) : Type 0 where
  pub lawful : LawfulBase lines is_lawful base
  pub is : IsBaseOf m base begun

-- a life that may be run by a service that opens from a base, of an object of this many lines, with as many tickets left as it has commands
pub record CanBegin {Op Reply Store : Type 0} (m : Meaning Op Reply Store) (lines : ℕ) (is_lawful : List ℕ → Type 0) (life : Life Op) (base : Base) : Type 0 where
  pub enough : 64 ≤ lines
  pub few : lines ≤ 16384
  pub limits : IsLifeInLimits m.is_op 8 life
  pub lawful : LawfulBase lines is_lawful base
  pub tickets : base.place + length life.commands ≤ 2 ^ 40

-- a life that may be run over this object, whose lines and lawful words are meant
abbrev pub CanBeginOver : {O Op Reply Store : Type 0} → Ghosts O → O → Meaning Op Reply Store → Life Op → Base → Type 0
CanBeginOver o object m = CanBegin m (o.line_count object) (o.lawful object)

-- the record with these numbers of entries kept and of items, in which a stop line says kept exactly where its command has an
-- entry that is kept
pub record HasFlags {Reply : Type 0} (report : LifeRecord Reply) (kept items : ℕ) (flagged : LifeRecord Reply) : Type 0 where
  pub same : IsSameButKept report flagged
  pub stops : All (IsFlagged report.from kept report.journal) flagged.stops
  pub choice : flagged.choice ≡ report.choice
  pub kept_is : flagged.kept ≡ kept
  pub items_are : flagged.items ≡ items

-- A life that ran from a base ended in a crash by its choice, and the record says what was kept.
pub record HasLost {O Op Reply Store : Type 0} (o : Ghosts O) (m : Meaning Op Reply Store) (object : O) (base : Base) (life : Life Op) (report : LifeRecord Reply)
    (remains : Remains) (crashed : Crashed) (flagged : LifeRecord Reply) : Type 0 where
  pub limits : IsLifeInLimits m.is_op 8 life
  pub op_values : HasOpValues m life
  pub ends : EndsInCrash o m object base life.choice remains crashed
  pub flags : HasFlags report crashed.kept crashed.items flagged
  pub values : HasReplyValues m flagged

-- An image that may be read for an object of this many lines, and that a crash left, by the choice, of what the closed table of this trail left.
pub record LeavesImage {Op Reply Store : Type 0} {m : Meaning Op Reply Store} {lines : ℕ} {is_lawful : List ℕ → Type 0} {step : List ℕ → List ℕ → List ℕ × List ℕ} {reads : List ℕ → Bool} {callers : ℕ} {trail : Ending}
    (by : IsLinearized m lines is_lawful step reads callers trail) (choice : ℕ) (image : Image) : Type 0 where
  pub readable : IsReadable lines image
  pub whole : AreRemainsWhole by.remains
  pub left : IsLeftOf by.remains choice image

-- The run that the closed table of this trail made: all callers' steps, from the opening to the words and the local states that were closed,
-- and this image of them.
abbrev pub life_run : {Op Reply Store : Type 0} {m : Meaning Op Reply Store} {lines : ℕ} {is_lawful : List ℕ → Type 0} {step : List ℕ → List ℕ → List ℕ × List ℕ} {reads : List ℕ → Bool} {callers : ℕ} {trail : Ending}
    → IsLinearized m lines is_lawful step reads callers trail → Image → LifeRun
life_run {step = step} {reads = reads} {callers = callers} {trail = trail} by image = record {
  callers = callers;
  from = opening_limited (object_instance step reads callers trail.base) by.closed.leaves.reached.limits;
  events = by.closed.leaves.reached.events;
  to = record { words = by.closed.leaves.words; locals = by.closed.leaves.whole };
  image = crash_of image;
}

-- One life among others. A record of it is witnessed by the execution log of its service, which began with this base, that is with what the lives before it
-- kept. The life's crash left this image of what that service was when it was closed, and from this very image the base was recovered that a next life begins
-- with: what the core's definitions recover of the crash image of that run.
pub record IsLifeAmong {Op Reply Store : Type 0} (m : Meaning Op Reply Store) (lines version : ℕ) (is_lawful : List ℕ → Type 0) (step : List ℕ → List ℕ → List ℕ × List ℕ) (reads : List ℕ → Bool)
    (begun : Begun Store) (base : Base) (life : Life Op) (report : LifeRecord Reply) (trail : Ending) (image : Image) (next : Base) : Type 0 where
  pub witness : IsToldBy m lines is_lawful step reads life trail report
  pub began : trail.base ≡ base
  pub based : IsBaseOf m trail.base begun
  pub left : LeavesImage witness.order life.choice image
  pub recovered : IsRecovered version is_lawful no_old_format image next
  pub crashed : IsCrashedLife step reads trail.base (life_run witness.order image)
  pub next_is : next ≡ next_base step reads trail.base (life_run witness.order image)

-- The result of one life that begins with this base: a record of a legal life, which is one life among others; and the next life's base, which
-- is recovered from what the life's crash left.
pub record HasLived {Op Reply Store : Type 0} (m : Meaning Op Reply Store) (lines version : ℕ) (is_lawful : List ℕ → Type 0) (step : List ℕ → List ℕ → List ℕ × List ℕ) (reads : List ℕ → Bool)
    (life : Life Op) (begun : Begun Store) (base : Base) (ran : Ran Reply) : Type 0 where
  pub legal : IsLegalLife m begun.place begun.store life ran.report
  pub among : IsLifeAmong m lines version is_lawful step reads begun base life ran.report ran.trail ran.image ran.next
  pub next : BeginsLife m lines is_lawful (begun_after m begun life ran.report.journal ran.report.kept) ran.next
  pub few : ran.next.place ≤ base.place + length life.commands

-- a life has been run over this object, whose lines, version, lawful words and steps are meant
abbrev pub HasLivedOver : {O Op Reply Store : Type 0} → Ghosts O → O → Meaning Op Reply Store → Life Op → Begun Store → Base → Ran Reply → Type 0
HasLivedOver o object m = HasLived m (o.line_count object) (o.version_number object) (o.lawful object) (o.step object) (o.only_reads object)

-- what the lives behind these records begin with
abbrev pub begun_by : {Op Reply Store : Type 0} → Meaning Op Reply Store → Begun Store → List (Life Op) → List (LifeRecord Reply) → Begun Store
begun_by m begun [] records = begun
begun_by m begun (life ∷ lives) [] = begun
begun_by m begun (life ∷ lives) (report ∷ records) = begun_by m (begun_after m begun life report.journal report.kept) lives records

-- what the crash at the end of a life left, and the base that was recovered from it
pub record LifeEnd : Type 0 where
  pub image : Image
  pub next : Base

-- There is a trail for each life, which tells the life's record. The service of the first life began with this base, and that of each next life
-- with the base that was recovered from the image that the crash of the life before left.
abbrev pub AreToldFrom : {Op Reply Store : Type 0} → Meaning Op Reply Store → ℕ → ℕ → (List ℕ → Type 0) → (List ℕ → List ℕ → List ℕ × List ℕ) → (List ℕ → Bool) → Begun Store → Base
    → List (Life Op) → List (LifeRecord Reply) → List Ending → List LifeEnd → Type 0
AreToldFrom m lines version is_lawful step reads begun base [] [] [] [] = Unit {0}
AreToldFrom m lines version is_lawful step reads begun base (life ∷ lives) (report ∷ records) (trail ∷ trails) (end_ ∷ ends) =
    IsLifeAmong m lines version is_lawful step reads begun base life report trail end_.image end_.next
    × AreToldFrom m lines version is_lawful step reads (begun_after m begun life report.journal report.kept) end_.next lives records trails ends
AreToldFrom m lines version is_lawful step reads begun base _ _ _ _ = ⊥

-- the runs of the services of these lives, each with what the crash left of it
abbrev pub runs_of : {Op Reply Store : Type 0} (m : Meaning Op Reply Store) (lines version : ℕ) (is_lawful : List ℕ → Type 0) (step : List ℕ → List ℕ → List ℕ × List ℕ) (reads : List ℕ → Bool) (begun : Begun Store) (base : Base)
    (lives : List (Life Op)) (records : List (LifeRecord Reply)) (trails : List Ending) (ends : List LifeEnd) → AreToldFrom m lines version is_lawful step reads begun base lives records trails ends → List LifeRun
runs_of m lines version is_lawful step reads begun base (life ∷ lives) (report ∷ records) (trail ∷ trails) (end_ ∷ ends) are =
    life_run are.0.witness.order end_.image ∷ runs_of m lines version is_lawful step reads (begun_after m begun life report.journal report.kept) end_.next lives records trails ends are.1
runs_of m lines version is_lawful step reads begun base _ _ _ _ are = []

-- Runs, together, are one durable object. Each began with what is recovered of what a crash left of the one before, the first with this base. What the crashes
-- kept of their histories makes one history, by which each answer that any of them gave is the object's, and none that was answered is lost. A further one would
-- begin with the object after the whole of it.
pub record AreOneObject (lines : ℕ) (is_lawful : List ℕ → Type 0) (step : List ℕ → List ℕ → List ℕ × List ℕ) (reads : List ℕ → Bool) (first : Base) (runs : List LifeRun) : Type 0 where
  pub crashed : AreCrashedLives step reads first runs
  pub stand : AllStand step reads first (kept_history step reads first runs) first runs
  pub ends : EndsAs lines is_lawful step reads first runs

-- The one witness of lives, their records and their trails: how each life ended, with a first base that begins with nothing. The runs that it names are one
-- durable object. Where there is no life it says nothing of a base.
pub record AreTold {Op Reply Store : Type 0} (m : Meaning Op Reply Store) (lines version : ℕ) (is_lawful : List ℕ → Type 0) (step : List ℕ → List ℕ → List ℕ × List ℕ) (reads : List ℕ → Bool)
    (lives : List (Life Op)) (records : List (LifeRecord Reply)) (trails : List Ending) : Type 0 where
  pub first : Base
  pub begins : 0 < length lives → BeginsLife m lines is_lawful (nothing_begun m) first × (first.place ≡ 0)
  pub ends : List LifeEnd
  pub each : AreToldFrom m lines version is_lawful step reads (nothing_begun m) first lives records trails ends
  pub one : 0 < length lives → AreOneObject lines is_lawful step reads first (runs_of m lines version is_lawful step reads (nothing_begun m) first lives records trails ends each)

-- what the last of these crashes left; `so_far` where there was none
abbrev pub last_image : Option Image → List LifeEnd → Option Image
last_image so_far [] = so_far
last_image so_far (end_ ∷ ends) = last_image (Some end_.image) ends

-- the base that was recovered from what the last of these crashes left; `so_far` where there was none
abbrev pub last_next : Option Base → List LifeEnd → Option Base
last_next so_far [] = so_far
last_next so_far (end_ ∷ ends) = last_next (Some end_.next) ends

-- the base of a next life: the last one's, and of a first life one that begins with nothing
abbrev pub IsNextBase : {Op Reply Store : Type 0} → Meaning Op Reply Store → ℕ → (List ℕ → Type 0) → Option Base → Base → Type 0
IsNextBase m lines is_lawful None next = BeginsLife m lines is_lawful (nothing_begun m) next × (next.place ≡ 0)
IsNextBase m lines is_lawful (Some base) next = next ≡ base

-- where lives were run, what the last crash left, and the base that was recovered from it and goes on; else nothing
abbrev pub HaveEnded : {Op Reply Store : Type 0} → Meaning Op Reply Store → ℕ → ℕ → (List ℕ → Type 0) → Begun Store → List (Life Op) → Option Image → Option Base → Type 0
HaveEnded m lines version is_lawful begun lives None None = lives ≡ []
HaveEnded m lines version is_lawful begun lives (Some image) (Some base) =
    (0 < length lives) × IsRecovered version is_lawful no_old_format image base × BeginsLife m lines is_lawful begun base × (base.place ≤ command_count lives)
HaveEnded m lines version is_lawful begun lives _ _ = ⊥

-- The result of lives: their records are of legal lives, and witnessed by the execution logs of the services that ran them. By that witness the image is what
-- the last crash left, and the base what was recovered from it.
pub record HaveLived {Op Reply Store : Type 0} (m : Meaning Op Reply Store) (lines version : ℕ) (is_lawful : List ℕ → Type 0) (step : List ℕ → List ℕ → List ℕ × List ℕ) (reads : List ℕ → Bool)
    (lives : List (Life Op)) (lived : Lived Reply) : Type 0 where
  pub legal : AreLivesFrom m 0 m.opening lives lived.records
  pub witness : AreTold m lines version is_lawful step reads lives lived.records lived.trails
  pub image_is : lived.image ≡ last_image None witness.ends
  pub base_is : lived.base ≡ last_next None witness.ends
  pub ends : HaveEnded m lines version is_lawful (begun_by m (nothing_begun m) lives lived.records) lives lived.image lived.base

-- the lives of a script have been run over this object, whose lines, version, lawful words and steps are meant
abbrev pub HaveLivedOver : {O Op Reply Store : Type 0} → Ghosts O → O → Meaning Op Reply Store → List (Life Op) → Lived Reply → Type 0
HaveLivedOver o object m = HaveLived m (o.line_count object) (o.version_number object) (o.lawful object) (o.step object) (o.only_reads object)
