-- What a crash keeps of a closed table.
use Rattle.std.specs.Prelude.{◌≡◌, ◌+◌, ◌<◌, ◌≤◌, ℕ, List, Some, length, slice_get}
use Rattle.cx_base.specs.Codes.{root_place_of}
use Rattle.cx_core.specs.declared.entry.Base.{Base}
use Rattle.cx_core.specs.declared.entry.Entry.{Entry}
use Rattle.cx_core.specs.declared.entry.Image.{Image}
use Rattle.cx_core.specs.declared.local.Answer.{Answer}
use Rattle.cx_core.specs.declared.local.SeenRead.{SeenRead}
use Rattle.cx_core.specs.Base.{LawfulBase}
use Rattle.cx_core.specs.Crash.{CrashImage, IsCrashImage, IsKept}
use Rattle.cx_core.specs.History.{full_image}
use Rattle.cx_core.specs.State.{EachLocal, Instance, State}
use Rattle.table_invariant.specs.Running.{Running}
use Rattle.table_invariant.specs.Seats.{Seated}
use Rattle.cx_table.specs.declared.remains.Remains.{Remains}
use Rattle.cx_table.specs.Remains.{locals_of}
use Rattle.recovery.specs.Crashes.{left_root}
use Rattle.recovery.specs.Images.{words_from}

-- an image as the core's definitions see one: its root, and all its words
abbrev pub crash_of : Image → CrashImage
crash_of image = record { root = image.root; words = words_from image.pairs 0 image.count }

-- an image may be what a crash leaves of a state: it is of as many callers, for an object of this many lines, and a crash image
pub record MayBeLeftOf (instance : Instance) (line_count : ℕ) (s : State) (image : Image) : Type 0 where
  pub callers : image.callers ≡ instance.callers
  pub lines : image.lines ≡ line_count
  pub crash : IsCrashImage instance s (crash_of image)

-- What is recovered after a crash of a state with this history, by the root that was left: the full image after the root's
-- place, which is at or above DUR's and each answer's. It is a lawful base.
pub record IsKeptAt (lines : ℕ) (lawful : List ℕ → Type 0) (instance : Instance) (history : List Entry) (s : State) (root : ℕ) (base : Base) : Type 0 where
  pub place : base.place ≡ root_place_of instance.callers root
  pub words : base.words ≡ full_image instance.step instance.base history base.place
  pub kept : IsKept instance history s base
  pub again : LawfulBase lines lawful base

-- a table is of its object's lines, which are 64 to 16,384, and was opened from a lawful base
pub record IsOpened {O : Type 0} (line_count : O → ℕ) (lawful : O → List ℕ → Type 0) (table : Running O) : Type 0 where
  pub lines : table.lines ≡ line_count table.object
  pub enough : 64 ≤ table.lines
  pub small : table.lines ≤ 16384
  pub base : LawfulBase (line_count table.object) (lawful table.object) table.base

-- What is recovered by choice after a crash: the full image of the table's history after the place of the root that was
-- left. Each entry that was answered is below that place, and each read that was is at or below it. It is a lawful base.
pub record IsKeptBy {O : Type 0} (line_count : O → ℕ) (lawful : O → List ℕ → Type 0) (step : O → List ℕ → List ℕ → List ℕ × List ℕ)
    (table : Running O) (seats : List Seated) (r : Remains) (choice : ℕ) (base : Base) : Type 0 where
  pub place : base.place ≡ root_place_of table.callers (left_root r choice)
  pub from : table.base.place ≤ base.place
  pub to : base.place ≤ table.base.place + length r.trail.history
  pub words : base.words ≡ full_image (step table.object) table.base r.trail.history base.place
  pub answered : EachLocal (locals_of seats) (λ _ l. (i : ℕ) (x : Answer) → slice_get l.answered i ≡ Some x → x.ticket < base.place)
  pub reads : EachLocal (locals_of seats) (λ _ l. (i : ℕ) (x : SeenRead) → slice_get l.seen_reads i ≡ Some x → x.place ≤ base.place)
  pub again : LawfulBase (line_count table.object) (lawful table.object) base
