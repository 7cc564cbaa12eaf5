-- The lawful state's part on answers: each is the history's, and durable.
use Rattle.std.specs.Prelude.{◌≡◌, ◌<◌, ◌≤◌, ℕ, IsTrue, List, Some, length, slice_get, slice_index}
use Rattle.cx_base.specs.Codes.{root_place_of}
use Rattle.cx_base.specs.Memory.{Words}
use Rattle.cx_core.specs.declared.entry.Entry.{Entry}
use Rattle.cx_core.specs.declared.local.Answer.{Answer}
use Rattle.cx_core.specs.declared.local.Linked.{Linked}
use Rattle.cx_core.specs.declared.local.Local.{Local}
use Rattle.cx_core.specs.declared.local.SeenRead.{SeenRead}
use Rattle.cx_core.specs.History.{reply_at}
use Rattle.cx_core.specs.Layout.{dur_at}
use Rattle.cx_core.specs.Region.{object_part}
use Rattle.cx_core.specs.RootEvents.{reply_after}
use Rattle.cx_core.specs.State.{EachLocal, Instance}

-- the place up to which everything is durable
abbrev pub durable_place : Instance → List ℕ → ℕ
durable_place instance words = root_place_of instance.callers (slice_index words dur_at)

-- an answer has the history's reply at its ticket, which is below the end of what is durable and below the caller's floor
pub record IsAnswer (instance : Instance) (history : List Entry) (end_ : ℕ) (l : Local) (x : Answer) : Type 0 where
  pub reply : reply_at instance.step instance.base.place (object_part instance.base.words) history x.ticket ≡ Some x.reply
  pub durable : x.ticket < end_
  pub below_floor : x.ticket < l.floor

-- an answered read's operation is words and only reads, and it has the object's reply after the entries below its place. The place
-- is from the base's on and durable, and at most the caller's floor. As many of the caller's own entries as are counted have tickets below it,
-- all of them answered, and each later one has a ticket at or above it.
pub record IsRead (instance : Instance) (history : List Entry) (end_ : ℕ) (l : Local) (x : SeenRead) : Type 0 where
  pub words : Words 144 x.op
  pub reads : IsTrue (instance.reads x.op)
  pub reply : x.reply ≡ reply_after instance history x.place x.op
  pub from : instance.base.place ≤ x.place
  pub durable : x.place ≤ end_
  pub up_to_floor : x.place ≤ l.floor
  pub before : x.before ≤ length l.answered
  pub below : (i : ℕ) (y : Linked) → slice_get l.own i ≡ Some y → i < x.before → y.ticket < x.place
  pub above : (i : ℕ) (y : Linked) → slice_get l.own i ≡ Some y → x.before ≤ i → x.place ≤ y.ticket

-- along reads neither places nor counts fall
abbrev pub NeverFall : List SeenRead → Type 0
NeverFall reads = (i j : ℕ) (x y : SeenRead) → slice_get reads i ≡ Some x → slice_get reads j ≡ Some y → i ≤ j → (x.place ≤ y.place) × (x.before ≤ y.before)

-- what a caller was answered is the history's, where what is below this place is durable, and along its reads neither places nor counts fall
pub record AreAnswers (instance : Instance) (history : List Entry) (end_ : ℕ) (l : Local) : Type 0 where
  pub entries : (i : ℕ) (x : Answer) → slice_get l.answered i ≡ Some x → IsAnswer instance history end_ l x
  pub reads : (i : ℕ) (x : SeenRead) → slice_get l.seen_reads i ≡ Some x → IsRead instance history end_ l x
  pub rise : NeverFall l.seen_reads

-- Answers: what each caller was answered is the history's, and DUR's place is the end of what is durable
pub record Answers (instance : Instance) (history : List Entry) (words : List ℕ) (locals : List Local) : Type 0 where
  pub each : EachLocal locals (λ _ l. AreAnswers instance history (durable_place instance words) l)
