-- When a caller's operations began and were answered: a moment of the run of all callers, by how many steps the caller had made.
use Rattle.std.specs.Prelude.{◌≡◌, ◌+◌, ◌<◌, ◌≤◌, ◌⊎◌, true, false, ℕ, min, List, [], ◌∷◌, ◌++◌, Some, length, slice_get}
use Rattle.cx_base.specs.Codes.{root_place_of}
use Rattle.core_runs.specs.RealTime.{IsAhead, IsAnswered, Operation}
use Rattle.core_runs.specs.RealTime.Operation.{Update, Read}
use Rattle.cx_core.specs.declared.kinds.Event.{Event}
use Rattle.cx_core.specs.declared.local.Answer.{Answer}
use Rattle.cx_core.specs.declared.local.Local.{Local}
use Rattle.cx_core.specs.declared.local.SeenRead.{SeenRead}
use Rattle.cx_core.specs.Events.{Run}
use Rattle.cx_core.specs.LawfulAnswers.{durable_place}
use Rattle.cx_core.specs.Layout.{max_word}
use Rattle.cx_core.specs.State.{EachLocal, Instance, State}
use Rattle.table_invariant.specs.declared.rule.ImageTimes.{ImageTimes}
use Rattle.table_invariant.specs.declared.rule.Times.{Times}

-- the run of these events passes a moment at which a caller had made this number of steps
pub record ComesBy (instance : Instance) (from : State) (events : List Event) (caller steps : ℕ) : Type 0 where
  pub before : List Event
  pub after : List Event
  pub are : events ≡ before ++ after
  pub moment : State
  pub run : Run instance from before moment
  pub local : Local
  pub of_caller : slice_get moment.locals caller ≡ Some local
  pub count : local.steps ≡ steps

-- at such a moment an operation had not begun
pub record BeginsAt (instance : Instance) (from : State) (events : List Event) (caller : ℕ) (operation : Operation) (steps : ℕ) : Type 0 where
  pub by : ComesBy instance from events caller steps
  pub ahead : IsAhead by.moment operation

-- at such a moment an operation was answered
pub record EndsAt (instance : Instance) (from : State) (events : List Event) (caller : ℕ) (operation : Operation) (steps : ℕ) : Type 0 where
  pub by : ComesBy instance from events caller steps
  pub answered : IsAnswered by.moment operation

-- all that any caller was answered in a state is below a place
abbrev pub AllBelow : ℕ → State → Type 0
AllBelow place s = EachLocal s.locals (λ _ l.
    ((i : ℕ) (x : Answer) → slice_get l.answered i ≡ Some x → x.ticket < place) × ((i : ℕ) (x : SeenRead) → slice_get l.seen_reads i ≡ Some x → x.place ≤ place))

-- at such a moment, behind which the caller's next step comes at once, all that anyone was answered is below a place
pub record BelowAt (instance : Instance) (from : State) (events : List Event) (caller place steps : ℕ) : Type 0 where
  pub by : ComesBy instance from events caller steps
  pub next : (event : Event) × (rest : List Event) × (by.after ≡ event ∷ rest) × (event.caller ≡ caller)
  pub below : AllBelow place by.moment

-- at such a moment, to which the caller's own step led, a place is durable
pub record DurableAt (instance : Instance) (from : State) (events : List Event) (caller place steps : ℕ) : Type 0 where
  pub by : ComesBy instance from events caller steps
  pub last : (front : List Event) × (event : Event) × (by.before ≡ front ++ event ∷ []) × (event.caller ≡ caller)
  pub durable : place ≤ durable_place instance by.moment.words

-- The times of a caller's operations: each entry, answer and read has one, a moment of the run at which it began or was answered. At the load of CUR all
-- that anyone was answered is below the place of what was seen of CUR since. So it is below an image's place where the image began, and the place noted as
-- durable was so where it ended.
pub record AreTimes (instance : Instance) (from : State) (events : List Event) (caller : ℕ) (l : Local) (t : Times) : Type 0 where
  pub all_linked : length t.linked ≡ length l.own
  pub linked : (i n : ℕ) → slice_get t.linked i ≡ Some n → BeginsAt instance from events caller (Update caller i) n
  pub all_answered : length t.answered ≡ length l.answered
  pub answered : (i n : ℕ) → slice_get t.answered i ≡ Some n → EndsAt instance from events caller (Update caller i) n
  pub loaded : l.fresh ≡ true → BeginsAt instance from events caller (Read caller (length l.seen_reads)) t.loaded
  pub all_reads : length t.reads ≡ length l.seen_reads
  pub begun : (i : ℕ) (x : ℕ × ℕ) → slice_get t.reads i ≡ Some x → BeginsAt instance from events caller (Read caller i) x.0
  pub read : (i : ℕ) (x : ℕ × ℕ) → slice_get t.reads i ≡ Some x → EndsAt instance from events caller (Read caller i) x.1
  pub seen : l.fresh ≡ true → t.seen ≡ true
  pub current : t.seen ≡ true → BelowAt instance from events caller (root_place_of instance.callers l.seen_cur) t.loaded
  pub images : (i : ℕ) (x : ImageTimes) → slice_get t.images i ≡ Some x → BelowAt instance from events caller x.place x.begun × DurableAt instance from events caller x.durable x.ended

-- An image is taken by a caller's step, once CUR was loaded: these are its times.
pub record IsImageTaken (callers : ℕ) (l l' : Local) (t : Times) (x : ImageTimes) : Type 0 where
  pub seen : t.seen ≡ true
  pub begun : x.begun ≡ t.loaded
  pub ended : x.ended ≡ l'.steps
  pub place : x.place ≡ root_place_of callers l.seen_cur
  pub durable : x.durable ≡ root_place_of callers l.raised

-- A caller's step adds to them what it links, answers and loads, and the image that it takes.
pub record AddTimes (callers : ℕ) (l l' : Local) (t t' : Times) : Type 0 where
  pub linked : ((length l'.own ≡ length l.own) × (t'.linked ≡ t.linked)) ⊎ ((length l'.own ≡ length l.own + 1) × (t'.linked ≡ t.linked ++ l.steps ∷ []))
  pub answered : ((length l'.answered ≡ length l.answered) × (t'.answered ≡ t.answered)) ⊎ ((length l'.answered ≡ length l.answered + 1) × (t'.answered ≡ t.answered ++ l'.steps ∷ []))
  pub loaded : l'.fresh ≡ true → (length l'.seen_reads ≡ length l.seen_reads) × (((l.fresh ≡ true) × (t'.loaded ≡ t.loaded)) ⊎ ((l.fresh ≡ false) × (t'.loaded ≡ l.steps)))
  pub reads : ((length l'.seen_reads ≡ length l.seen_reads) × (t'.reads ≡ t.reads))
      ⊎ ((l.fresh ≡ true) × (length l'.seen_reads ≡ length l.seen_reads + 1) × (t'.reads ≡ t.reads ++ (t.loaded, l'.steps) ∷ []))
  pub current : ((t'.loaded ≡ t.loaded) × (t'.seen ≡ t.seen) × (l'.fresh ≡ true → l.fresh ≡ true))
      ⊎ ((t'.loaded ≡ l.steps) × (t'.seen ≡ true) × (l.fresh ≡ false) × (l'.fresh ≡ true))
  pub images : (t'.images ≡ t.images) ⊎ ((x : ImageTimes) × (t'.images ≡ t.images ++ x ∷ []) × IsImageTaken callers l l' t x)

-- An entry was linked when its caller had made at least this number of steps, or 2^64 - 1, at which a count stays: the list of counts has one more.
pub record BeginsIn (first : ℕ) (old new : List ℕ) : Type 0 where
  pub at : ℕ
  pub from : min first max_word ≤ at
  pub is : new ≡ old ++ at ∷ []

-- An entry was answered when its caller had made at most this number of steps: the list of counts has one more.
pub record EndsIn (last : ℕ) (old new : List ℕ) : Type 0 where
  pub at : ℕ
  pub to : at ≤ last
  pub is : new ≡ old ++ at ∷ []

-- A read was answered, which began when its caller had made at least the first number of steps, or 2^64 - 1, at which a count stays, and ended when
-- the caller had made at most the last number: the list of both counts has one more.
pub record ReadsIn (first last : ℕ) (old new : List (ℕ × ℕ)) : Type 0 where
  pub begun : ℕ
  pub ended : ℕ
  pub from : min first max_word ≤ begun
  pub to : ended ≤ last
  pub is : new ≡ old ++ (begun, ended) ∷ []

-- An image at a place was taken, which began when its caller had made at least the first number of steps and ended when it had made at most the last, and
-- the place was durable then: the list of images has one more.
pub record ImageIn (first last place : ℕ) (old new : List ImageTimes) : Type 0 where
  pub image : ImageTimes
  pub from : min first max_word ≤ image.begun
  pub to : image.ended ≤ last
  pub at : image.place ≡ place
  pub durable : place ≤ image.durable
  pub is : new ≡ old ++ image ∷ []

-- what is known of the times of a caller's entries, answers and reads is as it was
pub record KeepsTimes (before after : Times) : Type 0 where
  pub linked : after.linked ≡ before.linked
  pub answered : after.answered ≡ before.answered
  pub reads : after.reads ≡ before.reads
