-- One order of all operations of a run, by which each is the object's: what linearizability is by its definition.
use Rattle.std.specs.Prelude.{◌≡◌, ◌<◌, ◌⊎◌, ◌++◌, ℕ, IsTrue, List, [], ◌∷◌, Some, length, slice_get}
use Rattle.core_runs.specs.RealTime.{IsAhead, IsAnswered, Operation}
use Rattle.core_runs.specs.RealTime.Operation.{Update, Read}
use Rattle.cx_core.specs.declared.kinds.Event.{Event}
use Rattle.cx_core.specs.declared.local.Answer.{Answer}
use Rattle.cx_core.specs.declared.local.Linked.{Linked}
use Rattle.cx_core.specs.declared.local.Local.{Local}
use Rattle.cx_core.specs.declared.local.SeenRead.{SeenRead}
use Rattle.cx_core.specs.Events.{Run}
use Rattle.cx_core.specs.Lawful.{Lawful}
use Rattle.cx_core.specs.Region.{object_part}
use Rattle.cx_core.specs.State.{EachLocal, Instance, State}

-- an operation is in a list
abbrev pub IsIn : List Operation → Operation → Type 0
IsIn [] o = ⊥
IsIn (x ∷ xs) o = (o ≡ x) ⊎ IsIn xs o

-- in a list an operation stands before another one
abbrev pub StandsBefore : List Operation → Operation → Operation → Type 0
StandsBefore [] a b = ⊥
StandsBefore (x ∷ xs) a b = ((a ≡ x) × IsIn xs b) ⊎ StandsBefore xs a b

-- an operation took effect: an update is linked, answered or not, and a read is answered
abbrev pub TookEffect : State → Operation → Type 0
TookEffect s (Update caller i) = (l : Local) × (slice_get s.locals caller ≡ Some l) × (i < length l.own)
TookEffect s (Read caller i) = (l : Local) × (slice_get s.locals caller ≡ Some l) × (i < length l.seen_reads)

-- an operation precedes another one in a run: at a moment that the run of these events passes the one was answered and the other had not begun
pub record PrecedesIn (instance : Instance) (from : State) (events : List Event) (a b : Operation) : Type 0 where
  pub before : List Event
  pub after : List Event
  pub are : events ≡ before ++ after
  pub moment : State
  pub comes_by : Run instance from before moment
  pub answered : IsAnswered moment a
  pub ahead : IsAhead moment b

-- an operation that took effect has these words
abbrev pub HasOp : State → Operation → List ℕ → Type 0
HasOp s (Update caller i) op = (l : Local) × (slice_get s.locals caller ≡ Some l) × (x : Linked) × (slice_get l.own i ≡ Some x) × (op ≡ x.entry.op)
HasOp s (Read caller i) op = (l : Local) × (slice_get s.locals caller ≡ Some l) × (x : SeenRead) × (slice_get l.seen_reads i ≡ Some x) × (op ≡ x.op)

-- an operation was answered with these words
abbrev pub IsRepliedWith : State → Operation → List ℕ → Type 0
IsRepliedWith s (Update caller i) reply = (l : Local) × (slice_get s.locals caller ≡ Some l) × (x : Answer) × (slice_get l.answered i ≡ Some x) × (reply ≡ x.reply)
IsRepliedWith s (Read caller i) reply = (l : Local) × (slice_get s.locals caller ≡ Some l) × (x : SeenRead) × (slice_get l.seen_reads i ≡ Some x) × (reply ≡ x.reply)

-- An operation may be made as what it is: one that was answered as a read only reads, by the object.
abbrev pub MayBe : Instance → Operation → List ℕ → Type 0
MayBe instance (Update caller i) op = Unit {0}
MayBe instance (Read caller i) op = IsTrue (instance.reads op)

-- The object alone, from an image on, makes these operations one after another, reads among them, each by its step. Each reply that was given is
-- the one of this step.
abbrev pub Replays : Instance → State → List ℕ → List Operation → Type 0
Replays instance s image [] = Unit {0}
Replays instance s image (o ∷ os) =
    (op : List ℕ) × HasOp s o op × MayBe instance o op × ((reply : List ℕ) → IsRepliedWith s o reply → reply ≡ (instance.step image op).1) × Replays instance s (instance.step image op).0 os

-- A list has each operation that took effect in the run of these events, reads among them, each once, and no others. Where one was answered before
-- another one began, it stands before it. And the object alone, which makes them in this order, gives each reply that was given.
pub record IsOrderOf (instance : Instance) (from : State) (events : List Event) (to : State) (order : List Operation) : Type 0 where
  pub each : (o : Operation) → TookEffect to o → IsIn order o
  pub only : (o : Operation) → IsIn order o → TookEffect to o
  pub once : (o : Operation) → StandsBefore order o o → ⊥
  pub real_time : (a b : Operation) → PrecedesIn instance from events a b → TookEffect to b → StandsBefore order a b
  pub replays : Replays instance to (object_part instance.base.words) order

-- all operations that took effect in the run of these events have an order
pub record HasOrder (instance : Instance) (from : State) (events : List Event) (to : State) : Type 0 where
  pub order : List Operation
  pub is : IsOrderOf instance from events to order

-- a state in which no operation took effect
abbrev pub IsUnmade : State → Type 0
IsUnmade s = EachLocal s.locals (λ _ l. (l.own ≡ []) × (l.seen_reads ≡ []))

-- the operations of each run from a lawful state in which none took effect have an order
abbrev pub RunsHaveOrder : Instance → Type 0
RunsHaveOrder instance = (events : List Event) (from to : State) → Lawful instance from → IsUnmade from → Run instance from events to → HasOrder instance from events to
