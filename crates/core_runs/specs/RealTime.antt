-- Real-time order: where one operation was answered before another one began, it stands before it in the history.
use Rattle.std.specs.Prelude.{◌≡◌, ◌<◌, ◌≤◌, ℕ, false, List, Some, length, slice_get}
use Rattle.cx_core.specs.declared.kinds.Event.{Event}
use Rattle.cx_core.specs.declared.local.Linked.{Linked}
use Rattle.cx_core.specs.declared.local.Local.{Local}
use Rattle.cx_core.specs.declared.local.SeenRead.{SeenRead}
use Rattle.cx_core.specs.Events.{Run}
use Rattle.cx_core.specs.State.{Instance, State}

-- an operation of a caller: its update with this index among its entries, or its read with this index among its reads
pub data Operation : Type 0 where
  Update : ℕ → ℕ → Operation
  Read : ℕ → ℕ → Operation

-- in a state it was answered
abbrev pub IsAnswered : State → Operation → Type 0
IsAnswered s (Update caller i) = (l : Local) × (slice_get s.locals caller ≡ Some l) × (i < length l.answered)
IsAnswered s (Read caller i) = (l : Local) × (slice_get s.locals caller ≡ Some l) × (i < length l.seen_reads)

-- in a state it has not begun: the update is not linked; the read is not answered, and no load of CUR stands that it may be answered by
abbrev pub IsAhead : State → Operation → Type 0
IsAhead s (Update caller i) = (l : Local) × (slice_get s.locals caller ≡ Some l) × (length l.own ≤ i)
IsAhead s (Read caller i) = (l : Local) × (slice_get s.locals caller ≡ Some l) × (length l.seen_reads ≤ i) × (l.fresh ≡ false)

-- An operation precedes another one in real time, in a run from one state to another: the run comes by a moment at which the one was answered and the
-- other had not begun.
pub record Precedes (instance : Instance) (from to : State) (a b : Operation) : Type 0 where
  pub before : List Event
  pub moment : State
  pub after : List Event
  pub comes_by : Run instance from before moment
  pub goes_on : Run instance moment after to
  pub answered : IsAnswered moment a
  pub ahead : IsAhead moment b

-- where an operation stands in the history: an update at its ticket, a read behind all entries below its place
pub data Point : Type 0 where
  At : ℕ → Point
  Behind : ℕ → Point

-- in a state an operation that took effect stands at this point of the history
abbrev pub IsPointOf : State → Operation → Point → Type 0
IsPointOf s (Update caller i) point = (l : Local) × (slice_get s.locals caller ≡ Some l) × (x : Linked) × (slice_get l.own i ≡ Some x) × (point ≡ At x.ticket)
IsPointOf s (Read caller i) point = (l : Local) × (slice_get s.locals caller ≡ Some l) × (x : SeenRead) × (slice_get l.seen_reads i ≡ Some x) × (point ≡ Behind x.place)

-- one point is before another. Two reads at one place have the same reply, in whichever order.
abbrev pub IsBefore : Point → Point → Type 0
IsBefore (At ticket) (At later) = ticket < later
IsBefore (At ticket) (Behind place) = ticket < place
IsBefore (Behind place) (At ticket) = place ≤ ticket
IsBefore (Behind place) (Behind later) = place ≤ later

-- the history keeps the real-time order of a run
abbrev pub KeepsRealTime : Instance → State → State → Type 0
KeepsRealTime instance from to = (a b : Operation) (p q : Point) → Precedes instance from to a b → IsPointOf to a p → IsPointOf to b q → IsBefore p q
