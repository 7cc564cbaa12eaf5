-- The order of operations by the steps of their callers.
use Rattle.std.specs.Prelude.{◌≡◌, ◌<◌, ◌≤◌, ℕ, List, Contains, ◌++◌, Some, slice_get}
use Rattle.core_runs.specs.Counting.{steps_of}
use Rattle.core_runs.specs.RealTime.{IsBefore, IsPointOf, Operation, Point}
use Rattle.core_runs.specs.RealTime.Operation.{Update, Read}
use Rattle.core_runs.specs.RealTime.Point.{At, Behind}
use Rattle.cx_core.specs.declared.kinds.Event.{Event}
use Rattle.cx_core.specs.Crash.{CrashImage, IsCrashImage, recovered}
use Rattle.cx_core.specs.Events.{Run}
use Rattle.cx_core.specs.Layout.{max_word}
use Rattle.cx_core.specs.State.{Instance, State}
use Rattle.table_invariant.specs.declared.rule.ImageTimes.{ImageTimes}
use Rattle.table_invariant.specs.Seats.{Seated}

-- A prefix of the list of all callers' steps has at least m of caller c and at most n of caller d. So in that list step m of c stands before each
-- step of d but its first n.
pub record IsBy (events : List Event) (c m d n : ℕ) : Type 0 where
  pub before : List Event
  pub after : List Event
  pub are : events ≡ before ++ after
  pub made : m ≤ steps_of c before
  pub not_more : steps_of d before ≤ n

-- the caller of an operation
abbrev pub caller_of : Operation → ℕ
caller_of (Update caller i) = caller
caller_of (Read caller i) = caller

-- the seat of an operation's caller says that the operation was answered when the caller had made m steps
abbrev pub IsOperationEnd : Seated → Operation → ℕ → Type 0
IsOperationEnd seat (Update caller i) m = (seat.known.local.number ≡ caller) × (slice_get seat.known.times.answered i ≡ Some m)
IsOperationEnd seat (Read caller i) m = (seat.known.local.number ≡ caller) × (x : ℕ × ℕ) × (slice_get seat.known.times.reads i ≡ Some x) × (x.1 ≡ m)

-- the seat of an operation's caller says that the operation had not begun when the caller had made n steps: the update was not linked, or CUR not
-- loaded for the read
abbrev pub IsBeginningOf : Seated → Operation → ℕ → Type 0
IsBeginningOf seat (Update caller i) n = (seat.known.local.number ≡ caller) × (slice_get seat.known.times.linked i ≡ Some n)
IsBeginningOf seat (Read caller i) n = (seat.known.local.number ≡ caller) × (x : ℕ × ℕ) × (slice_get seat.known.times.reads i ≡ Some x) × (x.0 ≡ n)

-- By the seats a was answered when its caller had made m steps, and b had not begun when its caller had made n. Where step m of a's caller stands in
-- the list before each step of b's caller but its first n, a stands before b in the history. A count of steps stays at 2^64 - 1, so that m says nothing.
abbrev pub KeepsCalls : List Event → List Seated → State → Type 0
KeepsCalls events seats to =
    (seat other : Seated) (a b : Operation) (m n : ℕ) (p q : Point) → Contains seats seat → Contains seats other → IsOperationEnd seat a m → IsBeginningOf other b n →
    m < max_word → IsBy events (caller_of a) m (caller_of b) n → IsPointOf to a p → IsPointOf to b q → IsBefore p q

-- the place of an operation in the history is below this one: an update's ticket is, and what a read has found is no more
abbrev pub IsPointBelow : ℕ → Point → Type 0
IsPointBelow place (At ticket) = ticket < place
IsPointBelow place (Behind read) = read ≤ place

-- What the images that callers took hold. By the seats a was answered when its caller had made m steps, and an image was begun when its caller had made
-- the steps that its times say. Where step m of a's caller stands in the list before each step of the image's caller but the first of these, a is below the
-- image's place. And from the step by which it was taken on, whatever a crash leaves is recovered at that place or a later one. A count of steps
-- stays at 2^64 - 1, where it says nothing.
pub record KeepsImages (instance : Instance) (from : State) (events : List Event) (seats : List Seated) (to : State) : Type 0 where
  pub holds : (seat other : Seated) (a : Operation) (m : ℕ) (p : Point) (x : ImageTimes) → Contains seats seat → Contains seats other → IsOperationEnd seat a m → Contains other.known.times.images x →
      m < max_word → IsBy events (caller_of a) m other.known.local.number x.begun → IsPointOf to a p → IsPointBelow x.place p
  pub durable : (other : Seated) (x : ImageTimes) (before after : List Event) (s : State) (image : CrashImage) → Contains seats other → Contains other.known.times.images x → x.ended < max_word →
      events ≡ before ++ after → Run instance from before s → x.ended ≤ steps_of other.known.local.number before → IsCrashImage instance s image → x.durable ≤ (recovered instance image).place
