-- What is known of a caller of a service between its calls.
use Rattle.std.specs.Prelude.{◌≡◌, ◌+◌, ◌<◌, ◌≤◌, true, ℕ, length, min, slice_get, Option, Some, None}
use Rattle.cx_core.specs.declared.local.Linked.{Linked}
use Rattle.cx_core.specs.declared.local.Local.{Local}
use Rattle.cx_core.specs.Layout.{max_word}
use Rattle.cx_core.specs.QueueEvents.{cell_of}
use Rattle.table_invariant.specs.Running.{IsSeatOf, Running}
use Rattle.table_invariant.specs.Seats.{IsAtLimit, Seated}
use Rattle.cx_attempts.specs.Attempts.{IsAtRest}

-- Each ticket of a caller's cells is that of an own entry, no two cells have the same, and own tickets are below the front.
pub record HasOwnCells (l : Local) : Type 0 where
  pub own : (j t : ℕ) → (cell_of l j).ticket ≡ Some t → (i : ℕ) × (x : Linked) × (slice_get l.own i ≡ Some x) × (x.ticket ≡ t)
  pub apart : (j k t : ℕ) → (cell_of l j).ticket ≡ Some t → (cell_of l k).ticket ≡ Some t → j ≡ k
  pub to : (i : ℕ) (x : Linked) → slice_get l.own i ≡ Some x → x.ticket < l.front

-- the seat of a caller of this service that is in no call, with this many entries that are not answered
pub record IsBetweenCalls {O : Type 0} (unanswered : ℕ) (r : Running O) (seat : Seated) : Type 0 where
  pub of : IsSeatOf r seat
  pub rest : IsAtRest seat.known.local
  pub count : length seat.known.local.own ≡ length seat.known.local.answered + unanswered
  pub front : r.base.place ≤ seat.known.local.front
  pub cells : HasOwnCells seat.known.local

-- a caller of this service with no call under way: each of its entries is answered
abbrev pub IsCallerOf : {O : Type 0} → Running O → Seated → Type 0
IsCallerOf r seat = IsBetweenCalls 0 r seat

-- one whose last entry is linked and not answered
abbrev pub IsLinkedOf : {O : Type 0} → Running O → Seated → Type 0
IsLinkedOf r seat = IsBetweenCalls 1 r seat

-- CUR was loaded by a step of this call, and DUR was raised by the code found, or by a greater one. Of a caller that had made no step `seen` says that it
-- was loaded at all. A count of steps stays at 2^64 - 1, and says nothing then.
pub record FindsCurrent (before after : Seated) : Type 0 where
  pub loaded : min before.known.local.steps max_word ≤ after.known.times.loaded
  pub seen : after.known.times.seen ≡ true
  pub raised : after.known.local.seen_cur ≤ after.known.local.raised

-- a caller that is stopped: its seat, and the ticket of its linked entry that no call has answered
pub record StoppedSeat : Type 0 where
  pub seat : Seated
  pub linked : Option ℕ

-- one without such an entry
abbrev pub unlinked : Seated → StoppedSeat
unlinked seat = record { seat = seat; linked = None }

-- one whose steps reached its limit
pub record IsStoppedOf {O : Type 0} (r : Running O) (seat : Seated) : Type 0 where
  pub of : IsSeatOf r seat
  pub limit : IsAtLimit seat.known.local
