-- The gaps that a write set leaves between the lines of its addresses, as they are noted one after another.
use Rattle.std.specs.Prelude.{◌≡◌, ◌+◌, ◌-◌, ◌*◌, ◌/◌, ◌^◌, ◌<◌, ◌≤◌, ◌⊎◌, ◌==◌, ◌||◌, ℕ, zero, suc, Bool, false, if◌then◌else◌, List, slice_index, Result, Ok, Err}
use Rattle.cx_base.specs.declared.object.Object.{Ghosts}
use Rattle.cx_core.specs.State.{one_more}
use Rattle.table_invariant.specs.Fitting.{Fitting}
use Rattle.table_invariant.specs.Offers.{TellsSet}
use Rattle.table_invariant.specs.Running.{IsSeatOf, Running}
use Rattle.table_invariant.specs.Seats.{Seated, StepsOn}
use Rattle.cx_table.specs.GapMarks.{AreKept}

-- the seat with this count of steps
abbrev pub with_steps : ℕ → Seated → Seated
with_steps steps s = record s { known = record s.known { local = record s.known.local { steps = steps } } }

-- no address of a set is in a line strictly between two
abbrev pub LeavesGap : List ℕ → ℕ → ℕ → Type 0
LeavesGap set from to = (m : ℕ) → m < slice_index set 0 → (slice_index set (2 * m + 1) < 8 * (from + 1)) ⊎ (8 * to ≤ slice_index set (2 * m + 1))

-- an address of a set is in this line
abbrev pub HasAddress : List ℕ → ℕ → Type 0
HasAddress set n = (m : ℕ) × (m < slice_index set 0) × (slice_index set (2 * m + 1) / 8 ≡ n)

-- whether one of the first pairs of a set has an address in this line
unfoldable pub is_among : List ℕ → ℕ → ℕ → Bool
is_among set n zero = false
is_among set n (suc m) = (slice_index set (2 * m + 1) / 8 == n) || is_among set n m

-- how many of the lines from 1 to this one have an address of a set
unfoldable pub lines_to : List ℕ → ℕ → ℕ
lines_to set zero = 0
lines_to set (suc n) = lines_to set n + (if is_among set (suc n) (slice_index set 0) then 1 else 0)

-- How many gaps a set leaves in a region of this many lines: one ends at each line after the first that has an address of the set, and one at the end.
abbrev pub gaps_of : List ℕ → ℕ → ℕ
gaps_of set lines = lines_to set (lines - 1) + 1

-- the next line after one that has an address of a set, or the end of the region
pub record IsNextLine (set : List ℕ) (lines from next : ℕ) : Type 0 where
  pub within : next ≤ lines
  pub gap : LeavesGap set from next
  pub ends : (next ≡ lines) ⊎ ((from < next) × HasAddress set next)

-- the line from which gap k goes on: that at which the one before ends, and 0 at first
abbrev pub begin_of : List ℕ → ℕ → ℕ
begin_of ends zero = 0
begin_of ends (suc k) = slice_index ends k

-- the first of these lines are the ends of gaps of a set, each of which begins where the one before ends, in a region of this size
pub record AreEnds (set : List ℕ) (lines : ℕ) (ends : List ℕ) (n : ℕ) : Type 0 where
  pub few : n ≤ 16
  pub within : (k : ℕ) → k < n → slice_index ends k ≤ lines
  pub each : (k : ℕ) → k < n → LeavesGap set (begin_of ends k) (slice_index ends k)

-- the first of these lines are the ends of all gaps of a set, each of which begins where the one before ends, to the end of a region of this size
pub record AreAllEnds (set : List ℕ) (lines : ℕ) (ends : List ℕ) (n : ℕ) : Type 0 where
  pub are : AreEnds set lines ends n
  pub last : begin_of ends n ≡ lines
  pub count : n ≡ gaps_of set lines

-- the gaps of a set are noted in a table with these callers and lines: it keeps gaps, and they fit into a ticket's slot
pub record AreGapsNoted (callers lines : ℕ) (set : List ℕ) : Type 0 where
  pub kept : AreKept callers lines
  pub few : gaps_of set (146 + lines) ≤ 16

-- a count of steps after more of them
abbrev pub steps_on : ℕ → ℕ → ℕ
steps_on zero steps = steps
steps_on (suc n) steps = one_more (steps_on n steps)

-- this many steps were made, and fewer where the limit ended it
abbrev pub NotesGaps : {A E : Type 0} → ℕ → Seated → Seated → Result A E → Type 0
NotesGaps n before after (Ok x) = after.known.local.steps ≡ steps_on n before.known.local.steps
NotesGaps n before after (Err e) = (k : ℕ) × (k < n) × (after.known.local.steps ≡ steps_on k before.known.local.steps)

-- A seat of the table whose notes tell that this is a write set of the ticket: the set's gaps may be noted.
pub record MayNote {O : Type 0} (o : Ghosts O) (r : Running O) (ticket : ℕ) (set : List ℕ) (seat : Seated) : Type 0 where
  pub of : IsSeatOf r seat
  pub small : ticket < 2 ^ 40
  pub tells : TellsSet r.lines (o.lawful r.object) r.base (o.step r.object) seat.known ticket set

-- nothing changed but the steps, of which none is taken back, and of what really is there some fits what is known
pub record KeepsNoting {O : Type 0} (o : Ghosts O) (r : Running O) (before after : Seated) : Type 0 where
  pub seat : after ≡ with_steps after.known.local.steps before
  pub of : IsSeatOf r after
  pub since : StepsOn before after
  pub fits : (after ≡ before) ⊎ Fitting r.lines (o.lawful r.object) r.base (o.step r.object) after.known
