-- Good traces: their events are a run, and after each crash the named place is recovered.
use Rattle.std.specs.Prelude.{◌≡◌, ◌≤◌, ◌++◌, ℕ, List, [], ◌∷◌, Some, slice_get, take}
use Rattle.cx_base.specs.Callers.{AreCallers}
use Rattle.cx_base.specs.OldFormat.{no_old_format}
use Rattle.cx_base.specs.declared.object.Object.{Ghosts}
use Rattle.cx_core.specs.Base.{LawfulBase}
use Rattle.cx_core.specs.declared.entry.Base.{Base}
use Rattle.cx_core.specs.declared.entry.Image.{Image}
use Rattle.cx_core.specs.declared.kinds.Event.{Event as CoreEvent}
use Rattle.cx_core.specs.Events.{Run}
use Rattle.cx_core.specs.Lawful.{Lawful}
use Rattle.cx_core.specs.State.{Instance, State}
use Rattle.recovery.specs.Kept.{IsKeptAt}
use Rattle.recovery.specs.Recovery.{IsAccepted, place_in_root, recovered_from}
use Rattle.trace_text.specs.declared.trace.TraceLine.{TraceLine}
use Rattle.trace_text.specs.declared.trace.TraceWhat.{TraceWhat}
use Rattle.trace_text.specs.declared.trace.TraceWhat.TheVariants.{Event, Crash}
use Rattle.trace_check.specs.Images.{IsImageOf}

-- what checking a trace of this many callers needs: there may be this many, the object's lines are within the limits, and the base is a lawful one
pub record MayCheckTrace {O : Type 0} (o : Ghosts O) (object : O) (from : Base) (count : ℕ) : Type 0 where
  pub callers : AreCallers count
  pub enough : 64 ≤ o.line_count object
  pub small : o.line_count object ≤ 16384
  pub base : LawfulBase (o.line_count object) (o.lawful object) from

-- the events among lines
abbrev pub events_of_line : TraceWhat → List CoreEvent
events_of_line (Event event) = event ∷ []
events_of_line (Crash choice place) = []

abbrev pub events_of : List TraceLine → List CoreEvent
events_of [] = []
events_of (x ∷ xs) = events_of_line x.what ++ events_of xs

-- the image that a crash leaves by choice is accepted by recovery, with this place
pub record IsRecoveredAt (lines version : ℕ) (lawful : List ℕ → Type 0) (instance : Instance) (s : State) (choice place : ℕ) : Type 0 where
  pub image : Image
  pub left : IsImageOf lines instance s choice image
  pub accepted : IsAccepted version lawful no_old_format image
  pub is : place_in_root image ≡ place

-- A trace is good, over an object with this number of lines, this version and these lawful images: its events are a run, and behind them
-- at each crash the named place is recovered.
pub record IsGoodTrace (lines version : ℕ) (lawful : List ℕ → Type 0) (instance : Instance) (from : State) (xs : List TraceLine) (to : State) : Type 0 where
  pub run : Run instance from (events_of xs) to
  pub crashes : (n choice place : ℕ) (x : TraceLine) (s : State) → slice_get xs n ≡ Some x → x.what ≡ Crash choice place →
      Run instance from (events_of (take n xs)) s → IsRecoveredAt lines version lawful instance s choice place

-- Each state that lines lead to is lawful. What is recovered after a crash is the full image after the place that is named, which
-- is at or above that of DUR and holds each answer; it is a lawful base.
pub record IsSafeTrace (lines : ℕ) (lawful : List ℕ → Type 0) (instance : Instance) (from : State) (xs : List TraceLine) : Type 0 where
  pub states : (n : ℕ) (s : State) → Run instance from (events_of (take n xs)) s → Lawful instance s
  pub crashes : (n choice place : ℕ) (x : TraceLine) (s : State) (image : Image) → slice_get xs n ≡ Some x → x.what ≡ Crash choice place →
      Run instance from (events_of (take n xs)) s → (law : Lawful instance s) → IsImageOf lines instance s choice image →
      IsKeptAt lines lawful instance law.history s image.root (recovered_from no_old_format image) × (place_in_root image ≡ place)
