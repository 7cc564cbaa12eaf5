-- Good traces, and what is found of a trace.
use Rattle.std.specs.Prelude.{◌≡◌, ◌≢◌, ◌+◌, ◌%◌, ℕ, List, [], ◌∷◌, Some, length, slice_get, slice_index, take}
use Rattle.cx_base.specs.Codes.{root_place_of}
use Rattle.cx_core.specs.declared.kinds.Event.{Event as CoreEvent}
use Rattle.cx_core.specs.Chain.{IsCodeChain}
use Rattle.cx_core.specs.Events.{Allowed, Makes}
use Rattle.cx_core.specs.State.{Instance, State}
use Rattle.trace_text.specs.declared.trace.TraceLine.{TraceLine}
use Rattle.trace_text.specs.declared.trace.TraceWhat.{TraceWhat}
use Rattle.trace_text.specs.declared.trace.TraceWhat.TheVariants.{Event, Crash}
use Rattle.trace_check.specs.declared.check.Verdict.{Verdict}
use Rattle.trace_check.specs.declared.check.Verdict.TheVariants.{Yes, Guard, Place}

-- the root that a crash leaves by choice names this place: the root is one of the codes from DUR on to CUR
pub record LeavesPlace (instance : Instance) (s : State) (choice place : ℕ) : Type 0 where
  pub chain : List ℕ
  pub is_chain : IsCodeChain s.words s.locals chain
  pub is : root_place_of instance.callers (slice_index chain (choice % length chain)) ≡ place

-- a line is good in a state, and leads on to another
abbrev pub Passes : Instance → TraceWhat → State → State → Type 0
Passes instance (Event event) s to = Makes instance event s to
Passes instance (Crash choice place) s to = LeavesPlace instance s choice place × (to ≡ s)

-- lines are good, one after another
abbrev pub Good : Instance → State → List TraceLine → State → Type 0
Good instance from [] to = to ≡ from
Good instance from (x ∷ xs) to = (then_ : State) × Passes instance x.what from then_ × Good instance then_ xs to

-- how many events and how many crashes there are
abbrev pub one_event : TraceWhat → ℕ
one_event (Event event) = 1
one_event (Crash choice place) = 0

abbrev pub event_count : List TraceLine → ℕ
event_count [] = 0
event_count (x ∷ xs) = one_event x.what + event_count xs

abbrev pub one_crash : TraceWhat → ℕ
one_crash (Event event) = 0
one_crash (Crash choice place) = 1

abbrev pub crash_count : List TraceLine → ℕ
crash_count [] = 0
crash_count (x ∷ xs) = one_crash x.what + crash_count xs

-- the lines in front of one are good and lead to a state; that line is an event whose guard fails there
pub record FailsGuard (instance : Instance) (from : State) (xs : List TraceLine) (line : ℕ) : Type 0 where
  pub n : ℕ
  pub x : TraceLine
  pub at : slice_get xs n ≡ Some x
  pub named : x.line ≡ line
  pub state : State
  pub before : Good instance from (take n xs) state
  pub event : CoreEvent
  pub is : x.what ≡ Event event
  pub fails : Allowed instance event state → ⊥

-- that line is a crash after which another place is recovered
pub record FailsPlace (instance : Instance) (from : State) (xs : List TraceLine) (line found : ℕ) : Type 0 where
  pub n : ℕ
  pub x : TraceLine
  pub at : slice_get xs n ≡ Some x
  pub named : x.line ≡ line
  pub state : State
  pub before : Good instance from (take n xs) state
  pub choice : ℕ
  pub place : ℕ
  pub is : x.what ≡ Crash choice place
  pub leaves : LeavesPlace instance state choice found
  pub other : found ≢ place

-- a verdict is of these lines
abbrev pub IsVerdict : Instance → State → List TraceLine → Verdict → Type 0
IsVerdict instance from xs (Yes events crashes) = ((to : State) × Good instance from xs to) × (events ≡ event_count xs) × (crashes ≡ crash_count xs)
IsVerdict instance from xs (Guard line) = FailsGuard instance from xs line
IsVerdict instance from xs (Place line found) = FailsPlace instance from xs line found
