-- Sessions between their calls, and what a call makes of one.
use Rattle.std.specs.Prelude.{◌≡◌, ◌≤◌, ℕ, Bool, All, List, [], ◌∷◌, length, map, IfSome, Some}
use Rattle.std.specs.List.{range_with_len}
use Rattle.std.specs.Option.{option_map_or}
use Rattle.std.specs.Arc.{arc_value}
use Rattle.cx_base.specs.declared.object.Object.{Ghosts}
use Rattle.cx_core.specs.Base.{fresh_region}
use Rattle.cx_core.specs.declared.entry.Base.{Base}
use Rattle.table_invariant.specs.Running.{Running}
use Rattle.table_invariant.specs.Seats.{Seated}
use Rattle.cx_service.specs.Closes.{seat_of}
use Rattle.cx_service.specs.Starts.{AreFewCallers, AreFewLines, IsStartFault}
use Rattle.cx_service.specs.declared.close.Handed.{Handed}
use Rattle.cx_service.specs.declared.start.StartFault.TheVariants.{Memory}
use Rattle.c_sessions.specs.declared.start.OpenFault.{OpenFault}
use Rattle.c_sessions.specs.declared.start.OpenFault.TheVariants.{Start, InTheWay}
use Rattle.c_sessions.specs.declared.session.Session.{Session}
use Rattle.c_sessions.specs.declared.steps.Called.{Called}
use Rattle.seat_pool.specs.Gathering.{IsHandedOf, handed_number}
use Rattle.c_sessions.specs.Calls.{CallsFrom, FinishesFrom, place_after}
use Rattle.c_sessions.specs.Places.{HasSeenPlace, CatchesUpFrom, place_seen}
use Rattle.c_sessions.specs.declared.catch_up.SessionCatchUp.{SessionCatchUp}
use Rattle.c_sessions.specs.Images.{TakesFrom, place_taken}
use Rattle.c_sessions.specs.declared.checkpoint.SessionCheckpoint.{SessionCheckpoint}
use Rattle.c_sessions.specs.Handing.{IsExitOf}

-- the session has its caller, in whichever state, which has seen the session's place, and the session can be closed
pub record IsSessionOpen {O : Type 0} (s : Session O) : Type 0 where
  pub handed : Handed
  pub is : s.handed ≡ Some handed
  pub of : IsHandedOf (arc_value s.service) handed
  pub seen : HasSeenPlace (arc_value s.service) s.place handed
  pub exit : IsExitOf (arc_value s.service) (handed_number handed ∷ []) s.exit

-- a call leaves the session open, and this was done
pub record LeavesOpen {O : Type 0} (after : Session O) (Done : Type 0) : Type 0 where
  pub opened : IsSessionOpen after
  pub done : Done

-- an open session of this service
pub record IsOpenSessionOf {O : Type 0} (r : Running O) (s : Session O) : Type 0 where
  pub same : arc_value s.service ≡ r
  pub opened : IsSessionOpen s

-- the number of a session's caller
abbrev pub caller_number_in : {O : Type 0} → Session O → ℕ
caller_number_in s = option_map_or (λ h. (seat_of h).known.local.number) s.handed 0

-- open sessions of this service, for each of these callers one, in order
pub record AreOpenSessionsOf {O : Type 0} (r : Running O) (callers : List Seated) (sessions : List (Session O)) : Type 0 where
  pub each : All (IsOpenSessionOf r) sessions
  pub numbers : map caller_number_in sessions ≡ map (λ (x : Seated). x.known.local.number) callers

-- this many open sessions of one service of an object in this many lines, which opens from this base, of caller 0 first
pub record AreOpenSessions {O : Type 0} (object : O) (lines count : ℕ) (base : Base) (sessions : List (Session O)) : Type 0 where
  pub all : length sessions ≡ count
  pub service : Running O
  pub is : service ≡ record { table = service.table; callers = count; lines = lines; base = base; object = object }
  pub each : All (IsOpenSessionOf service) sessions
  pub numbers : map caller_number_in sessions ≡ range_with_len 0 count

-- this many open sessions of one service of an object in this many lines, which opens from the object's first image
pub record AreFirst {O : Type 0} (object : O) (lines count : ℕ) (opening : List ℕ) (sessions : List (Session O)) : Type 0 where
  pub base : Base
  pub fresh : base ≡ record { place = 0; words = fresh_region opening }
  pub opened : AreOpenSessions object lines count base sessions

-- Why a service of this many callers of an object of this many lines is not opened: the first number that is wrong, or out of memory, which may come
-- before the numbers are looked at; or the numbers are right, and the sessions' new queue did not take its first entry or give it back.
abbrev pub IsOpenFault : ℕ → ℕ → OpenFault → Type 0
IsOpenFault callers lines (Start Memory) = Unit {0}
IsOpenFault callers lines (Start fault) = IsStartFault callers lines fault
IsOpenFault callers lines InTheWay = AreFewCallers callers × AreFewLines lines

-- After a call the session has the share of the service that it had, and its caller became what it is now in this way. Its place is this one, and does
-- not fall.
pub record SessionStands {O : Type 0} (before after : Session O) (place : ℕ) (come_to : Handed → Handed → Type 0) : Type 0 where
  pub same : arc_value after.service ≡ arc_value before.service
  pub came : IfSome before.handed (λ b. IfSome after.handed (come_to b))
  pub is : after.place ≡ place
  pub rises : before.place ≤ after.place

-- A call of this operation, in this many tries, had this result. An answer's place is the session's then, so it is not below the place before.
abbrev pub CallsIn : {O : Type 0} → (O → List ℕ → Bool) → List ℕ → ℕ → Session O → Called → Session O → List ℕ → Type 0
CallsIn reads op tries before called after reply = SessionStands before after (place_after called before.place) (λ b a. CallsFrom reads (arc_value before.service) op tries b called a reply)

-- finishing the linked entry, in this many attempts, had this result
abbrev pub FinishesIn : {O : Type 0} → ℕ → Session O → Called → Session O → List ℕ → Type 0
FinishesIn tries before called after reply = SessionStands before after (place_after called before.place) (λ b a. FinishesFrom (arc_value before.service) tries b called a reply)

-- catching up with a place had this result
abbrev pub SeesIn : {O : Type 0} → ℕ → Session O → SessionCatchUp → Session O → Type 0
SeesIn place before sight after = SessionStands before after (place_seen sight place before.place) (λ b a. CatchesUpFrom (arc_value before.service) place b sight a)

-- Taking an image, in this many tries, had this result, with these words where it is taken. Its place is the session's then, so it is not below the place before.
abbrev pub TakesIn : {O : Type 0} → Ghosts O → List ℕ → ℕ → Session O → SessionCheckpoint → Session O → Type 0
TakesIn o words tries before taken after = SessionStands before after (place_taken taken before.place) (λ b a. TakesFrom o (arc_value before.service) words tries b taken a)
