-- What the caller of a session has seen of a place, and the result of catching up with one.
use Rattle.std.specs.Prelude.{◌≡◌, ◌≤◌, ℕ, max, Some}
use Rattle.table_invariant.specs.Running.{Running}
use Rattle.table_invariant.specs.Seats.{Seated, unanswered_ticket}
use Rattle.cx_service.specs.CatchUps.{CatchesUp, HasSeen}
use Rattle.cx_service.specs.declared.catch_up.CaughtUp.TheVariants.{Caught as CallerCaught, Behind as CallerBehind, Halted as CallerHalted}
use Rattle.cx_service.specs.declared.close.Handed.{Handed}
use Rattle.cx_service.specs.declared.close.Handed.TheVariants.{Idle, Linked, Stopped}
use Rattle.c_sessions.specs.declared.catch_up.SessionCatchUp.{SessionCatchUp}
use Rattle.c_sessions.specs.declared.catch_up.SessionCatchUp.TheVariants.{Caught, Behind, Stopped as SightStopped, OutOfTurn}

-- A caller in whichever state has seen a place: it is answered nothing below the place. A stopped caller makes no further call.
abbrev pub HasSeenPlace : {O : Type 0} → Running O → ℕ → Handed → Type 0
HasSeenPlace r place (Idle caller) = HasSeen r.callers place caller.known.local
HasSeenPlace r place (Linked linked) = (ticket : ℕ) → unanswered_ticket linked.known.local ≡ Some ticket → place ≤ ticket
HasSeenPlace r place (Stopped stopped) = Unit {0}

-- the session's place after it was to see one: the greater of `before` and the place where it caught up, and `before` where it did not
abbrev pub place_seen : SessionCatchUp → ℕ → ℕ → ℕ
place_seen Caught place before = max before place
place_seen sight place before = before

-- having a caller with no call under way see a place has this result
abbrev pub SeesTo : {O : Type 0} → Running O → ℕ → Seated → SessionCatchUp → Handed → Type 0
SeesTo r place before Caught (Idle after) = CatchesUp r place before (CallerCaught after)
SeesTo r place before (Behind found) (Idle after) = CatchesUp r place before (CallerBehind after found)
SeesTo r place before SightStopped (Stopped after) = CatchesUp r place before (CallerHalted after)
SeesTo r place before sight after = ⊥

-- having a caller in any state see a place: out of turn where an entry is linked or the caller is stopped, and then nothing is changed
abbrev pub CatchesUpFrom : {O : Type 0} → Running O → ℕ → Handed → SessionCatchUp → Handed → Type 0
CatchesUpFrom r place (Idle before) sight after = SeesTo r place before sight after
CatchesUpFrom r place before sight after = (sight ≡ OutOfTurn) × (after ≡ before)
