-- The result of closing a session.
use Rattle.std.specs.Prelude.{◌≡◌, ◌<◌, ◌≤◌, ℕ, Bool, List}
use Rattle.std.specs.Arc.{arc_value}
use Rattle.crossbeam_queue.specs.Passes.{view, IsPassOf}
use Rattle.table_invariant.specs.Running.{Running, instance_at}
use Rattle.table_invariant.specs.Seats.{Seated}
use Rattle.cx_service.specs.Closes.{seats_of}
use Rattle.cx_service.specs.declared.close.Handed.{Handed}
use Rattle.cx_service.specs.declared.close.Kept.{Kept}
use Rattle.cx_table.specs.declared.remains.Remains.{Remains}
use Rattle.cx_table.specs.Remains.{AreSeats, ClosingWitness}
use Rattle.recovery.specs.Kept.{IsOpened}
use Rattle.cx_service.specs.ClosedOrder.{IsLinearizedBy}
use Rattle.seat_pool.specs.Gathering.{AreSame, kept_list}
use Rattle.seat_pool.specs.Pooling.{total_weight}
use Rattle.c_sessions.specs.Handing.{IsCallerMissing, IsSessionRestOf}
use Rattle.c_sessions.specs.Sessions.{IsSessionOpen}
use Rattle.c_sessions.specs.declared.close.Closing.{Closing}
use Rattle.c_sessions.specs.declared.close.Closing.TheVariants.{Others, Again, Closed, Kept as ClosingKept, Missing, Shared}
use Rattle.c_sessions.specs.declared.exit.Account.{Account}
use Rattle.c_sessions.specs.declared.handover.ReturnQueue.{ReturnQueue}
use Rattle.c_sessions.specs.declared.session.Session.{Session}

-- a service and all its callers, of caller 0 first
abbrev pub IsServiceWithCallers : {O : Type 0} → Running O → Kept O → Type 0
IsServiceWithCallers r kept = (kept.service ≡ r) × AreSeats r (seats_of kept.callers.items)

-- These callers are those that the pass of this account took out of the sessions' queue, as they were when they were handed in, with all that they had
-- made and were answered. What the session handed in itself, `given`, is among them.
pub record AreAccounted {O : Type 0} (handover : ReturnQueue O) (given : List Handed) (account : Account O) (handed : List Handed) : Type 0 where
  pub of : IsPassOf handover.line account.pass
  pub taken : AreSame handed (view account.pass).taken
  pub own : (view account.pass).given ≡ given
  pub among : (f : Handed → ℕ) → total_weight f given ≤ total_weight f handed

module _ {O : Type 0} (line_count : O → ℕ) (lawful : O → List ℕ → Type 0) (step : O → List ℕ → List ℕ → List ℕ × List ℕ) (reads : O → List ℕ → Bool) where
  -- What this service leaves that was closed with these seats of its callers, which are all. By the order of their steps its history is a linearization of the calls
  -- that these made.
  pub record IsClosedWith (r : Running O) (seats : List Seated) (remains : Remains) : Type 0 where
    pub opened : IsOpened line_count lawful r
    pub all : AreSeats r seats
    pub leaves : ClosingWitness r (instance_at r step reads) seats remains
    pub order : IsLinearizedBy leaves

  -- the service is closed with some list of seats
  pub record IsClosedOf (r : Running O) (remains : Remains) : Type 0 where
    pub seats : List Seated
    pub is : IsClosedWith r seats remains

  -- the service was closed with the callers of its sessions, as they were handed in
  pub record IsClosedBySessions (r : Running O) (handover : ReturnQueue O) (given : List Handed) (account : Account O) (remains : Remains) : Type 0 where
    pub handed : List Handed
    pub accounted : AreAccounted handover given account handed
    pub closed : IsClosedWith r (seats_of handed) remains

  -- The last session, which handed in `given`, closes the service with what all sessions handed in; where there are others, the service has further
  -- callers. Where the service is not closed, what the session has stays: the service with all its callers, or, where a caller is missing or a share
  -- of the service is elsewhere, what the session took out.
  abbrev pub ClosesTo : Running O → ReturnQueue O → List Handed → Closing O → Type 0
  ClosesTo r handover given Others = 1 < r.callers
  ClosesTo r handover given (Again session) = ⊥
  ClosesTo r handover given (Closed remains account) = IsClosedBySessions r handover given account remains
  ClosesTo r handover given (ClosingKept kept account) = IsServiceWithCallers r kept × AreAccounted handover given account kept.callers.items
  ClosesTo r handover given (Missing rest) = IsCallerMissing r given rest × (arc_value rest.exit.handover ≡ handover)
  ClosesTo r handover given (Shared rest) = IsSessionRestOf r given rest × (arc_value rest.exit.handover ≡ handover)

  -- closing a session has this result; it is as it was where others were in the way
  abbrev pub Closes : Session O → Closing O → Type 0
  Closes s (Again session) = IsSessionOpen session × (arc_value session.service ≡ arc_value s.service) × (session.handed ≡ s.handed) × (session.place ≡ s.place)
  Closes s closing = ClosesTo (arc_value s.service) (arc_value s.exit.handover) (kept_list s.handed) closing
