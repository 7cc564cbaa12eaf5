-- How the callers of a service are handed in, and are gathered by the last one.
use Rattle.std.specs.Prelude.{◌≡◌, ◌<◌, ◌≤◌, ℕ, List, [], All, Option, Some, Result, MatchOption, MatchResult, length, vec_capacity}
use Rattle.std.specs.Arc.{arc_value}
use Rattle.std.specs.declared.sync.Arc.{Arc}
use Rattle.std.specs.Global.{Global}
use Rattle.crossbeam_queue.specs.Passes.{Pass, view, IsPassOf}
use Rattle.table_invariant.specs.Running.{Running}
use Rattle.cx_service.specs.declared.close.Handed.{Handed}
use Rattle.seat_pool.specs.Gathering.{AreSame, IsHandedOf}
use Rattle.c_sessions.specs.Rule.{knows, pass_with_given}
use Rattle.c_sessions.specs.declared.exit.ClosingState.{ClosingState}
use Rattle.c_sessions.specs.declared.exit.Unclosed.{Unclosed}
use Rattle.c_sessions.specs.declared.handover.ReturnQueue.{ReturnQueue}
use Rattle.c_sessions.specs.declared.rule.HandedIn.{HandedIn}
use Rattle.c_sessions.specs.declared.rule.Knows.{Knows}

-- a pass of the service's queue that is to hand in these callers, and took none out
pub record IsPassIn {O : Type 0} (r : Running O) (due : List ℕ) (handover : ReturnQueue O) (pass : Pass (HandedIn O) (Knows O)) : Type 0 where
  pub of : IsPassOf handover.line pass
  pub is : view pass ≡ knows (Some r) due [] []

-- a queue for this many callers of a service, and a pass of it that is to hand in these
pub record IsPassOpen {O : Type 0} (r : Running O) (callers : ℕ) (due : List ℕ) (handover : ReturnQueue O) (pass : Pass (HandedIn O) (Knows O)) : Type 0 where
  pub count : handover.callers ≡ callers
  pub pass_of : IsPassIn r due handover pass

-- the caller lies in the queue, or it is handed back and nothing is changed
pub record HandsInTo {O : Type 0} (handover : ReturnQueue O) (before : Pass (HandedIn O) (Knows O)) (given : HandedIn O) (answer : Result (Unit {0}) (HandedIn O)) (after : Pass (HandedIn O) (Knows O)) : Type 0 where
  pub of : IsPassOf handover.line after
  pub by_answer : MatchResult answer (λ _. view after ≡ pass_with_given (view before) given) (λ back. (back ≡ given) × (view after ≡ view before))

-- an empty list with room for this many
pub record IsRoom (count : ℕ) (items : List Handed) (capacity : ℕ) : Type 0 where
  pub none : items ≡ []
  pub enough : count ≤ capacity

-- a way out of the service for these callers: a pass of its queue that is to hand them in, and room for all callers of the service
pub record IsExitOf {O : Type 0} (r : Running O) (due : List ℕ) (exit : ClosingState O) : Type 0 where
  pub some : 0 < r.callers
  pub count : (arc_value exit.handover).callers ≡ r.callers
  pub pass_of : IsPassIn r due (arc_value exit.handover) exit.pass
  pub gathered : IsRoom r.callers exit.gathered.items (vec_capacity exit.gathered)
  pub out : IsRoom r.callers exit.out.items (vec_capacity exit.out)

-- A pass has handed in its caller, as it was then, and these are the callers that it took out, as they were handed in. Where there are any, a share of
-- the service is kept.
pub record HasTaken {O : Type 0} (r : Running O) (given : List Handed) (handover : ReturnQueue O) (pass : Pass (HandedIn O) (Knows O)) (share : Option (Arc (Running O) Global)) (gathered : List Handed) : Type 0 where
  pub of : IsPassOf handover.line pass
  pub taken : List Handed
  pub is : view pass ≡ knows (Some r) [] given taken
  pub same : AreSame gathered taken
  pub each : All (IsHandedOf r) gathered
  pub share_is : MatchOption share (gathered ≡ []) (λ s. arc_value s ≡ r)

-- what the session that is closed last, which handed in `given`, has of the service's callers, with room for all
pub record IsSessionRestOf {O : Type 0} (r : Running O) (given : List Handed) (rest : Unclosed O) : Type 0 where
  pub some : 0 < r.callers
  pub count : (arc_value rest.exit.handover).callers ≡ r.callers
  pub has : HasTaken r given (arc_value rest.exit.handover) rest.exit.pass rest.service rest.exit.gathered.items
  pub gathered : r.callers ≤ vec_capacity rest.exit.gathered
  pub out : IsRoom r.callers rest.exit.out.items (vec_capacity rest.exit.out)

-- a caller of the service is missing: fewer are there than it has
pub record IsCallerMissing {O : Type 0} (r : Running O) (given : List Handed) (rest : Unclosed O) : Type 0 where
  pub of : IsSessionRestOf r given rest
  pub fewer : length rest.exit.gathered.items < r.callers
