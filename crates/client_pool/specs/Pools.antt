-- The results of opening a pool and of closing it.
use Rattle.std.specs.Prelude.{◌≡◌, ◌+◌, ◌≤◌, ℕ, true, List, [], ◌∷◌, ◌++◌, All, Some, None, length, map, slice_get}
use Rattle.std.specs.List.{AllZip, range_with_len}
use Rattle.atomic_table.specs.Seated.{TableId}
use Rattle.crossbeam_queue.specs.Passes.{view}
use Rattle.cx_core.specs.State.{Instance}
use Rattle.table_invariant.specs.Running.{Running}
use Rattle.table_invariant.specs.Seats.{Seated}
use Rattle.cx_service.specs.Callers.{IsCallerOf}
use Rattle.cx_service.specs.Closes.{seats_of}
use Rattle.cx_service.specs.declared.close.Handed.{Handed}
use Rattle.cx_service.specs.declared.close.Handed.TheVariants.{Idle}
use Rattle.cx_table.specs.Remains.{AreSeats, ClosingWitness}
use Rattle.cx_table.specs.declared.remains.Remains.{Remains}
use Rattle.seat_pool.specs.Gathering.{AreCallsTold, IsRestOf, IsRoomFor}
use Rattle.seat_pool.specs.Pooling.{IsHomeOf, all_parts}
use Rattle.seat_pool.specs.declared.hand.LenderPass.{LenderPass}
use Rattle.seat_pool.specs.declared.lent.Lent.{Lent}
use Rattle.cx_service.specs.ClosedOrder.{IsLinearizedBy}
use Rattle.client_pool.specs.Answers.{AreAnswered, AreWhole, StandsIn}
use Rattle.client_pool.specs.Clients.{HasCalls, IsClientOf}
use Rattle.client_pool.specs.Lending.{is_live, limits_of}
use Rattle.client_pool.specs.declared.call.Call.{Call}
use Rattle.client_pool.specs.declared.client.Client.{Client}
use Rattle.client_pool.specs.declared.client.Closing.{Closing}
use Rattle.client_pool.specs.declared.open.Rooms.{Rooms}
use Rattle.client_pool.specs.declared.pool.FormerClient.{FormerClient}
use Rattle.client_pool.specs.declared.pool.PoolKept.{PoolKept}

-- a caller of the service that has linked no entry
pub record IsNewCaller {O : Type 0} (r : Running O) (x : Seated) : Type 0 where
  pub caller : IsCallerOf r x
  pub none : x.known.local.own ≡ []

-- all callers of the service, of caller 0 first, none of which has linked an entry
pub record AreNewCallers {O : Type 0} (r : Running O) (callers : List Seated) : Type 0 where
  pub each : All (IsNewCaller r) callers
  pub numbers : map (λ (x : Seated). x.known.local.number) callers ≡ range_with_len 0 r.callers

-- all callers were placed in the queue, and this many parts of the right to know the whole were given to clients
pub record AreCallersPlaced {O : Type 0} (r : Running O) (clients : ℕ) (v : LenderPass) : Type 0 where
  pub home : IsHomeOf r v.home
  pub parts : v.parts + clients ≡ all_parts
  pub placed : v.placed ≡ range_with_len 0 r.callers
  pub held : v.held ≡ []
  pub told_calls : v.told_calls ≡ []
  pub shown : v.shown ≡ []

-- there is room for this many callers and clients
pub record HaveRoom (callers clients : ℕ) (rooms : Rooms) : Type 0 where
  pub made : IsRoomFor clients rooms.clients
  pub lents : IsRoomFor clients rooms.lents
  pub former : IsRoomFor clients rooms.former
  pub handed_room : IsRoomFor callers rooms.handed_room
  pub out : IsRoomFor callers rooms.out

-- a client that has made no call, of a service whose callers have these limits
pub record IsNewClient {O : Type 0} (r : Running O) (table : TableId) (limits : List ℕ) (number : ℕ) (client : Client) : Type 0 where
  pub client_is : IsClientOf r table client
  pub is : client.number ≡ number
  pub limits_are : limits_of client.lent ≡ limits
  pub keeps : client.lent.kept ≡ None
  pub calls : HasCalls r client []

-- what closing a pool of this many clients takes
pub record IsClosing {O : Type 0} (r : Running O) (table : TableId) (clients : ℕ) (closing : Closing) : Type 0 where
  pub pass : (closing.rest.table_id ≡ table) × (closing.rest.me.1 ≡ [])
  pub rest : IsRestOf r (view closing.rest) clients
  pub lents : IsRoomFor clients closing.lents
  pub former : IsRoomFor clients closing.former
  pub handed_room : IsRoomFor r.callers closing.handed_room
  pub out : IsRoomFor r.callers closing.out

-- the last of these clients has what closing their pool takes
pub record HasLast {O : Type 0} (r : Running O) (table : TableId) (clients : List Client) : Type 0 where
  pub front : List Client
  pub last : Client
  pub are : clients ≡ front ++ last ∷ []
  pub closing : Closing
  pub has : last.closing ≡ Some closing
  pub is : IsClosing r table (length clients) closing

-- all clients of a pool, of client 0 first
pub record AreClients {O : Type 0} (r : Running O) (table : TableId) (clients : List Client) : Type 0 where
  pub each : All (IsClientOf r table) clients
  pub numbers : map (λ (c : Client). c.number) clients ≡ range_with_len 0 (length clients)
  pub ends : HasLast r table clients

-- this many clients, none of which has made a call, of a service whose callers have these limits
pub record AreNewClients {O : Type 0} (r : Running O) (table : TableId) (limits : List ℕ) (count : ℕ) (clients : List Client) : Type 0 where
  pub clients_are : AreClients r table clients
  pub count_is : length clients ≡ count
  pub live : All (λ (c : Client). c.lent.kept ≡ None) clients
  pub limits_are : All (λ (c : Client). limits_of c.lent ≡ limits) clients
  pub calls : All (λ (c : Client). HasCalls r c []) clients

-- what was lent to each of these clients, in order
abbrev pub lents_of : List Client → List Lent
lents_of clients = map (λ (c : Client). c.lent) clients

-- what a client is beside what was lent to it
abbrev pub former_of : Client → FormerClient
former_of c = record { number = c.number; floor = c.floor; answers = c.answers }

-- What a closed pool leaves of its service: all callers were handed to its closing, each once, with the account of the clients' calls. Whatever
-- calls the clients made, one list each, are the history's, which is a linearization of all callers' calls by the order of their steps; and where no
-- client keeps a stopped caller, the clients' entries are all that the history has. No idle caller that a client keeps has its front past the history.
pub record IsClosed {O : Type 0} (r : Running O) (instance : Instance) (clients : List Client) (remains : Remains) : Type 0 where
  pub handed : List Handed
  pub leaves : ClosingWitness r instance (seats_of handed) remains
  pub order : IsLinearizedBy leaves
  pub are_told : AreCallsTold r (lents_of clients) handed
  pub answered : (calls : List (List Call)) → AllZip (HasCalls r) clients calls → AreAnswered instance remains.trail.history remains.trail.locals calls
  -- each of these calls is an operation of a caller, which stands in the one order of all
  pub ordered : (calls : List (List Call)) → AllZip (HasCalls r) clients calls → All (All (StandsIn remains.trail.locals order.one_order.order)) calls
  pub whole : All (λ (c : Client). is_live c.lent.kept ≡ true) clients → (calls : List (List Call)) → AllZip (HasCalls r) clients calls → AreWhole r.base.place remains.trail.history calls
  pub fronts : (i : ℕ) (client : Client) (now : Seated) → slice_get clients i ≡ Some client → client.lent.kept ≡ Some (Idle now) → now.known.local.front ≤ r.base.place + length remains.trail.history

-- a pool that was not closed: the service, all callers and what the clients were
pub record IsLeftOpen {O : Type 0} (r : Running O) (clients : List Client) (kept : PoolKept O) : Type 0 where
  pub service : kept.service ≡ r
  pub seats : AreSeats r (seats_of kept.callers.items)
  pub are_told : AreCallsTold r (lents_of clients) kept.callers.items
  pub former : kept.clients.items ≡ map former_of clients
