-- What is lent to a client of a pool, and what a call of its leaves of that.
use Rattle.std.specs.Prelude.{◌≡◌, ◌+◌, ◌^◌, ◌≤◌, Bool, true, false, ℕ, List, [], ◌∷◌, ◌++◌, length, Option, Some, None, Result, Ok, Err, IsTrue}
use Rattle.atomic_table.specs.Seated.{TableId}
use Rattle.crossbeam_queue.specs.Passes.{view, ruled_capacity}
use Rattle.cx_core.specs.declared.local.FullNote.{FullNote}
use Rattle.cx_core.specs.declared.local.SeenRead.{SeenRead}
use Rattle.table_invariant.specs.Running.{Running}
use Rattle.table_invariant.specs.Seats.{Seated}
use Rattle.cx_service.specs.Callers.{IsCallerOf, StoppedSeat}
use Rattle.cx_service.specs.CatchUps.{CatchUpBehind, CatchUpCaught, CatchUpHalted}
use Rattle.cx_service.specs.Closes.{seat_of}
use Rattle.cx_service.specs.Drives.{MeetsFewer}
use Rattle.cx_service.specs.Lookups.{ReadAnswered, ReadDue, ReadHalted, ReadPending, seen_with}
use Rattle.cx_service.specs.Updates.{ReadQueues, ReadStops, UpdateFull, UpdateWorn}
use Rattle.cx_service.specs.declared.close.Handed.{Handed}
use Rattle.cx_service.specs.declared.close.Handed.TheVariants.{Idle, Linked, Stopped}
use Rattle.cx_service.specs.declared.update.Updated.{Updated}
use Rattle.cx_service.specs.declared.update.Updated.TheVariants.{Done as UpdatedDone, Full as UpdatedFull, Worn as UpdatedWorn, Halted as UpdatedHalted}
use Rattle.cx_attempts.specs.Attempts.{StepsOn}
use Rattle.cx_attempts.specs.declared.lookup.Seen.{Seen}
use Rattle.seat_pool.specs.Gathering.{Gathers, StaysIdle}
use Rattle.seat_pool.specs.Pooling.{HasLimit, IsFirstOf, IsHomeOf, limits_at, total_weight, with_given}
use Rattle.seat_pool.specs.declared.hand.LenderPass.{LenderPass}
use Rattle.seat_pool.specs.declared.lent.Lent.{Lent}
use Rattle.client_pool.specs.declared.pool.Pool.{Pool}
use Rattle.client_pool.specs.declared.pool.PooledCatchUp.{PooledCatchUp}
use Rattle.client_pool.specs.declared.pool.PooledCatchUp.TheVariants.{Caught as PlaceSeen, Behind as PlaceBehind, Stopped as PlaceStopped}
use Rattle.client_pool.specs.declared.lend.Caught.{Caught}
use Rattle.client_pool.specs.declared.lend.Caught.TheVariants.{Up, Ended}
use Rattle.client_pool.specs.declared.read_beside.LookupOutcome.{LookupOutcome}
use Rattle.client_pool.specs.declared.read_beside.LookupOutcome.TheVariants.{Found, Entered}
use Rattle.client_pool.specs.declared.lend.EntryOutcome.{EntryOutcome}
use Rattle.client_pool.specs.declared.lend.EntryOutcome.TheVariants.{Done, Full, Worn, Halted}

-- the pass of a client is one of the queue of this table, with one part, and placed no caller
pub record IsPart {O : Type 0} (r : Running O) (table : TableId) (lent : Lent) : Type 0 where
  pub pass : (lent.pass.table_id ≡ table) × (lent.pass.me.1 ≡ [])
  pub home : IsHomeOf r (view lent.pass).home
  pub parts : (view lent.pass).parts ≡ 1
  pub placed : (view lent.pass).placed ≡ []

-- a pass holds this caller, which is in no call and was answered nothing but reads since it was taken
pub record HoldsIdle {O : Type 0} (r : Running O) (v : LenderPass) (now : Seated) : Type 0 where
  pub taken : Seated
  pub held : v.held ≡ taken ∷ []
  pub limit : HasLimit (limits_at v.home) taken
  pub idle : StaysIdle r taken now

-- what a pass holds is the caller that its client keeps
abbrev pub HoldsKept : {O : Type 0} → Running O → LenderPass → Option Handed → Type 0
HoldsKept r v None = v.held ≡ []
HoldsKept r v (Some (Idle now)) = HoldsIdle r v now
HoldsKept r v (Some (Linked seat)) = ⊥
HoldsKept r v (Some (Stopped stopped)) = Gathers r v.held (Stopped stopped ∷ []) × HasLimit (limits_at v.home) stopped.seat

-- what was lent to a client between its calls
pub record IsLentTo {O : Type 0} (r : Running O) (table : TableId) (lent : Lent) : Type 0 where
  pub part : IsPart r table lent
  pub kept : HoldsKept r (view lent.pass) lent.kept

-- whether a client that keeps this may make a further call
abbrev pub is_live : Option Handed → Bool
is_live None = true
is_live (Some (Idle now)) = true
is_live (Some (Linked seat)) = false
is_live (Some (Stopped stopped)) = false

-- a caller is out for a call of a client, which keeps no other
pub record IsOut {O : Type 0} (r : Running O) (table : TableId) (lent : Lent) (now : Seated) : Type 0 where
  pub part : IsPart r table lent
  pub none : lent.kept ≡ None
  pub holds : HoldsIdle r (view lent.pass) now

-- the limits of the service's callers, as the pass knows them
abbrev pub limits_of : Lent → List ℕ
limits_of lent = limits_at (view lent.pass).home

-- the client was told nothing more, and shown nothing more, and no caller was given back
pub record TellsSame (before after : Lent) : Type 0 where
  pub limits : limits_of after ≡ limits_of before
  pub told_calls : (view after.pass).told_calls ≡ (view before.pass).told_calls
  pub shown : (view after.pass).shown ≡ (view before.pass).shown
  pub returned : (view after.pass).returned ≡ (view before.pass).returned

-- a caller is the one that a client keeps, where it keeps one
abbrev pub IsKeptCaller : Option Handed → Seated → Type 0
IsKeptCaller None x = Unit {0}
IsKeptCaller (Some handed) x = seat_of handed ≡ x

-- The caller that a call begins with: the one that its client keeps, or else one that it took out of the queue, which the pass holds as it was then.
pub record IsFirstCaller (keeps : Option Handed) (v : LenderPass) (x : Seated) : Type 0 where
  pub kept : IsKeptCaller keeps x
  pub taken : keeps ≡ None → v.held ≡ x ∷ []

-- The caller that was out was given back as `back`, and no other caller was given back.
pub record Returns (before after : Lent) (back : Seated) : Type 0 where
  pub taken : Seated
  pub held : (view before.pass).held ≡ taken ∷ []
  pub returned : (view after.pass).returned ≡ (view before.pass).returned ++ record { taken = taken; back = back } ∷ []

-- A call gave one caller back, as `back`, and no other. `first` is the caller that the call began with, as it was then: the one that its client kept,
-- or else the one that the call took out of the queue and gave back.
pub record ReturnsFirst (before after : Lent) (first back : Seated) : Type 0 where
  pub kept : IsKeptCaller before.kept first
  pub taken : Seated
  pub returned : (view after.pass).returned ≡ (view before.pass).returned ++ record { taken = taken; back = back } ∷ []
  pub first_is : before.kept ≡ None → first ≡ taken

-- The caller that a call began with, later in it: it answered nothing since but reads beside the queue. Its scans and refusals are no fewer and its front did
-- not fall, and where it answered no read no step was taken back.
pub record ComesFrom {O : Type 0} (r : Running O) (first now : Seated) : Type 0 where
  pub idle : StaysIdle r first now
  pub scans : first.known.local.scans ≤ now.known.local.scans
  pub met : first.known.local.met ≤ now.known.local.met
  pub front : first.known.local.front ≤ now.known.local.front
  pub steps : idle.more ≡ [] → StepsOn first now

-- A read of the caller that a call began with met just eight refusals beside the queue, before it enters the queue.
pub record IsReadRefused {O : Type 0} (r : Running O) (first now : Seated) : Type 0 where
  pub looked : Seated
  pub since : ComesFrom r first looked
  pub refused : ReadPending r 8 looked now

-- The step limit was reached in a read beside the queue, in 8 attempts of it.
pub record HaltsBesideQueue {O : Type 0} (r : Running O) (before : Seated) (stopped : StoppedSeat) : Type 0 where
  pub op : List ℕ
  pub halted : ReadHalted r op before stopped
  pub due : ReadDue 8 before stopped.seat

-- A caller, later in a call, was stopped in a read beside the queue.
pub record HaltsLater {O : Type 0} (r : Running O) (before : Seated) (stopped : StoppedSeat) : Type 0 where
  pub asked : Seated
  pub since : ComesFrom r before asked
  pub halts : HaltsBesideQueue r asked stopped

-- the result of having a caller see all that is below a floor
abbrev pub CatchesUpToFloor : {O : Type 0} → Running O → ℕ → Seated → Caught → Type 0
CatchesUpToFloor r floor before (Up after) = ComesFrom r before after × (floor ≤ after.known.local.front)
CatchesUpToFloor r floor before (Ended stopped) = HaltsLater r before stopped

-- The call is answered beside the queue by the caller that was out, and the read was shown, whose place is not below the floor. The caller was given back.
pub record ShowsRead {O : Type 0} (r : Running O) (table : TableId) (op : List ℕ) (floor : ℕ) (caller : Seated) (before after : Lent) (seen : Seen) : Type 0 where
  pub lent : IsLentTo r table after
  pub back : after.kept ≡ None
  pub limits : limits_of after ≡ limits_of before
  pub asked : Seated
  pub since : ComesFrom r caller asked
  pub now : Seated
  pub shown : ReadAnswered r op asked now seen × MeetsFewer 8 asked now
  pub read : SeenRead
  pub is : read ≡ record { place = seen.place; op = op; reply = seen.reply; before = length asked.known.local.answered }
  pub from : floor ≤ seen.place
  pub tells : (view after.pass).told_calls ≡ (view before.pass).told_calls
  pub shows : (h : SeenRead → ℕ) → total_weight h (view before.pass).shown + h read ≤ total_weight h (view after.pass).shown

-- No cell of the caller that was asked is idle, and the client keeps the caller. `asked` is the caller as it was when the operation was to enter the
-- queue: the one that the call began with, `first`, which reached that state in this way.
pub record KeepsFull {O : Type 0} (r : Running O) (table : TableId) (way : Seated → Seated → Type 0) (before after : Lent) (note : FullNote) : Type 0 where
  pub lent : IsLentTo r table after
  pub tells : TellsSame before after
  pub first : Seated
  pub is : IsFirstCaller before.kept (view after.pass) first
  pub asked : Seated
  pub came : way first asked
  pub held : HoldsIdle r (view after.pass) asked
  pub now : Seated
  pub keeps : after.kept ≡ Some (Idle now)
  pub full : UpdateFull r asked now note

-- There is no further ticket for the caller that was asked, and the client keeps it.
pub record KeepsWorn {O : Type 0} (r : Running O) (table : TableId) (way : Seated → Seated → Type 0) (before after : Lent) : Type 0 where
  pub lent : IsLentTo r table after
  pub tells : TellsSame before after
  pub first : Seated
  pub is : IsFirstCaller before.kept (view after.pass) first
  pub asked : Seated
  pub came : way first asked
  pub held : HoldsIdle r (view after.pass) asked
  pub now : Seated
  pub keeps : after.kept ≡ Some (Idle now)
  pub worn : UpdateWorn r asked now

-- The caller that the call began with was asked, and is stopped in this way, with this linked entry that no call has answered. The client keeps it.
pub record KeepsStopped {O : Type 0} (r : Running O) (table : TableId) (halts : Seated → StoppedSeat → Type 0) (before after : Lent) (linked : Option ℕ) : Type 0 where
  pub lent : IsLentTo r table after
  pub tells : TellsSame before after
  pub first : Seated
  pub begins : IsFirstCaller before.kept (view after.pass) first
  pub asked : Seated
  pub since : ComesFrom r first asked
  pub stopped : StoppedSeat
  pub halted : halts asked stopped
  pub keeps : after.kept ≡ Some (Stopped stopped)
  pub is : stopped.linked ≡ linked

-- the queue has room for all callers, and the probe only reads
pub record IsPool {O : Type 0} (reads : O → List ℕ → Bool) (pool : Pool O) : Type 0 where
  pub room : ruled_capacity pool.line ≡ pool.service.callers
  pub probe : IsTrue (reads pool.service.object pool.probe)

-- a call may begin with what the pool lent: it is lent to a client of the pool, and its caller is not stopped
pub record MayLend {O : Type 0} (reads : O → List ℕ → Bool) (pool : Pool O) (lent : Lent) : Type 0 where
  pub pool_is : IsPool reads pool
  pub lent_is : IsLentTo pool.service pool.line.table.shared.table_id lent
  pub live : is_live lent.kept ≡ true

-- The caller that the call begins with is out, and has seen all below a floor.
pub record IsBegun {O : Type 0} (r : Running O) (table : TableId) (floor : ℕ) (before after : Lent) (caller : Seated) : Type 0 where
  pub out : IsOut r table after caller
  pub tells : TellsSame before after
  pub first : Seated
  pub is : IsFirstCaller before.kept (view after.pass) first
  pub since : ComesFrom r first caller
  pub from : floor ≤ caller.known.local.front

-- the result of taking a caller for a call, one that has seen all below a floor
abbrev pub Begins : {O : Type 0} → Running O → TableId → ℕ → Lent → Lent → Result Seated (Option ℕ) → Type 0
Begins r table floor before after (Ok caller) = IsBegun r table floor before after caller
Begins r table floor before after (Err linked) = KeepsStopped r table (HaltsBesideQueue r) before after linked

-- a caller may be given back to the queue
pub record MayGive {O : Type 0} (r : Running O) (lent : Lent) (back : Seated) : Type 0 where
  pub caller : IsCallerOf r back
  pub limit : HasLimit (limits_of lent) back
  pub first : IsFirstOf (view lent.pass).held back

-- the caller may be given back to the queue once its operation is answered
abbrev pub MaySettle : {O : Type 0} → Running O → Lent → Updated → Type 0
MaySettle r lent (UpdatedDone back ticket) = MayGive r lent back
MaySettle r lent (UpdatedFull back note) = Unit {0}
MaySettle r lent (UpdatedWorn back) = Unit {0}
MaySettle r lent (UpdatedHalted stopped) = Unit {0}

-- the client's caller was given back to the queue, and what the client keeps is as before
pub record GivesBack (table : TableId) (before after : Lent) (caller : Seated) : Type 0 where
  pub pass : (after.pass.table_id ≡ table) × (after.pass.me.1 ≡ [])
  pub view_is : view after.pass ≡ with_given (view before.pass) caller
  pub kept : after.kept ≡ before.kept

-- the client keeps a caller now
abbrev pub KeepsNow : Lent → Lent → Handed → Type 0
KeepsNow before after handed = (after.pass ≡ before.pass) × (after.kept ≡ Some handed)

-- What is left of the caller that was out: it was given back where its operation is answered, and else the client keeps it.
abbrev pub Settles : TableId → Lent → Lent → Updated → EntryOutcome → Type 0
Settles table before after updated (Done caller ticket) = (back : Seated) × (updated ≡ UpdatedDone back ticket) × (caller ≡ back.known.local.number) × (back.known.local.front ≤ 2 ^ 40) × GivesBack table before after back
Settles table before after updated (Full note) = (back : Seated) × (updated ≡ UpdatedFull back note) × KeepsNow before after (Idle back)
Settles table before after updated Worn = (back : Seated) × (updated ≡ UpdatedWorn back) × KeepsNow before after (Idle back)
Settles table before after updated (Halted linked) = (stopped : StoppedSeat) × (updated ≡ UpdatedHalted stopped) × (stopped.linked ≡ linked) × KeepsNow before after (Stopped stopped)

-- the result of a read that is not answered beside the queue
abbrev pub EntersRead : {O : Type 0} → Running O → List ℕ → List ℕ → Seated → Updated → Type 0
EntersRead r op reply asked (UpdatedDone after ticket) = ReadQueues r op reply asked (UpdatedDone after ticket)
EntersRead r op reply asked (UpdatedFull after note) = ReadQueues r op reply asked (UpdatedFull after note)
EntersRead r op reply asked (UpdatedWorn after) = ReadQueues r op reply asked (UpdatedWorn after)
EntersRead r op reply asked (UpdatedHalted stopped) = ReadStops r op asked stopped

-- The caller that was out was asked for a read that was not answered beside the queue, and this is left of it.
pub record LooksOn {O : Type 0} (r : Running O) (table : TableId) (op reply : List ℕ) (caller : Seated) (before after : Lent) (served : EntryOutcome) : Type 0 where
  pub asked : Seated
  pub since : ComesFrom r caller asked
  pub updated : Updated
  pub enters : EntersRead r op reply asked updated
  pub settles : Settles table before after updated served

-- the result of an operation that only reads, which left these words in the client's buffer
abbrev pub ReadsBesideQueue : {O : Type 0} → Running O → TableId → List ℕ → List ℕ → ℕ → Seated → Lent → Lent → LookupOutcome → Type 0
ReadsBesideQueue r table op reply floor caller before after (Found place) = (shows : ShowsRead r table op floor caller before after (seen_with place reply)) × Returns before after shows.now
ReadsBesideQueue r table op reply floor caller before after (Entered served) = LooksOn r table op reply caller before after served

-- the caller that was taken is given back, with no call more
pub record IsGivenBack {O : Type 0} (r : Running O) (table : TableId) (before after : Lent) : Type 0 where
  pub lent : IsLentTo r table after
  pub back : after.kept ≡ None
  pub limits : limits_of after ≡ limits_of before
  pub tells : (view after.pass).told_calls ≡ (view before.pass).told_calls
  pub shows : (h : SeenRead → ℕ) → total_weight h (view before.pass).shown ≤ total_weight h (view after.pass).shown

-- a caller was asked that had seen the place, the one that the client kept or else one out of the queue, and was given back
pub record SeesPlace {O : Type 0} (r : Running O) (table : TableId) (place : ℕ) (before after : Lent) : Type 0 where
  pub given : IsGivenBack r table before after
  pub asked : Seated
  pub now : Seated
  pub returns : ReturnsFirst before after asked now
  pub caught : CatchUpCaught r place asked now

-- a caller was asked that found the place in CUR below the one asked for, the one that the client kept or else one out of the queue, and was given back
pub record SeesLess {O : Type 0} (r : Running O) (table : TableId) (place found : ℕ) (before after : Lent) : Type 0 where
  pub given : IsGivenBack r table before after
  pub asked : Seated
  pub now : Seated
  pub returns : ReturnsFirst before after asked now
  pub behind : CatchUpBehind r place found asked now

-- the result of having a caller of the client's see a place
abbrev pub ClientSees : {O : Type 0} → Running O → TableId → ℕ → Lent → Lent → PooledCatchUp → Type 0
ClientSees r table place before after PlaceSeen = SeesPlace r table place before after
ClientSees r table place before after (PlaceBehind found) = SeesLess r table place found before after
ClientSees r table place before after PlaceStopped = KeepsStopped r table (CatchUpHalted r) before after None
