-- A client of a pool, and the results of its calls.
use Rattle.std.specs.Prelude.{◌≡◌, ◌+◌, ◌<◌, ◌≤◌, ◌⊎◌, ℕ, Bool, max, List, [], ◌∷◌, ◌++◌, None, length, map, vec_capacity, vec_len}
use Rattle.atomic_table.specs.Seated.{TableId}
use Rattle.crossbeam_queue.specs.Passes.{view}
use Rattle.cx_core.specs.declared.local.Answer.{Answer}
use Rattle.cx_core.specs.declared.local.SeenRead.{SeenRead}
use Rattle.table_invariant.specs.Running.{Running}
use Rattle.table_invariant.specs.Seats.{Seated}
use Rattle.cx_service.specs.Callers.{StoppedSeat}
use Rattle.cx_service.specs.CatchUps.{CatchUpBehind, CatchUpCaught, CatchUpHalted}
use Rattle.cx_service.specs.Drives.{MeetsFewer, answer_with}
use Rattle.cx_service.specs.Lookups.{ReadAnswered, seen_with}
use Rattle.cx_service.specs.Submits.{next_entry}
use Rattle.cx_service.specs.Updates.{ReadStops, UpdateDone, UpdateHalted}
use Rattle.cx_attempts.specs.declared.lookup.Seen.{Seen}
use Rattle.seat_pool.specs.Pooling.{call_with, total_weight}
use Rattle.seat_pool.specs.declared.hand.AnsweredCall.{AnsweredCall}
use Rattle.seat_pool.specs.declared.lent.Lent.{Lent}
use Rattle.client_pool.specs.declared.call.Answered.{Answered}
use Rattle.client_pool.specs.declared.call.Answered.TheVariants.{Updated, Read}
use Rattle.client_pool.specs.declared.call.Call.{Call}
use Rattle.client_pool.specs.declared.call.Call.TheVariants.{Entry, Look}
use Rattle.client_pool.specs.declared.client.Client.{Client}
use Rattle.client_pool.specs.declared.pool.Pool.{Pool}
use Rattle.client_pool.specs.declared.pool.PooledCatchUp.{PooledCatchUp}
use Rattle.client_pool.specs.declared.pool.PooledCatchUp.TheVariants.{Caught, Behind, Stopped as StoppedCatchUp}
use Rattle.client_pool.specs.declared.pool.Pooled.{Pooled}
use Rattle.client_pool.specs.declared.pool.Pooled.TheVariants.{Done, Full, Worn, Stopped, Memory}
use Rattle.client_pool.specs.declared.pool.PooledRead.{PooledRead}
use Rattle.client_pool.specs.declared.pool.PooledRead.TheVariants.{Read as ReadSeen, Queued, Full as FullRead, Worn as WornRead, Stopped as StoppedRead, Memory as MemoryRead}
use Rattle.client_pool.specs.Lending.{ComesFrom, HaltsBesideQueue, IsLentTo, IsReadRefused, KeepsFull, KeepsStopped, KeepsWorn, MayLend, ReturnsFirst, limits_of}

-- what a client is answered by a call
abbrev pub answered_by : Call → Answered
answered_by (Entry call) = Updated call.caller call.answer
answered_by (Look read) = Read (record { place = read.place; reply = read.reply })

-- the place at which the answer of a call holds: of an entry its ticket, and of a read its place
abbrev pub answer_place_of : Call → ℕ
answer_place_of (Entry call) = call.answer.ticket
answer_place_of (Look read) = read.place

-- the place below which no later answer of the client holds: behind an entry the next one, and behind a read its own
abbrev pub next_place_of : Call → ℕ
next_place_of (Entry call) = call.answer.ticket + 1
next_place_of (Look read) = read.place

-- the floor behind calls, from a floor on
abbrev pub floor_after : ℕ → List Call → ℕ
floor_after floor [] = floor
floor_after floor (call ∷ calls) = floor_after (next_place_of call) calls

-- each answer holds at or above the floor behind those before it
abbrev pub AreInTurn : ℕ → List Call → Type 0
AreInTurn floor [] = Unit {0}
AreInTurn floor (call ∷ calls) = (floor ≤ answer_place_of call) × AreInTurn (next_place_of call) calls

-- the entries among calls, in order
abbrev pub entries_called : List Call → List AnsweredCall
entries_called [] = []
entries_called (Entry call ∷ calls) = call ∷ entries_called calls
entries_called (Look read ∷ calls) = entries_called calls

-- the reads among calls, in order
abbrev pub reads_called : List Call → List SeenRead
reads_called [] = []
reads_called (Entry call ∷ calls) = reads_called calls
reads_called (Look read ∷ calls) = read ∷ reads_called calls

-- A client of a service made these calls, in this order: its answers are theirs, it was told their entries and shown their reads, and no answer holds below
-- one before it.
pub record HasCalls {O : Type 0} (r : Running O) (client : Client) (calls : List Call) : Type 0 where
  pub answers : client.answers.items ≡ map answered_by calls
  pub floor : client.floor ≡ floor_after r.base.place calls
  pub in_turn : AreInTurn r.base.place calls
  pub told_calls : (view client.lent.pass).told_calls ≡ entries_called calls
  pub shown : (h : SeenRead → ℕ) → total_weight h (reads_called calls) ≤ total_weight h (view client.lent.pass).shown

-- a client between its calls
abbrev pub IsClientOf : {O : Type 0} → Running O → TableId → Client → Type 0
IsClientOf r table client = IsLentTo r table client.lent

-- a client of the pool may call: it is a client of the pool, and its caller is not stopped
abbrev pub MayCall : {O : Type 0} → (O → List ℕ → Bool) → Pool O → Client → Type 0
MayCall reads pool client = MayLend reads pool client.lent

-- a client keeps its number, the limits of its service's callers, and what it has for the closing
pub record IsSameClient (before after : Client) : Type 0 where
  pub number : after.number ≡ before.number
  pub limits : limits_of after.lent ≡ limits_of before.lent
  pub closing : after.closing ≡ before.closing

-- The client made this call more, and keeps no caller. Its answer holds at or above the place that the client caught up with.
pub record HasMade {O : Type 0} (r : Running O) (table : TableId) (before after : Client) (call : Call) : Type 0 where
  pub client : IsClientOf r table after
  pub back : after.lent.kept ≡ None
  pub same : IsSameClient before after
  pub seen : after.caught_up ≡ before.caught_up
  pub from : before.caught_up ≤ answer_place_of call
  pub calls : (calls : List Call) → HasCalls r before calls → HasCalls r after (calls ++ call ∷ [])

-- the call is an entry of this operation, with this answer
pub record HasUpdated {O : Type 0} (r : Running O) (table : TableId) (op : List ℕ) (before after : Client) (answer : Answer) : Type 0 where
  pub call : AnsweredCall
  pub is : (call.answer ≡ answer) × (call.entry.ticket ≡ answer.ticket) × (call.entry.entry.op ≡ op)
  pub made : HasMade r table before after (Entry call)

-- The entry and its answer are of the caller that was asked, the one that the client kept or else one out of the queue. The caller entered the queue in
-- this way, got this answer in this call, and was given back as it was then.
pub record IsClientAnswered {O : Type 0} (r : Running O) (way : Seated → Seated → Type 0) (op : List ℕ) (before after : Lent) (call : AnsweredCall) : Type 0 where
  pub first : Seated
  pub asked : Seated
  pub came : way first asked
  pub now : Seated
  pub returns : ReturnsFirst before after first now
  pub done : UpdateDone r op asked now call.answer
  pub entry : call ≡ call_with asked.known.local.number (next_entry r asked.known.local op call.answer.ticket) call.answer

-- the call is a read of this operation, answered beside the queue
pub record HasRead {O : Type 0} (r : Running O) (table : TableId) (op : List ℕ) (before after : Client) (seen : Seen) : Type 0 where
  pub read : SeenRead
  pub is : (read.place ≡ seen.place) × (read.op ≡ op) × (read.reply ≡ seen.reply)
  pub made : HasMade r table before after (Look read)

-- The read is of the caller that was asked, the one that the client kept or else one out of the queue. The caller got this answer in this call, after
-- fewer than eight refusals, and was given back as it was then.
pub record IsReadShown {O : Type 0} (r : Running O) (op : List ℕ) (before after : Lent) (read : SeenRead) : Type 0 where
  pub first : Seated
  pub asked : Seated
  pub since : ComesFrom r first asked
  pub now : Seated
  pub returns : ReturnsFirst before after first now
  pub shown : ReadAnswered r op asked now (record { place = read.place; reply = read.reply }) × MeetsFewer 8 asked now
  pub answers : read.before ≡ length asked.known.local.answered

-- the client was answered nothing more: its answers, its floor and the place that it caught up with are as before
pub record HasNoMore {O : Type 0} (r : Running O) (table : TableId) (before after : Client) : Type 0 where
  pub client : IsClientOf r table after
  pub same : IsSameClient before after
  pub answers : after.answers.items ≡ before.answers.items
  pub floor : after.floor ≡ before.floor
  pub seen : after.caught_up ≡ before.caught_up
  pub calls : (calls : List Call) → HasCalls r before calls → HasCalls r after calls

-- a caller was taken for the client and given back, and the client was answered nothing more
pub record HasItsCalls {O : Type 0} (r : Running O) (table : TableId) (before after : Client) : Type 0 where
  pub client : IsClientOf r table after
  pub back : after.lent.kept ≡ None
  pub same : IsSameClient before after
  pub answers : after.answers.items ≡ before.answers.items
  pub floor : after.floor ≡ before.floor
  pub calls : (calls : List Call) → HasCalls r before calls → HasCalls r after calls

-- The client caught up with a place: a caller had seen the place, the one that the client kept or else one out of the queue, and was given back. No
-- later answer of the client holds below the place (`HasMade.from`).
pub record HasCaughtUp {O : Type 0} (r : Running O) (table : TableId) (place : ℕ) (before after : Client) : Type 0 where
  pub made : HasItsCalls r table before after
  pub seen : after.caught_up ≡ max before.caught_up place
  pub asked : Seated
  pub now : Seated
  pub returns : ReturnsFirst before.lent after.lent asked now
  pub caught : CatchUpCaught r place asked now

-- The current place, `found`, was below the one asked for. The caller that found it is the one that the client kept or else one out of the queue, and
-- was given back.
pub record IsClientBehind {O : Type 0} (r : Running O) (table : TableId) (place found : ℕ) (before after : Client) : Type 0 where
  pub made : HasItsCalls r table before after
  pub seen : after.caught_up ≡ before.caught_up
  pub asked : Seated
  pub now : Seated
  pub returns : ReturnsFirst before.lent after.lent asked now
  pub behind : CatchUpBehind r place found asked now

-- there was no room for a further answer, and nothing was done
pub record WantsRoom (before after : Client) : Type 0 where
  pub full : vec_capacity before.answers < vec_len before.answers + 1
  pub lent : after.lent ≡ before.lent

-- how an update of this operation stops its caller: in seeing what is below the floor, or in the update itself
abbrev pub HaltsClientUpdate : {O : Type 0} → Running O → List ℕ → Seated → StoppedSeat → Type 0
HaltsClientUpdate r op asked stopped = HaltsBesideQueue r asked stopped ⊎ UpdateHalted r op asked stopped

-- how a read of this operation stops its caller: in seeing what is below the floor, or in the read itself
abbrev pub HaltsClientRead : {O : Type 0} → Running O → List ℕ → Seated → StoppedSeat → Type 0
HaltsClientRead r op asked stopped = HaltsBesideQueue r asked stopped ⊎ ReadStops r op asked stopped

-- The result of an update of this operation, which left these words in the client's buffer. The caller that the client keeps makes the call, where it keeps one.
abbrev pub UpdatesForClient : {O : Type 0} → Running O → TableId → List ℕ → List ℕ → Client → Client → Pooled → Type 0
UpdatesForClient r table op reply before after (Done ticket) = (made : HasUpdated r table op before after (answer_with ticket reply)) × IsClientAnswered r (ComesFrom r) op before.lent after.lent made.call
UpdatesForClient r table op reply before after (Full note) = HasNoMore r table before after × KeepsFull r table (ComesFrom r) before.lent after.lent note
UpdatesForClient r table op reply before after Worn = HasNoMore r table before after × KeepsWorn r table (ComesFrom r) before.lent after.lent
UpdatesForClient r table op reply before after (Stopped linked) = HasNoMore r table before after × KeepsStopped r table (HaltsClientUpdate r op) before.lent after.lent linked
UpdatesForClient r table op reply before after Memory = HasNoMore r table before after × WantsRoom before after

-- The result of a read of this operation, which left these words in the client's buffer. The caller that the client keeps makes the call,
-- where it keeps one. The read enters the queue only where the caller met eight refusals beside it.
abbrev pub ReadsForClient : {O : Type 0} → Running O → TableId → List ℕ → List ℕ → Client → Client → PooledRead → Type 0
ReadsForClient r table op reply before after (ReadSeen place) = (made : HasRead r table op before after (seen_with place reply)) × IsReadShown r op before.lent after.lent made.read
ReadsForClient r table op reply before after (Queued ticket) = (made : HasUpdated r table op before after (answer_with ticket reply)) × IsClientAnswered r (IsReadRefused r) op before.lent after.lent made.call
ReadsForClient r table op reply before after (FullRead note) = HasNoMore r table before after × KeepsFull r table (IsReadRefused r) before.lent after.lent note
ReadsForClient r table op reply before after WornRead = HasNoMore r table before after × KeepsWorn r table (IsReadRefused r) before.lent after.lent
ReadsForClient r table op reply before after (StoppedRead linked) = HasNoMore r table before after × KeepsStopped r table (HaltsClientRead r op) before.lent after.lent linked
ReadsForClient r table op reply before after MemoryRead = HasNoMore r table before after × WantsRoom before after

-- the result of catching up with a place
abbrev pub ClientCatchesUp : {O : Type 0} → Running O → TableId → ℕ → Client → Client → PooledCatchUp → Type 0
ClientCatchesUp r table place before after Caught = HasCaughtUp r table place before after
ClientCatchesUp r table place before after (Behind found) = IsClientBehind r table place found before after
ClientCatchesUp r table place before after StoppedCatchUp = HasNoMore r table before after × KeepsStopped r table (CatchUpHalted r) before.lent after.lent None
