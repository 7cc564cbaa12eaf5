-- A client while its commands are made one after another, and the result of its worker.
use Rattle.std.specs.Prelude.{◌≡◌, ◌+◌, ◌<◌, ◌≤◌, ◌⊎◌, ℕ, Bool, true, false, List, [], All, MatchBool, Some, length, slice_get}
use Rattle.atomic_table.specs.Seated.{TableId}
use Rattle.table_invariant.specs.Running.{Running}
use Rattle.cx_lives.specs.Serving.{HasServed}
use Rattle.cx_lives.specs.declared.lines.Lines.{Lines}
use Rattle.client_pool.specs.Clients.{HasCalls, entries_called}
use Rattle.client_pool.specs.Lending.{IsPool}
use Rattle.client_pool.specs.Pools.{IsClosing}
use Rattle.client_pool.specs.declared.call.Call.{Call}
use Rattle.client_pool.specs.declared.call.Call.TheVariants.{Entry, Look}
use Rattle.client_pool.specs.declared.client.Client.{Client}
use Rattle.client_pool.specs.declared.client.Closing.{Closing}
use Rattle.client_pool.specs.declared.pool.Pool.{Pool}
use Rattle.life_records.specs.Records.{AreOfNoReply, OpHasWords, JournalLine, Life, Meaning, ReadLine}
use Rattle.life_records.specs.Scripts.{own_ops}
use Rattle.pool_lives.specs.Asking.{KeepsLast, MayAsk}
use Rattle.pool_lives.specs.Ghosts.{IsCallAt, local_of}
use Rattle.pool_lives.specs.PoolRuns.{IsLifeOfPool}
use Rattle.pool_lives.specs.declared.work.ServedClient.{ServedClient}

-- the pool serves the clients of this life: its service is of this object
pub record ServesLife {O Op Reply Store : Type 0} (reads : O → List ℕ → Bool) (m : Meaning Op Reply Store) (object : O) (life : Life Op) (pool : Pool O) : Type 0 where
  pub ready : IsPool reads pool
  pub same : pool.service.object ≡ object
  pub is_life : IsLifeOfPool m life

-- the lines of a client's calls: they are those of the lists that a caller of its own would have, and each has the place of its command's call
pub record HasMadeCalls {Op Reply Store : Type 0} (m : Meaning Op Reply Store) (life : Life Op) (client number : ℕ) (calls : List Call) (entries : List (JournalLine Reply)) (reads : List (ReadLine Reply)) : Type 0 where
  pub lists : HasServed m life client number (local_of client calls) entries reads
  pub count_is : length calls ≡ number
  pub entries_at : All (λ (line : JournalLine Reply). IsCallAt calls line.command line.ticket (line.ticket + 1)) entries
  pub reads_at : All (λ (line : ReadLine Reply). IsCallAt calls line.command line.place line.place) reads

-- the last of this many clients has what closing their pool takes
abbrev pub HasClosing : {O : Type 0} → Running O → TableId → ℕ → Client → Type 0
HasClosing r table clients client = client.number + 1 ≡ clients → (closing : Closing) × (client.closing ≡ Some closing) × IsClosing r table clients closing

-- a client of this number, which may make a further call, with those that it made
pub record IsCalling {O : Type 0} (r : Running O) (table : TableId) (clients number : ℕ) (client : Client) : Type 0 where
  pub may : MayAsk r table client
  pub by : client.number ≡ number
  pub closing : HasClosing r table clients client
  pub calls : List Call
  pub has : HasCalls r client calls

-- a client that has made no call, and may make one
pub record IsUncalledIn {O : Type 0} (r : Running O) (table : TableId) (clients : ℕ) (client : Client) : Type 0 where
  pub may : MayAsk r table client
  pub closing : HasClosing r table clients client
  pub none : HasCalls r client []

-- A client is at work: its first commands, this many of them, are answered, and these are their lines.
pub record IsAtWork {O Op Reply Store : Type 0} (m : Meaning Op Reply Store) (life : Life Op) (r : Running O) (table : TableId) (clients client number : ℕ) (now : Client) (lines : Lines Reply) : Type 0 where
  pub who : IsCalling r table clients client now
  pub made : HasMadeCalls m life client number who.calls lines.entries.items lines.reads.items

-- the words of a call's operation
abbrev pub op_of : Call → List ℕ
op_of (Entry answered) = answered.entry.entry.op
op_of (Look read) = read.op

-- the words with which a call was answered
abbrev pub reply_of : Call → List ℕ
reply_of (Entry answered) = answered.answer.reply
reply_of (Look read) = read.reply

-- a call of an operation was answered with words of no reply
pub record IsBadCall {Op Reply Store : Type 0} (m : Meaning Op Reply Store) (calls : List Call) : Type 0 where
  pub place : ℕ
  pub call : Call
  pub there : slice_get calls place ≡ Some call
  pub op : Op
  pub is : OpHasWords m (op_of call) op
  pub bad : AreOfNoReply m (reply_of call)

-- every ticket is linked while a client has fewer entries than commands
pub record IsClientWorn {Op : Type 0} (life : Life Op) (number : ℕ) (client : Client) (calls : List Call) : Type 0 where
  pub last : KeepsLast client
  pub fewer : length (entries_called calls) < length (own_ops number life.commands)

-- what no closed service leaves of a client: no further ticket while it has fewer entries than commands, or an answer whose words are no reply
abbrev pub CannotBeLeft : {Op Reply Store : Type 0} → Meaning Op Reply Store → Life Op → ℕ → Client → List Call → Type 0
CannotBeLeft m life number client calls = IsClientWorn life number client calls ⊎ IsBadCall m calls

-- a client at its end that met what cannot be
pub record IsOver {O Op Reply Store : Type 0} (m : Meaning Op Reply Store) (life : Life Op) (r : Running O) (table : TableId) (clients client : ℕ) (now : Client) : Type 0 where
  pub who : IsCalling r table clients client now
  pub few : length (entries_called who.calls) ≤ length (own_ops client life.commands)
  pub cannot : CannotBeLeft m life client now who.calls

-- the result of the command of this number
abbrev pub MakesCommand : {O Op Reply Store : Type 0} → Meaning Op Reply Store → Life Op → Running O → TableId → ℕ → ℕ → ℕ → Client → Lines Reply → Bool → Type 0
MakesCommand m life r table clients client number now lines true = IsAtWork m life r table clients client number now lines
MakesCommand m life r table clients client number now lines false = IsOver m life r table clients client now

-- the result of a worker
abbrev pub ClientServedOf : {O Op Reply Store : Type 0} → Meaning Op Reply Store → Life Op → Running O → TableId → ℕ → ℕ → ServedClient Reply → Type 0
ClientServedOf m life r table clients client served = MatchBool served.impossible (IsOver m life r table clients client served.client)
    (IsAtWork m life r table clients client (length (own_ops client life.commands)) served.client served.lines)
