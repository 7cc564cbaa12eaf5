-- The result of an operation that a client asks for.
use Rattle.std.specs.Prelude.{◌≡◌, ◌^◌, ◌-◌, ℕ, Bool, true, IsTrue, List, Option, None, Some, slice_get}
use Rattle.atomic_table.specs.Seated.{TableId}
use Rattle.table_invariant.specs.Running.{Running}
use Rattle.table_invariant.specs.Seats.{Seated}
use Rattle.cx_service.specs.Drives.{answer_with}
use Rattle.cx_service.specs.Lookups.{seen_with}
use Rattle.cx_service.specs.declared.close.Handed.TheVariants.{Idle}
use Rattle.client_pool.specs.Clients.{HasNoMore, HasRead, HasUpdated, IsClientOf}
use Rattle.client_pool.specs.Lending.{IsPool, is_live, limits_of}
use Rattle.client_pool.specs.declared.client.Client.{Client}
use Rattle.client_pool.specs.declared.pool.Pool.{Pool}
use Rattle.pool_lives.specs.declared.calls.CallOutcome.{CallOutcome}
use Rattle.pool_lives.specs.declared.calls.CallOutcome.TheVariants.{Done, Read, Worn}

-- none of these callers has a limit of steps
abbrev pub AreUnlimited : List ℕ → Type 0
AreUnlimited limits = (caller limit : ℕ) → slice_get limits caller ≡ Some limit → limit ≡ 2 ^ 64 - 1

-- a client between its calls, which may make a further one, and whose callers are never stopped
pub record MayAsk {O : Type 0} (r : Running O) (table : TableId) (client : Client) : Type 0 where
  pub is : IsClientOf r table client
  pub live : is_live client.lent.kept ≡ true
  pub unlimited : AreUnlimited (limits_of client.lent)

-- a client of the pool may ask for this operation, beside the queue only where it only reads
pub record MayAskFor {O : Type 0} (only_reads : O → List ℕ → Bool) (of : Pool O) (asking : Client) (beside : Bool) (op : List ℕ) : Type 0 where
  pub pool : IsPool only_reads of
  pub client : MayAsk of.service of.line.table.shared.table_id asking
  pub reads : IsTrue beside → IsTrue (only_reads of.service.object op)

-- the client keeps a caller for which there is no further ticket
pub record KeepsLast (client : Client) : Type 0 where
  pub last : Seated
  pub keeps : client.lent.kept ≡ Some (Idle last)
  pub front : last.known.local.front ≡ 2 ^ 40

-- the result of an operation, which left these words in the buffer
abbrev pub ClientRequestEnds : {O : Type 0} → Running O → TableId → List ℕ → List ℕ → Client → Client → CallOutcome → Type 0
ClientRequestEnds r table op reply before after (Done ticket) = HasUpdated r table op before after (answer_with ticket reply)
ClientRequestEnds r table op reply before after (Read place) = HasRead r table op before after (seen_with place reply)
ClientRequestEnds r table op reply before after Worn = HasNoMore r table before after × KeepsLast after

-- the result of asking for an operation once: nothing where no cell is idle, and the client may ask again
abbrev pub ClientAsksOnce : {O : Type 0} → Running O → TableId → List ℕ → List ℕ → Client → Client → Option CallOutcome → Type 0
ClientAsksOnce r table op reply before after (Some asked) = ClientRequestEnds r table op reply before after asked
ClientAsksOnce r table op reply before after None = HasNoMore r table before after × MayAsk r table after
