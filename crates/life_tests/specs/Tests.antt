-- Pools of counters, and their clients.
use Rattle.std.specs.Prelude.{List}
use Rattle.bounded_counters.specs.Counters.{counters_read_only}
use Rattle.bounded_counters.specs.declared.counters.Counters.{Counters}
use Rattle.client_pool.specs.Clients.{IsClientOf, IsSameClient}
use Rattle.client_pool.specs.Lending.{IsPool}
use Rattle.client_pool.specs.Pools.{AreClients}
use Rattle.client_pool.specs.declared.client.Client.{Client}
use Rattle.client_pool.specs.declared.pool.Pool.{Pool}

-- a pool whose object is the counters
abbrev pub IsCounterPool : Pool Counters → Type 0
IsCounterPool pool = IsPool (λ (_ : Counters). counters_read_only) pool

-- a client of a pool of counters
abbrev pub IsCounterClient : Pool Counters → Client → Type 0
IsCounterClient pool client = IsClientOf pool.service pool.line.table.shared.table_id client

-- all the clients of a pool of counters
abbrev pub AreCounterClients : Pool Counters → List Client → Type 0
AreCounterClients pool clients = AreClients pool.service pool.line.table.shared.table_id clients

-- what a call hands back is a client of the pool between its calls, the same one that the call was given
pub record IsClientBack (pool : Pool Counters) (before after : Client) : Type 0 where
  pub client : IsCounterClient pool after
  pub same : IsSameClient before after
