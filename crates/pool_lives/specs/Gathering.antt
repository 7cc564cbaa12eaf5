-- The results of the workers of the first clients, up to some number, put together.
use Rattle.std.specs.Prelude.{◌≡◌, ◌+◌, ◌≤◌, ◌||◌, ℕ, List, [], ◌∷◌, ◌++◌, All, MatchBool, Some, length, map, slice_get}
use Rattle.std.specs.List.{AllZip, range_with_len}
use Rattle.atomic_table.specs.Seated.{TableId}
use Rattle.table_invariant.specs.Running.{Running}
use Rattle.client_pool.specs.Clients.{HasCalls, entries_called}
use Rattle.client_pool.specs.declared.call.Call.{Call}
use Rattle.client_pool.specs.declared.client.Client.{Client}
use Rattle.life_records.specs.Records.{JournalLine, Life, Meaning, ReadLine}
use Rattle.life_records.specs.Scripts.{own_ops}
use Rattle.life_records.specs.Works.{AreWorks}
use Rattle.pool_lives.specs.Asking.{MayAsk}
use Rattle.pool_lives.specs.Ghosts.{IsCallAt, locals_from}
use Rattle.pool_lives.specs.Working.{CannotBeLeft, HasClosing}
use Rattle.pool_lives.specs.declared.gather.GatheredClients.{GatheredClients}
use Rattle.pool_lives.specs.declared.work.ServedClient.{ServedClient}

-- the line of an answer of some client: it has the place of its command's call
pub record IsLineAt (calls : List (List Call)) (client command at next : ℕ) : Type 0 where
  pub own : List Call
  pub of_client : slice_get calls client ≡ Some own
  pub is : IsCallAt own command at next

-- the lines of all clients
pub record HaveLines {Op Reply Store : Type 0} (m : Meaning Op Reply Store) (life : Life Op) (calls : List (List Call)) (entries : List (JournalLine Reply)) (reads : List (ReadLine Reply)) : Type 0 where
  pub works : AreWorks m.encoding life (locals_from 0 calls) entries reads [] []
  pub entries_at : All (λ (line : JournalLine Reply). IsLineAt calls line.client line.command line.ticket (line.ticket + 1)) entries
  pub reads_at : All (λ (line : ReadLine Reply). IsLineAt calls line.client line.command line.place line.place) reads

-- some client has what none can have
pub record ClientHasImpossibleEnd {Op Reply Store : Type 0} (m : Meaning Op Reply Store) (life : Life Op) (clients : List Client) (calls : List (List Call)) : Type 0 where
  pub number : ℕ
  pub client : Client
  pub there : slice_get clients number ≡ Some client
  pub own : List Call
  pub of_client : slice_get calls number ≡ Some own
  pub cannot : CannotBeLeft m life number client own

-- the clients, from client 0 on, with the calls that each made, and the lines of all, where no client has what none can have; the last one has what
-- closing the pool takes
pub record AreClientsGathered {O Op Reply Store : Type 0} (m : Meaning Op Reply Store) (life : Life Op) (r : Running O) (table : TableId) (g : GatheredClients Reply) : Type 0 where
  pub each : All (MayAsk r table) g.clients.items
  pub numbers : map (λ (c : Client). c.number) g.clients.items ≡ range_with_len 0 (length g.clients.items)
  pub closing : All (HasClosing r table life.clients) g.clients.items
  pub calls : List (List Call)
  pub has : AllZip (HasCalls r) g.clients.items calls
  pub few : (number : ℕ) (own : List Call) → slice_get calls number ≡ Some own → length (entries_called own) ≤ length (own_ops number life.commands)
  pub works : MatchBool g.impossible (ClientHasImpossibleEnd m life g.clients.items calls) (HaveLines m life calls g.lines.entries.items g.lines.reads.items)

-- the clients and lines before, with those of the next client added
pub record AddsServed {Reply : Type 0} (before after : GatheredClients Reply) (served : ServedClient Reply) : Type 0 where
  pub client : after.clients.items ≡ before.clients.items ++ served.client ∷ []
  pub entries : after.lines.entries.items ≡ before.lines.entries.items ++ served.lines.entries.items
  pub reads : after.lines.reads.items ≡ before.lines.reads.items ++ served.lines.reads.items
  pub impossible_is : after.impossible ≡ (before.impossible || served.impossible)
