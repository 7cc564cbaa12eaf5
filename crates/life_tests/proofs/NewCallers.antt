-- A service's callers are new, and so a pool of them is opened.
use Rattle.std.proofs.Common.{◌≡◌, ℕ, List, [], ◌∷◌, map, refl, sym, subst}
use Rattle.std.specs.Prelude.{All}
use Rattle.std.specs.List.{range_with_len}
use Rattle.std.proofs.lemmas.List.Elements.{All-cons, All-head, All-nil, All-tail}
use Rattle.bounded_counters.specs.declared.counters.Counters.{Counters}
use Rattle.cx_core.specs.declared.entry.Base.{Base}
use Rattle.table_invariant.specs.Running.{Running}
use Rattle.table_invariant.specs.Seats.{Seated}
use Rattle.cx_service.specs.Callers.{IsCallerOf}
use Rattle.cx_service.specs.Starts.{Starts}
use Rattle.cx_table.specs.Remains.{opening_seat}
use Rattle.client_pool.specs.Pools.{AreClients, AreNewCallers, AreNewClients, IsNewCaller}
use Rattle.client_pool.specs.declared.client.Client.{Client}
use Rattle.client_pool.specs.declared.pool.Pool.{Pool}
use Rattle.life_tests.specs.Tests.{AreCounterClients}

module _ {O : Type 0} where
  each_new : (r : Running O) (limits numbers : List ℕ) → All (IsCallerOf r) (map (opening_seat r limits) numbers) → All (IsNewCaller r) (map (opening_seat r limits) numbers)
  each_new r limits [] all = All-nil (IsNewCaller r)
  each_new r limits (n ∷ numbers) all =
      let seat = opening_seat r limits n in
      let rest = map (opening_seat r limits) numbers in
      All-cons (IsNewCaller r) seat rest (record { caller = All-head (IsCallerOf r) seat rest all; none = refl }) (each_new r limits numbers (All-tail (IsCallerOf r) seat rest all))

  pub are_new : (object : O) (lines callers : ℕ) (limits : List ℕ) (base : Base) (r : Running O) (seats : List Seated) → Starts object lines callers limits base r seats → AreNewCallers r seats
  are_new object lines callers limits base r seats starts =
      let numbers = range_with_len 0 callers in
      record {
        each = subst (All (IsNewCaller r)) (sym starts.opened) (each_new r limits numbers (subst (All (IsCallerOf r)) starts.opened starts.each));
        numbers = starts.all.numbers;
      }

-- and so are its clients
pub clients_of : (pool : Pool Counters) (r : Running Counters) (limits : List ℕ) (count : ℕ) (clients : List Client) → pool.service ≡ r → AreNewClients r pool.line.table.shared.table_id limits count clients → AreCounterClients pool clients
clients_of pool r limits count clients same new = subst (λ (x : Running Counters). AreClients x pool.line.table.shared.table_id clients) (sym same) new.clients_are
