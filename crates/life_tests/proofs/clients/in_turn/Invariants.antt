use Rattle.std.proofs.Common.{◌≡◌, ◌++◌}
use Rattle.std.specs.Prelude.{All}
use Rattle.std.specs.List.{AllZip}
use Rattle.std.specs.Vec.Iter.{into_iter_items}
use Rattle.life_tests.specs.Tests.{IsClientBack, IsCounterClient}
use Rattle.life_tests.proofs.clients.in_turn.Given as goal

-- the first clients worked
abbrev pub invariant-loop-client : goal.invariant-loop-client
invariant-loop-client g l = record {
  back : AllZip (IsClientBack l.pool) l.yielded l.worked.items;
  all : l.yielded ++ into_iter_items l.client-iterator ≡ l.fn.clients.items;
  rest : All (IsCounterClient l.pool) (into_iter_items l.client-iterator);
}
