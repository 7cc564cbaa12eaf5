use Rattle.std.proofs.Common.{◌≡◌}
use Rattle.client_pool.specs.Lending.{ComesFrom}
use Rattle.client_pool.proofs.read_beside.read_beside.Given as goal

abbrev pub invariant-loop : goal.invariant-loop
invariant-loop g l = record { same : l.lent ≡ l.fn.lent; since : ComesFrom l.pool.service l.fn.caller l.caller }
