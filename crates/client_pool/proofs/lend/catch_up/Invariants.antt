use Rattle.client_pool.specs.Lending.{ComesFrom}
use Rattle.client_pool.proofs.lend.catch_up.Given as goal

abbrev pub invariant-loop : goal.invariant-loop
invariant-loop g l = ComesFrom l.service l.fn.caller l.caller
