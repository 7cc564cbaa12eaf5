use Rattle.life_tests.specs.Tests.{IsClientBack}
use Rattle.life_tests.proofs.server.work.Given as goal

abbrev pub invariant-loop : goal.invariant-loop
invariant-loop g l = IsClientBack l.pool l.fn.client l.client
