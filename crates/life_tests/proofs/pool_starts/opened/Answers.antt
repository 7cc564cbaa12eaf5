use Rattle.life_tests.proofs.NewCallers.{clients_of}
use Rattle.life_tests.proofs.pool_starts.opened.Goals as goal

pub returns-in-Ok-clause-clients : goal.returns-in-Ok-clause-clients
returns-in-Ok-clause-clients g c = clients_of c.in-Ok.pool _ _ _ c.in-Ok.clients.items c.in-Ok.ensures.opened.0 c.in-Ok.ensures.opened.2
