use Rattle.life_tests.proofs.NewCallers.{are_new}
use Rattle.life_tests.proofs.pool_starts.started.Goals as goal

pub returns-in-Ok : goal.returns-in-Ok
returns-in-Ok g c = are_new _ _ _ _ _ c.in-Ok.service c.in-Ok.callers.items c.in-Ok.ensures
