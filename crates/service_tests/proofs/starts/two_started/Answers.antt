use Rattle.std.proofs.Common.{[], ◌∷◌}
use Rattle.cx_service.specs.Callers.{IsCallerOf}
use Rattle.cx_service.proofs.Starting.{first_has, second_has}
use Rattle.service_tests.proofs.starts.two_started.Goals as goal

pub returns-in-Some-clause-first : goal.returns-in-Some-clause-first
returns-in-Some-clause-first c = first_has (IsCallerOf c.in-Ok.service) c.in-Ok.callers.items c.in-Some.first (c.in-Some.second ∷ []) c.in-Some.ensures c.in-Ok.ensures.each

pub returns-in-Some-clause-second : goal.returns-in-Some-clause-second
returns-in-Some-clause-second c = second_has (IsCallerOf c.in-Ok.service) c.in-Ok.callers.items c.in-Some.first c.in-Some.second c.in-Some.ensures c.in-Ok.ensures.each
