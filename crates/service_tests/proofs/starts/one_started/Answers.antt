use Rattle.std.proofs.Common.{[]}
use Rattle.cx_service.specs.Callers.{IsCallerOf}
use Rattle.cx_service.proofs.Starting.{first_has}
use Rattle.service_tests.proofs.starts.one_started.Goals as goal

pub returns-in-Some : goal.returns-in-Some
returns-in-Some g c = first_has (IsCallerOf c.in-Ok.service) c.in-Ok.callers.items c.in-Some.caller [] c.in-Some.ensures c.in-Ok.ensures.each
