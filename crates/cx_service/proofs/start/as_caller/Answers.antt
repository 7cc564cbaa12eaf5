use Rattle.std.proofs.Common.{rules, ◌≡◌}
use Rattle.cx_service.specs.Starts.{HasNoSets}
use Rattle.cx_service.proofs.Starting.{fresh_counted}
use Rattle.cx_service.proofs.start.as_caller.Goals as goal

pub invariant_of-result : goal.invariant_of-result
invariant_of-result c =
    let taken : c.in_ok-desk.desk.value.scratch.taken ≡ 0 = search rules in
    let fresh : HasNoSets c.in_ok-desk.desk.value.seat = search rules in
    fresh_counted c.in_ok-desk.desk.value.scratch.taken c.in_ok-desk.desk.value.seat taken fresh
