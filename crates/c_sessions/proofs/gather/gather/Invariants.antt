use Rattle.std.proofs.Common.{◌≤◌, ◌-◌, List, length}
use Rattle.std.specs.Prelude.{vec_capacity}
use Rattle.table_invariant.specs.Running.{Running}
use Rattle.cx_service.specs.declared.close.Handed.{Handed}
use Rattle.c_sessions.specs.Handing.{HasTaken}
use Rattle.c_sessions.proofs.gather.gather.Given as goal

-- the callers of the service that were taken out are gathered
abbrev pub invariant-loop-pass : goal.invariant-loop-pass
invariant-loop-pass g l = record {
  taken : (r : Running g.row.O.Denot) (given : List Handed) → HasTaken r given l.handover l.fn.pass l.fn.share l.fn.gathered.items → HasTaken r given l.handover l.pass l.share l.gathered.items;
  room : l.handover.callers ≤ vec_capacity l.gathered;
}

-- how many callers of the service are not gathered yet: fewer in each round
abbrev pub decreases-loop-pass : goal.decreases-loop-pass
decreases-loop-pass g l = l.handover.callers - length l.gathered.items
