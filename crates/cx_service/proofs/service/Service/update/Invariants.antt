use Rattle.std.proofs.Common.{◌≡◌, ◌≤◌}
use Rattle.table_invariant.specs.Seats.{IsAtLimit, images_of}
use Rattle.table_invariant.specs.Timing.{KeepsTimes}
use Rattle.cx_service.specs.Callers.{IsCallerOf}
use Rattle.cx_service.specs.Updates.{KeepsLists, SubmitsAgain}
use Rattle.cx_attempts.specs.Attempts.{StepsOn}
use Rattle.cx_service.proofs.service.Service.update.Given as goal

-- the caller is in no call, its lists are as they were, its scans are no fewer, and its front did not fall; where it was at its limit no step was
-- made. Each submit so far found others' links.
abbrev pub invariant-loop : goal.invariant-loop
invariant-loop g l = record {
  caller : IsCallerOf l.self l.caller;
  keeps : KeepsLists l.fn.caller l.caller;
  scans : l.fn.caller.known.local.scans ≤ l.caller.known.local.scans;
  front : l.fn.caller.known.local.front ≤ l.caller.known.local.front;
  stood : IsAtLimit l.fn.caller.known.local → l.caller ≡ l.fn.caller;
  tried : SubmitsAgain l.self l.op l.fn.caller l.caller;
  times : KeepsTimes l.fn.caller.known.times l.caller.known.times;
  since : StepsOn l.fn.caller l.caller;
  sets : l.caller.known.sets ≡ l.fn.caller.known.sets;
  met : l.caller.known.local.met ≡ l.fn.caller.known.local.met;
  images : images_of l.caller.known ≡ images_of l.fn.caller.known;
}
