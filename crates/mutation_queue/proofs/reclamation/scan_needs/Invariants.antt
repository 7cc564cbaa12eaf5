use Rattle.std.proofs.Common.{◌+◌, ◌≤◌}
use Rattle.cx_table.specs.Running.{IsSeatOf}
use Rattle.cx_table.specs.Seats.{IsAtLimit}
use Rattle.mutation_queue.specs.Collecting.{Scans}
use Rattle.mutation_queue.proofs.reclamation.scan_needs.Given as goal

-- the callers so far were scanned
abbrev pub invariant-loop-d : goal.invariant-loop-d
invariant-loop-d g l = record {
  scans : Scans l.target l.d l.fn.seat l.seat;
  steps : l.seat.known.local.steps ≤ l.fn.seat.known.local.steps + l.d + 1;
  allowed : ¬ IsAtLimit l.fn.seat.known.local;
  of : IsSeatOf l.shared l.seat;
}
