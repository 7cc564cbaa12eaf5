use Rattle.std.proofs.Common.{◌≡◌}
use Rattle.table_invariant.specs.Running.{IsSeatOf}
use Rattle.table_invariant.specs.Seats.{IsAtLimit, StepsBy, StepsOn}
use Rattle.cx_attempts.specs.Taking.{unchanged_by_tries}
use Rattle.cx_attempts.proofs.Refusals.{IsRefusing}
use Rattle.cx_attempts.proofs.preparation.take_any.Given as goal

abbrev pub invariant-loop-tried : goal.invariant-loop-tried
invariant-loop-tried g l = record {
  of : IsSeatOf l.shared l.seat;
  rest : unchanged_by_tries l.seat ≡ unchanged_by_tries l.fn.seat;
  steps : StepsBy l.tried l.fn.seat l.seat;
  since : StepsOn l.fn.seat l.seat;
  refusing : IsRefusing l.shared.callers l.first l.tried l.fn.seat l.seat;
  stood : IsAtLimit l.fn.seat.known.local → (l.tried ≡ 0) × (l.seat ≡ l.fn.seat);
}
