use Rattle.cx_base.specs.Tally.{IsTally, tally_step}
use Rattle.replica.specs.Held.{IsHeld}
use Rattle.table_tests.proofs.flush_tests.store_and_flush.Given as goal

-- the caller still holds the replica exclusively
abbrev pub invariant-loop-at : goal.invariant-loop-at
invariant-loop-at l = IsHeld 64 l.shared IsTally tally_step l.seat l.held
