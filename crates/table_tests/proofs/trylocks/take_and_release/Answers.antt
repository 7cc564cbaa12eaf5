use Rattle.std.proofs.Common.{ap}
use Rattle.cx_base.specs.Tally.{IsTally}
use Rattle.cx_table.specs.Seats.{Seated}
use Rattle.table_tests.proofs.Replays.{just_taken}
use Rattle.table_tests.proofs.trylocks.take_and_release.Goals as goal

-- nothing was stored to the replica since it was taken, so that it may be released
pub release-requires-clause-replayed : goal.release-requires-clause-replayed
release-requires-clause-replayed c =
    just_taken c.args.shared.now.lines IsTally c.args.shared.now.base _ c.try_exclusive.new.seat.known (ap (λ (s : Seated). s.known.accesses) c.in_ok-held.ensures.made.made.made)
