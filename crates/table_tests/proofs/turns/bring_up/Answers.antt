use Rattle.std.proofs.Common.{◌∙◌}
use Rattle.table_tests.proofs.Rights.{access_rights}
use Rattle.table_tests.proofs.turns.bring_up.Goals as goal

-- loading the place, applying the entries and the flush leave the caller's rights as they were
pub returns-clause-rights : goal.returns-clause-rights
returns-clause-rights g c =
    access_rights c.args.held.now.replica c.replay_protected.new.seat c.flush.new.seat c.in_ok-flush.ensures.persists.rest
    ∙ c.in_ok-replay_protected.ensures.rights
    ∙ access_rights c.args.held.now.replica c.args.seat.now c.begin.new.seat c.in_ok-before.ensures.leaves.rest
