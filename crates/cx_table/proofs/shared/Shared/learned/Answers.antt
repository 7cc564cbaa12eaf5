use Rattle.table_invariant.proofs.Giving.{allows_learned}
use Rattle.cx_table.specs.Words.{put_by}
use Rattle.cx_table.proofs.shared.Shared.learned.Goals as goal

pub run-requires-clause-allows : goal.run-requires-clause-allows
run-requires-clause-allows g c = allows_learned _ _ _ _ _ _ (put_by c.args.instruction) c.requires.on.one c.requires.learns
