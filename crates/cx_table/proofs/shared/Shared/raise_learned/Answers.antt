use Rattle.table_invariant.proofs.Raising.{allows_raised}
use Rattle.cx_table.proofs.shared.Shared.raise_learned.Goals as goal

pub run-requires-clause-allows : goal.run-requires-clause-allows
run-requires-clause-allows g c = allows_raised _ c.args.code c.requires.learns.0 _ _ _ _ _ _ c.requires.on.one c.requires.learns.1
