use Rattle.table_invariant.proofs.Giving.{allows_learned_store}
use Rattle.cx_table.proofs.shared.Shared.store_learned.Goals as goal

pub store_as-requires-clause-allows : goal.store_as-requires-clause-allows
store_as-requires-clause-allows g c = allows_learned_store _ _ _ _ _ _ _ c.requires.on.one c.requires.learns c.requires.plain c.requires.blind
