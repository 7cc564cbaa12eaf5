use Rattle.table_invariant.proofs.Keeps.{allows_found}
use Rattle.cx_table.proofs.shared.Shared.event.Goals as goal

pub run-requires-clause-allows : goal.run-requires-clause-allows
run-requires-clause-allows g c = allows_found c.args.self.now _ _ _ _ _ _ _ _ _ c.requires.event c.requires.puts
