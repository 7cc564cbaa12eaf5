use Rattle.table_invariant.specs.Running.{instance_at}
use Rattle.table_invariant.specs.Seats.{known_of}
use Rattle.table_invariant.specs.Steps.{KnowledgeAfter}
use Rattle.cx_table.proofs.shared.Shared.store_learned.Given as goal

abbrev pub ghosts-store_as : goal.ghosts-store_as
ghosts-store_as g a = record { tells = λ _. KnowledgeAfter (instance_at a.self.now g.O.Object.step g.O.Object.only_reads) a.kind.now (known_of a.seat.now.me.0) 0 }
