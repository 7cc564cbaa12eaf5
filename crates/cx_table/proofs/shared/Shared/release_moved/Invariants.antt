use Rattle.cx_core.specs.declared.kinds.Kind.TheVariants.{BackOff}
use Rattle.table_invariant.specs.Running.{instance_at}
use Rattle.table_invariant.specs.Seats.{known_of}
use Rattle.table_invariant.specs.Steps.{KnowledgeAfterCopy}
use Rattle.cx_table.proofs.shared.Shared.release_moved.Given as goal

abbrev pub ghosts-give_back : goal.ghosts-give_back
ghosts-give_back g a = record { tells = KnowledgeAfterCopy (instance_at a.self.now g.O.Object.step g.O.Object.only_reads) (BackOff a.source.replica) (known_of a.seat.now.me.0) }
