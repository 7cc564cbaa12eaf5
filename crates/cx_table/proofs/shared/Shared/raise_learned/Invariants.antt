use Rattle.std.specs.Prelude.{List}
use Rattle.cx_core.specs.declared.local.Answer.{Answer}
use Rattle.table_invariant.specs.Raises.{IsRaiseLearned, TeachesRaised}
use Rattle.table_invariant.specs.Running.{instance_at}
use Rattle.table_invariant.specs.Seats.{known_of}
use Rattle.cx_table.proofs.shared.Shared.raise_learned.Given as goal

abbrev pub ghosts-run : goal.ghosts-run
ghosts-run g a = record { tells = λ _ after. (answers : List Answer) → IsRaiseLearned (instance_at a.self.now g.O.Object.step g.O.Object.only_reads) a.about.now.0 answers a.about.now.1 (known_of a.seat.now.me.0) a.word → TeachesRaised (instance_at a.self.now g.O.Object.step g.O.Object.only_reads) a.about.now.0 answers a.about.now.1 (known_of a.seat.now.me.0) after }
