use Rattle.table_invariant.specs.Running.{instance_at}
use Rattle.table_invariant.specs.Seats.{known_of}
use Rattle.table_invariant.specs.Steps.{TeachesKept}
use Rattle.cx_table.proofs.shared.Shared.note_kept.Given as goal

abbrev pub ghosts-run : goal.ghosts-run
ghosts-run g a = record { tells = λ _ after. TeachesKept (instance_at a.self.now g.O.Object.step g.O.Object.only_reads) a.about.now.0 a.about.now.1.now (known_of a.seat.now.me.0) after }
