use Rattle.cx_core.specs.declared.kinds.Kind.TheVariants.{BackOff}
use Rattle.table_invariant.specs.Running.{instance_at}
use Rattle.table_invariant.specs.Seats.{known_of}
use Rattle.table_invariant.specs.Steps.{TeachesImage}
use Rattle.cx_table.proofs.shared.Shared.release_with_image.Given as goal

abbrev pub ghosts-give_back : goal.ghosts-give_back
ghosts-give_back g a = record { tells = TeachesImage (instance_at a.self.now g.O.Object.step g.O.Object.only_reads) (BackOff a.source.replica) a.about.now.now (known_of a.seat.now.me.0) }
