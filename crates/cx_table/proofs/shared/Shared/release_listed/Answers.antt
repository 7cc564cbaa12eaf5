use Rattle.std.proofs.Common.{refl}
use Rattle.table_invariant.specs.Running.{instance_at}
use Rattle.table_invariant.proofs.Listing.{learns_listed}
use Rattle.cx_table.proofs.GapSteps.{listed_copies}
use Rattle.cx_table.proofs.shared.Shared.release_listed.Goals as goal

pub release_moved-requires-clause-moved : goal.release_moved-requires-clause-moved
release_moved-requires-clause-moved g c =
    let instance = instance_at c.args.self.now g.O.Object.step g.O.Object.only_reads in
    let listed = c.requires.listed in
    record {
      held = listed.held;
      source = listed.source;
      dirty = λ some. listed_copies instance c.args.seat.now c.args.held.now c.args.source some listed;
      learned = learns_listed instance c.args.source.replica c.args.seat.now.known _ listed.lines listed.from listed.to listed.lists listed.source.few listed.source.holds refl listed.long listed.agree;
    }
