use Rattle.table_invariant.specs.Running.{instance_at}
use Rattle.cx_table.proofs.MadeSteps.{learns_made, shown_found}
use Rattle.cx_table.proofs.shared.Shared.stored.Goals as goal

pub stored_learned-requires-clause-learns : goal.stored_learned-requires-clause-learns
stored_learned-requires-clause-learns g c =
    learns_made (instance_at c.args.self.now g.O.Object.step g.O.Object.only_reads) c.args.kind.now c.args.seat.now.known c.args.word (λ _. c.args.new) c.requires.shown.shown c.requires.shown.fits c.requires.may.step.guard c.requires.shown.place c.requires.stores.puts

pub stored_learned-requires-clause-plain : goal.stored_learned-requires-clause-plain
stored_learned-requires-clause-plain g c = λ l found. shown_found (instance_at c.args.self.now g.O.Object.step g.O.Object.only_reads) c.args.kind.now l found c.requires.shown.shown

pub stored_learned-requires-clause-blind : goal.stored_learned-requires-clause-blind
stored_learned-requires-clause-blind g c = record { blind = c.requires.stores.blind; silent = c.requires.stores.silent }
