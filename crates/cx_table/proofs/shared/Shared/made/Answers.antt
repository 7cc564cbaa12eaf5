use Rattle.table_invariant.specs.Running.{instance_at}
use Rattle.cx_table.specs.Words.{put_by}
use Rattle.cx_table.proofs.MadeSteps.{learns_made, made_shown}
use Rattle.cx_table.proofs.shared.Shared.made.Goals as goal

pub made_learned-requires-clause-learns : goal.made_learned-requires-clause-learns
made_learned-requires-clause-learns g c =
    learns_made (instance_at c.args.self.now g.O.Object.step g.O.Object.only_reads) c.args.kind.now c.args.seat.now.known c.args.word (put_by c.args.instruction) c.requires.shown.shown c.requires.shown.fits c.requires.may.step.guard c.requires.shown.place c.requires.puts

pub returns : goal.returns
returns g c = made_shown g.O.Object c.args.self.now c.args.kind.now c.args.seat.now _ _ c.requires.shown.shown c.made_learned.ensures
