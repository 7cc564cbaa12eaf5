use Rattle.replica.proofs.Replaying.{begins_ready, begins_unstored}
use Rattle.replica.proofs.replay.begin.Goals as goal

pub returns-clause-ready : goal.returns-clause-ready
returns-clause-ready g c = begins_ready g.O.Object c.args.shared.now c.args.held.now c.args.seat.now c.load_held.new.seat c.load_held.result c.requires.unchanged c.load_held.ensures.made

pub returns-clause-unstored : goal.returns-clause-unstored
returns-clause-unstored g c = begins_unstored g.O.Object c.args.shared.now c.args.held.now c.args.seat.now c.load_held.new.seat c.load_held.result c.requires.unchanged c.load_held.ensures.made
