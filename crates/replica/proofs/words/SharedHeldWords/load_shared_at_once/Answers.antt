use Rattle.replica.proofs.Access.{shared_guard, at_once_by_shared_load}
use Rattle.replica.proofs.words.SharedHeldWords.load_shared_at_once.Goals as goal

pub load_at_once-requires-clause-may : goal.load_at_once-requires-clause-may
load_at_once-requires-clause-may g c = record { seat = c.requires.held.of; guard = shared_guard _ c.args.self.now _ c.args.held.now c.replica.result c.args.at c.args.seat.now c.replica.ensures c.requires.held c.requires.at }

pub returns-clause-made : goal.returns-clause-made
returns-clause-made g c =
    at_once_by_shared_load (g.O.Object.line_count c.args.self.now.object) c.args.self.now g.O.Object.step g.O.Object.only_reads (g.O.Object.lawful c.args.self.now.object) c.args.held.now c.replica.result c.args.at c.args.seat.now c.load_at_once.new.seat c.load_at_once.result c.replica.ensures c.requires.held c.load_at_once.ensures.made c.load_at_once.ensures.fits
