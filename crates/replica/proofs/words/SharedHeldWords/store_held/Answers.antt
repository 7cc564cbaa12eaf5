use Rattle.replica.proofs.Access.{store_guard, made_by_store}
use Rattle.replica.proofs.words.SharedHeldWords.store_held.Goals as goal

pub store_word-requires : goal.store_word-requires
store_word-requires g c = record { seat = c.requires.held.of; guard = store_guard _ c.args.self.now _ (g.O.Object.step c.args.self.now.object) c.args.held.now c.replica.result c.args.at c.args.seat.now c.replica.ensures c.requires.held c.requires.at }

pub returns-clause-made : goal.returns-clause-made
returns-clause-made g c =
    made_by_store (g.O.Object.line_count c.args.self.now.object) c.args.self.now g.O.Object.step g.O.Object.only_reads (g.O.Object.lawful c.args.self.now.object) c.args.held.now c.replica.result c.args.at c.args.v c.args.seat.now c.store_word.new.seat c.store_word.result c.replica.ensures c.requires.at c.requires.held c.store_word.ensures.made c.store_word.ensures.fits
