use Rattle.std.proofs.Common.{arith}
use Rattle.redo_replay.proofs.Stored.{pair_leaves, pair_stored}
use Rattle.redo_replay.proofs.set_replay.put_pair.Goals as goal

pub returns-clause-stored : goal.returns-clause-stored
returns-clause-stored g c =
    pair_stored g.O.Object c.args.shared.now c.args.held.now c.args.at c.args.v c.args.seat.now c.store_held.new.seat c.store_held.result (omega arith) c.store_held.ensures.made

pub returns-clause-leaves : goal.returns-clause-leaves
returns-clause-leaves g c =
    pair_leaves g.O.Object c.args.shared.now c.args.held.now c.args.at c.args.v c.args.seat.now c.store_held.new.seat c.store_held.result c.store_held.ensures.made c.store_held.ensures.halted
    c.requires.held c.steps_are_within_limit.ensures c.requires.begun
