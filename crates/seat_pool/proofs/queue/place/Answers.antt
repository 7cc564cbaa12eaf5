use Rattle.crossbeam_queue.specs.Passes.{view, ruled_capacity}
use Rattle.seat_pool.proofs.Poolings.{is_short, learns, places}
use Rattle.seat_pool.proofs.queue.place.Goals as goal

pub push_as-requires-clause-rule : goal.push_as-requires-clause-rule
push_as-requires-clause-rule g c = (places _ _ c.args.service.now _ _ c.requires.pass.1 c.requires.pass.2 c.requires.room.0 c.requires.caller.0 c.requires.caller.1 c.requires.caller.2, learns _ c.args.service.now _ c.requires.pass.1)

pub unreachable-requires : goal.unreachable-requires
unreachable-requires g c = is_short (view c.args.pass.now) (ruled_capacity c.args.line.now) c.args.service.now.callers c.requires.pass.2 c.requires.room.0 c.requires.room.1 c.in-Err.ensures.rule.2
