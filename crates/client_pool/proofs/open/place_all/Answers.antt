use Rattle.std.specs.Vec.Iter.{into_iter_items}
use Rattle.crossbeam_queue.specs.Passes.{view}
use Rattle.client_pool.proofs.Opening.{fits, is_next}
use Rattle.client_pool.proofs.open.place_all.Goals as goal

pub place-requires-clause-room : goal.place-requires-clause-room
place-requires-clause-room g c =
    let i = c.loop-caller.invariant in (
      fits c.args.service.now c.args.callers.items c.loop-caller.yielded (into_iter_items c.loop-caller.caller-iterator) (into_iter_items c.next.new.self) c.in-Some.caller c.requires.callers i.all c.in-Some.ensures.steps.0 (view c.loop-caller.pass) i.placed,
      c.requires.room,
    )

pub place-requires-clause-caller : goal.place-requires-clause-caller
place-requires-clause-caller g c =
    let i = c.loop-caller.invariant in
    is_next c.args.service.now c.args.callers.items c.loop-caller.yielded (into_iter_items c.loop-caller.caller-iterator) (into_iter_items c.next.new.self) c.in-Some.caller c.requires.callers i.all c.in-Some.ensures.steps.0 (view c.loop-caller.pass).home i.limits
