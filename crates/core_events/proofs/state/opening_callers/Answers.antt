use Rattle.std.proofs.Common.{arith}
use Rattle.std.proofs.lemmas.List.FromFn.{map-range_with_len_more}
use Rattle.cx_core.specs.State.{opening_local}
use Rattle.core_events.proofs.state.opening_callers.Goals as goal

pub loop-caller-preserved : goal.loop-caller-preserved
loop-caller-preserved c =
    let n = c.loop-caller.caller in
    let more = map-range_with_len_more (opening_local c.args.callers.number c.args.place) 0 n n (omega arith) in
    cc (more, c.in_ok-push.ensures.items, c.loop-caller.invariant, c.opening.ensures)
