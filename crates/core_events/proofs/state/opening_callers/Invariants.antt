use Rattle.std.proofs.Common.{◌≡◌, map}
use Rattle.std.specs.List.{range_with_len}
use Rattle.cx_core.specs.State.{opening_local}
use Rattle.core_events.proofs.state.opening_callers.Given as goal

abbrev pub invariant-loop-caller : goal.invariant-loop-caller
invariant-loop-caller l = l.locals.items ≡ map (opening_local l.callers.number l.place) (range_with_len 0 l.caller)
