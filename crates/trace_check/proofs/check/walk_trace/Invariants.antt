use Rattle.cx_core.specs.State.{Instance, opening_state}
use Rattle.trace_check.proofs.Walk.{Walked}
use Rattle.trace_check.proofs.check.walk_trace.Given as goal

abbrev pub invariant-loop-step : goal.invariant-loop-step
invariant-loop-step g l =
    let instance : Instance = record { callers = l.trace.callers; base = l.base; step = g.O.Object.step l.object; reads = g.O.Object.only_reads l.object } in
    Walked instance (opening_state l.trace.callers l.base) l.trace.steps l.step-index l.events l.crashes l.core
