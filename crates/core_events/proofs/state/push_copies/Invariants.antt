use Rattle.std.proofs.Common.{◌≡◌, ◌++◌}
use Rattle.cx_core.specs.State.{copies}
use Rattle.core_events.proofs.state.push_copies.Given as goal

abbrev pub invariant-loop : goal.invariant-loop
invariant-loop l = l.words.items ≡ l.initial.words.items ++ copies l.counter l.from
