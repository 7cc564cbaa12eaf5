-- How many steps of a run are a caller's.
use Rattle.std.specs.Prelude.{◌+◌, ◌==◌, ℕ, if◌then◌else◌, List, [], ◌∷◌}
use Rattle.cx_core.specs.declared.kinds.Event.{Event}

-- the number of events of a caller in a list of events
abbrev pub steps_of : ℕ → List Event → ℕ
steps_of caller [] = 0
steps_of caller (event ∷ events) = if event.caller == caller then steps_of caller events + 1 else steps_of caller events
