-- A run goes on by a step.
use Rattle.std.proofs.Common.{List, [], ◌∷◌, ◌++◌, refl, subst}
use Rattle.cx_core.specs.declared.kinds.Event.{Event}
use Rattle.cx_core.specs.Events.{Makes, Run}
use Rattle.cx_core.specs.State.{Instance, State}

-- a run goes on by one event
pub run_push : (instance : Instance) (from : State) (events : List Event) (event : Event) (mid to : State) → Run instance from events mid → Makes instance event mid to → Run instance from (events ++ event ∷ []) to
run_push instance from [] event mid to run made = (to, subst (λ (s : State). Makes instance event s to) run made, refl)
run_push instance from (first ∷ events) event mid to run made = (run.0, run.1, run_push instance run.0 events event mid to run.2 made)
