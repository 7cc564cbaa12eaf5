use Rattle.std.proofs.Common.{◌++◌, ◌∷◌, All, ap, subst, sym, ◌∙◌}
use Rattle.std.proofs.lemmas.List.Elements.{All-head}
use Rattle.std.specs.Vec.Iter.{into_iter_items}
use Rattle.cx_service.specs.Starts.{HasNoSets}
use Rattle.cx_service.proofs.Starting.{right_has}
use Rattle.cx_service.proofs.start.as_callers.Goals as goal

pub as_caller-requires : goal.as_caller-requires
as_caller-requires c =
    let yielded = c.loop-seat.yielded in
    let seat = c.in-Some.seat in
    let rest = into_iter_items c.next.new.self in
    let all = ap (λ l. yielded ++ l) (sym c.in-Some.ensures.steps.0) ∙ c.loop-seat.invariant.all in
    record { fresh = All-head HasNoSets seat rest (right_has HasNoSets yielded (seat ∷ rest) (subst (All HasNoSets) (sym all) c.requires.fresh)) }
