use Rattle.std.proofs.Common.{◌≤◌, ◌+◌, ◌^◌, length, sym, subst, ◌∙◌}
use Rattle.core_events.specs.Images.{OfCallers}
use Rattle.core_events.proofs.ImageLemmas.{history_callers, history_few}
use Rattle.core_events.proofs.sets.is_set_of.Goals as goal

pub full_image-requires-clause-few : goal.full_image-requires-clause-few
full_image-requires-clause-few g c =
    let base = c.args.base.now in
    subst (λ es. base.place + length es ≤ 2 ^ 40) (sym (c.as_slice-entries.ensures.value ∙ c.in_ok-history.ensures)) (history_few base.place c.args.locals.now c.requires.history.entries c.requires.history.base.place_within)

pub full_image-requires-clause-callers : goal.full_image-requires-clause-callers
full_image-requires-clause-callers g c =
    subst OfCallers (sym (c.as_slice-entries.ensures.value ∙ c.in_ok-history.ensures)) (history_callers c.args.base.now.place c.args.locals.now c.requires.history.entries)

pub full_image-requires-2-clause-few : goal.full_image-requires-2-clause-few
full_image-requires-2-clause-few g c =
    let base = c.args.base.now in
    subst (λ es. base.place + length es ≤ 2 ^ 40) (sym (c.as_slice-entries.ensures.value ∙ c.in_ok-history.ensures)) (history_few base.place c.args.locals.now c.requires.history.entries c.requires.history.base.place_within)

pub full_image-requires-2-clause-callers : goal.full_image-requires-2-clause-callers
full_image-requires-2-clause-callers g c =
    subst OfCallers (sym (c.as_slice-entries.ensures.value ∙ c.in_ok-history.ensures)) (history_callers c.args.base.now.place c.args.locals.now c.requires.history.entries)
