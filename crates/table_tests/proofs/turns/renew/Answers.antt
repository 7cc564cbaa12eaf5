use Rattle.std.proofs.Common.{Some, None, ap, ◌∙◌}
use Rattle.strong_trylock.specs.Held.{AllRights}
use Rattle.table_tests.proofs.turns.renew.Goals as goal

-- the exclusive right was downgraded, and the downgraded one released, so that no right is left
pub returns-clause-free : goal.returns-clause-free
returns-clause-free g c =
    c.in_ok-release_downgraded.ensures.step.made.rights
    ∙ ap (λ (x : AllRights). (let y : AllRights = record x { downgraded = None } in y))
    (c.in_ok-token.ensures.made.rights ∙ ap (λ (x : AllRights). (let y : AllRights = record x { exclusive = None; downgraded = Some c.args.held.replica } in y)) (c.in_ok-places.ensures.rights ∙ c.requires.free))
