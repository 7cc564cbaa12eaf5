use Rattle.std.proofs.Common.{◌∙◌}
use Rattle.pool_lives.proofs.Opening.{started}
use Rattle.pool_lives.proofs.start.start.Goals as goal

pub returns-in-Ok-clause-ready : goal.returns-in-Ok-clause-ready
returns-in-Ok-clause-ready g c =
    started c.args.object.now c.duplicate.result (g.O.Object.line_count c.duplicate.result) c.args.seats c.deref.result.now c.args.base.now c.in-Ok.started.0 c.in-Ok.started.1.items c.duplicate.ensures
    (c.deref.ensures.value ∙ c.in_ok-limits.ensures.items_if_clones_equal (λ y same. same)) c.in-Ok.ensures
