use Rattle.life_records.proofs.TypedSteps.{typed_steps}
use Rattle.pool_lives.proofs.Legal.{legal_life, report_is_told}
use Rattle.pool_lives.proofs.laws.told_pools_have_lived.Goals as goal

pub returns : goal.returns
returns g c =
    let o = c.args.object.now in
    let t = typed_steps _ _ (g.O.Object.opening o) _ (g.O.Object.only_reads o) (g.O.TypedObject.meaning o) c.steps_are_meant.ensures.object c.steps_are_meant.ensures.means in
    let base = c.args.base.now in
    λ callers s store life report next law is kept. (legal_life t callers base s store life report c.requires law is next kept, report_is_told t callers base s store life report c.requires law is)
