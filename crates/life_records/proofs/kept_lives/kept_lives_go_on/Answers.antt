use Rattle.life_records.proofs.Keeping.{life_goes_on}
use Rattle.life_records.proofs.TypedSteps.{typed_steps}
use Rattle.life_records.proofs.kept_lives.kept_lives_go_on.Goals as goal

pub returns : goal.returns
returns g c =
    let o = c.args.object.now in
    let t = typed_steps _ _ (g.O.Object.opening o) _ (g.O.Object.only_reads o) (g.O.TypedObject.meaning o) c.steps_are_meant.ensures.object c.steps_are_meant.ensures.means in
    λ callers s store life report next law is kept. life_goes_on t callers c.args.base.now s store life report c.requires law is next kept
