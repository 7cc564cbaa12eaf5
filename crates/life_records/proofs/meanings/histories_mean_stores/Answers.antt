use Rattle.life_records.proofs.Steps.{mean_stores}
use Rattle.life_records.proofs.TypedSteps.{typed_steps}
use Rattle.life_records.proofs.meanings.histories_mean_stores.Goals as goal

pub returns : goal.returns
returns g c =
    let o = c.args.object.now in
    let t = typed_steps _ _ (g.O.Object.opening o) _ (g.O.Object.only_reads o) (g.O.TypedObject.meaning o) c.steps_are_meant.ensures.object c.steps_are_meant.ensures.means in
    λ most life history journal store limits op_values are stands. mean_stores t life limits op_values c.args.base.now c.requires history journal store are stands
