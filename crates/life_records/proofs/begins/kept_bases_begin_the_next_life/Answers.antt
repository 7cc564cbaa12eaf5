use Rattle.life_records.proofs.Keeping.{begins_next}
use Rattle.life_records.proofs.TypedSteps.{typed_steps}
use Rattle.life_records.proofs.begins.kept_bases_begin_the_next_life.Goals as goal

pub returns : goal.returns
returns g c =
    let o = c.args.object.now in
    let t = typed_steps _ _ (g.O.Object.opening o) _ (g.O.Object.only_reads o) (g.O.TypedObject.meaning o) c.steps_are_meant.ensures.object c.steps_are_meant.ensures.means in
    λ callers s begun life report next law begins is kept.
    begins_next t callers c.args.base.now s begun.store life report c.requires law is next kept begun begins
