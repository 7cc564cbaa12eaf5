use Rattle.life_records.proofs.Fresh.{begins_empty}
use Rattle.life_records.proofs.TypedSteps.{typed_steps}
use Rattle.life_records.proofs.begins.fresh_bases_begin_with_nothing.Goals as goal

pub returns : goal.returns
returns g c =
    let o = c.args.object.now in
    let t = typed_steps _ _ (g.O.Object.opening o) _ (g.O.Object.only_reads o) (g.O.TypedObject.meaning o) c.steps_are_meant.ensures.object c.steps_are_meant.ensures.means in
    begins_empty t (g.met.O.Object.opens o) c.args.base.now c.requires.place c.requires.words
