use Rattle.c_images.proofs.Written.{within}
use Rattle.c_images.proofs.reader.base_of.Goals as goal

-- what recovery gives is taken up where its numbers are within the place, and refused where they are not
pub returns-in-Ok-recover-clause-answered : goal.returns-in-Ok-recover-clause-answered
returns-in-Ok-recover-clause-answered g c =
    let o = c.args.object.now in
    within (g.O.Object.version_number o) (g.O.Object.lawful o) (g.O.Object.old_format o) c.args.words.now c.in-Ok.image c.in-Ok-recover.base c.within.result c.in-Ok.ensures.said c.in-Ok-recover.ensures.recovers c.within.ensures
