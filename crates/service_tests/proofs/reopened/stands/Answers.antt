use Rattle.service_tests.proofs.Replicas.{image_long}
use Rattle.service_tests.proofs.reopened.stands.Goals as goal

pub loop-choice-preserved : goal.loop-choice-preserved
loop-choice-preserved c = image_long c.args.medium.now c.loop-choice.choice c.image.new.into c.requires.medium c.image.ensures
