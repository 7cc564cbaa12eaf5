use Rattle.service_tests.proofs.Replicas.{image_long}
use Rattle.service_tests.proofs.reopened.root_words.Goals as goal

pub returns : goal.returns
returns c = image_long c.args.medium.now 0 c.image.new.into c.requires.medium c.image.ensures
