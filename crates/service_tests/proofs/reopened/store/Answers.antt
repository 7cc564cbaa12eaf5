use Rattle.service_tests.proofs.Replicas.{stored_replicas}
use Rattle.service_tests.proofs.reopened.store.Goals as goal

pub returns : goal.returns
returns c = stored_replicas c.args.medium.now c.store.new.self c.args.at c.args.word c.requires.medium c.store.ensures
